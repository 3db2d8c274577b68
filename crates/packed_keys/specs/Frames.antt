-- What a number of a frame stands for.
use Rattle.std.specs.Prelude.{ℕ, ◌+◌, ◌/◌, ◌%◌, ◌^◌, ◌<◌}
use Rattle.slot_keys.specs.declared.key.Key.{Key}
use Rattle.packed_keys.specs.declared.frame.Frame.{Frame}

-- the slot that is so far above the least one, in 32 bits
abbrev pub slot_above : ℕ → ℕ → ℕ
slot_above least offset = (least + offset % 2 ^ 32) % 2 ^ 32

-- the key whose three slots are so far above the least ones as the number's parts say: the low bits are the third slot's, those above them
-- the second's, and all others the first's
abbrev pub key_at : Frame → ℕ → Key
key_at frame number = record {
  first = slot_above frame.least.first (number / 2 ^ frame.third / 2 ^ frame.second);
  second = slot_above frame.least.second (number / 2 ^ frame.third % 2 ^ frame.second);
  third = slot_above frame.least.third (number % 2 ^ frame.third);
}

-- each slot of the key with this number is what it is without its rest in 32 bits; such numbers are ordered as their keys are
abbrev pub IsIn : Frame → ℕ → Type 0
IsIn frame number =
    (frame.least.first + number / 2 ^ frame.third / 2 ^ frame.second < 2 ^ 32)
    × (frame.least.second + number / 2 ^ frame.third % 2 ^ frame.second < 2 ^ 32)
    × (frame.least.third + number % 2 ^ frame.third < 2 ^ 32)
