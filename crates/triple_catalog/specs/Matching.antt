-- Which triples of slots agree with a pattern of terms.
use Rattle.std.specs.Prelude.{ℕ, Bool, false, Option, None, Some}
use Rattle.slot_keys.specs.declared.key.Key.{Key}
use Rattle.slot_index.specs.{declared.pattern.SlotPattern.SlotPattern, Patterns.slots_agree, Patterns.slot_agrees_at}

-- a slot agrees with what is wanted at a place: none does where the wanted term is in no slot
abbrev pub slot_agrees : Option (Option ℕ) → ℕ → Bool
slot_agrees None slot = false
slot_agrees (Some wanted) slot = slot_agrees_at wanted slot

-- and so does a triple of slots
abbrev pub key_agrees : Option SlotPattern → Key → Bool
key_agrees None key = false
key_agrees (Some pattern) key = slots_agree pattern key
