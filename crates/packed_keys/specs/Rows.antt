-- The keys of a block, and what it begins with.
use Rattle.std.specs.Prelude.{◌≡◌, ◌<◌, ◌≤◌, List, length, slice_index_or}
use Rattle.slot_keys.specs.declared.key.Key.{Key}
use Rattle.packed_keys.specs.declared.rows.Rows.{Rows}
use Rattle.packed_keys.specs.declared.rows.Rows.TheVariants.{Narrow, Middle, Wide, Whole}

-- the keys, in cells of whatever size
abbrev pub keys_of : Rows → List Key
keys_of (Narrow keys) = keys
keys_of (Middle keys) = keys
keys_of (Wide keys) = keys
keys_of (Whole keys) = keys.items

-- the keys begin with this one
abbrev pub IsFirst : Key → List Key → Type 0
IsFirst first keys = (d : Key) → slice_index_or keys 0 d ≡ first

-- a block has 1 to 128 keys
abbrev pub IsFilled : List Key → Type 0
IsFilled keys = (0 < length keys) × (length keys ≤ 128)
