-- Keys that are found again by their buckets.
use Rattle.std.specs.Prelude.{◌≡◌, ℕ, ◌+◌, ◌*◌, ◌%◌, max, Bool, false, ◌||◌, List, Option, None, Some, length, slice_get}
use Rattle.sorted_sets.specs.Rising.{has}
use Rattle.slot_keys.specs.declared.key.Key.{Key}
use Rattle.slot_keys.specs.Keys.{key_cmp, same_key}
use Rattle.slot_keys.specs.declared.added.Added.{Added}

-- the bucket of a key among so many
unfoldable pub bucket_of : Key → ℕ → ℕ
bucket_of key buckets = (key.first * 2246822519 + key.second * 668265263 + key.third * 374761393) % max buckets 1

-- what a key's bucket has, where there is one
abbrev pub first_of : List (Option Key) → Key → Option (Option Key)
first_of firsts key = slice_get firsts (bucket_of key (length firsts))

-- a key is in its bucket or among the others, and only in its bucket where that is empty
abbrev pub is_there : Option (Option Key) → Key → Bool → Bool
is_there None key other = other
is_there (Some None) key other = false
is_there (Some (Some first)) key other = same_key key first || other

-- whether a key was added
abbrev pub is_added : Added → Key → Bool
is_added added key = is_there (first_of added.firsts.items key) key (has key_cmp key added.others.keys)

-- the bucket of none of the others is empty
pub record AreApart (added : Added) : Type 0 where
  pub apart : (key : Key) → first_of added.firsts.items key ≡ Some None → has key_cmp key added.others.keys ≡ false

-- whether a key is among old ones or was added
abbrev pub is_held : List Key → Added → Key → Bool
is_held old added key = has key_cmp key old || is_added added key
