-- How many times each key of an owner comes.
use Rattle.std.specs.Prelude.{◌≡◌, ◌+◌, ◌<◌, ℕ, cond, nat_lt, List, [], ◌∷◌, length, get_or, count_by}
use Rattle.slot_keys.specs.declared.key.Key.{Key}
use Rattle.slot_keys.specs.Keys.{same_key}

-- the count beside a key in a list, and 0 where the key isn't there
abbrev pub count_beside : List Key → List ℕ → Key → ℕ
count_beside [] counts key = 0
count_beside (k ∷ keys) [] key = 0
count_beside (k ∷ keys) (n ∷ counts) key = cond (same_key key k) n (count_beside keys counts key)

-- how many times a key stands in a list
abbrev pub key_times : Key → List Key → ℕ
key_times key keys = count_by (same_key key) keys

-- the counts of the keys after more of them came, one by one
pub record AddKeys (keys : List Key) (old new : List ℕ) (met : List Key) : Type 0 where
  pub as_many : length new ≡ length old
  pub counted : (index : ℕ) (other : Key) → index < length keys → get_or new index 0 ≡ get_or old index 0 + key_times (get_or keys index other) met

-- the same where each key began with the count beside it in another list
pub record MovesKeys (had : List Key) (left : List ℕ) (keys : List Key) (counts : List ℕ) (met : List Key) : Type 0 where
  pub as_many : length counts ≡ length keys
  pub counted : (index : ℕ) (other : Key) → index < length keys → get_or counts index 0 ≡ count_beside had left (get_or keys index other) + key_times (get_or keys index other) met

-- the keys whose counts aren't 0
abbrev pub counted_keys : List Key → List ℕ → List Key
counted_keys [] counts = []
counted_keys (k ∷ keys) [] = []
counted_keys (k ∷ keys) (n ∷ counts) = cond (nat_lt 0 n) (k ∷ counted_keys keys counts) (counted_keys keys counts)
