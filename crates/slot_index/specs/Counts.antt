-- How many owners each key of a map has, and the stored triples with the number of entities that own each.
use Rattle.std.specs.Prelude.{◌≡◌, ℕ, zero, suc, ◌+◌, ◌-◌, ◌<◌, true, List, unwrap_or}
use Rattle.std.specs.Coded.{Coded, coded_ℕ}
use Rattle.std.specs.FinMap as map
use Rattle.std.specs.declared.cmp.Ordering.{Ordering}
use Rattle.slot_keys.specs.declared.key.Key.{Key}
use Rattle.slot_keys.specs.Keys.{key_cmp}
use Rattle.slot_keys.specs.contracts.key.Key as key

module _ {K : Type 0} {R : K → K → Ordering} where
  -- how many own a key: none where it isn't stored
  abbrev pub count_of : map.FinMap R ℕ → K → ℕ
  count_of counts k = unwrap_or (map.get counts k) 0

  -- the counts with another count of one key, which is stored only where the count isn't 0
  abbrev pub with_count : map.FinMap R ℕ → K → ℕ → map.FinMap R ℕ
  with_count counts k zero = map.remove counts k
  with_count counts k (suc n) = map.insert counts k (suc n)

  -- with one owner more of a key
  abbrev pub raised : map.FinMap R ℕ → K → map.FinMap R ℕ
  raised counts k = with_count counts k (count_of counts k + 1)

  -- with one owner less of a key
  abbrev pub lowered : map.FinMap R ℕ → K → map.FinMap R ℕ
  lowered counts k = with_count counts k (count_of counts k - 1)

  -- each stored key has an owner
  abbrev pub HaveOwners : map.FinMap R ℕ → Type 0
  HaveOwners counts = (k : K) → map.contains_key counts k ≡ true → 0 < count_of counts k

-- the count of each stored triple
abbrev pub KeyCounts : Type 0
KeyCounts = map.FinMap key_cmp ℕ

-- how counts are stored as a value
abbrev pub counts_code : Coded KeyCounts
counts_code = map.code (key.the_row).coded coded_ℕ

-- triples and their counts as a map
abbrev pub counts_of : List (Key × ℕ) → KeyCounts
counts_of entries = map.from_entries entries
