-- How many times each triple of an owner comes: several parts of what it has may give one triple.
use Rattle.std.specs.Prelude.{◌≡◌, ◌+◌, ◌<◌, ◌≤◌, false, ℕ, cond, List, length, get_or, count_by}
use Rattle.std.specs.Ordering.{eq_by_cmp}
use Rattle.sorted_sets.specs.Rising.{has}
use Rattle.rdf_term.specs.{declared.triple.Triple.Triple, Order.triple_cmp}
use Rattle.text_region.specs.Region.{Texts}
use Rattle.slot_keys.specs.declared.key.Key.{Key}
use Rattle.triple_catalog.specs.{declared.catalog.Catalog.Catalog, Slots.triple_at, Stored.AreKeysOf}

-- how many times a triple stands in a list
abbrev pub times : Triple → List Triple → ℕ
times t ts = count_by (eq_by_cmp triple_cmp t) ts

-- the triple of the key at an index
abbrev pub triple_of_key : Catalog → Texts → List Key → ℕ → Key → Triple
triple_of_key store texts keys index other = triple_at store.pool texts (get_or keys index other)

-- the keys are those of the triples, and each count says how many times the triple of its key stands among these
pub record AreTimesOf (store : Catalog) (texts : Texts) (keys : List Key) (counts : List ℕ) (triples : List Triple) : Type 0 where
  pub keys_of : AreKeysOf store texts keys triples
  pub as_many : length counts ≡ length keys
  pub counted : (index : ℕ) (other : Key) → index < length keys → get_or counts index 0 ≡ times (triple_of_key store texts keys index other) triples

-- the counts of the keys after more triples came
pub record AddTimes (store : Catalog) (texts : Texts) (keys : List Key) (old new : List ℕ) (triples : List Triple) : Type 0 where
  pub as_many : length new ≡ length old
  pub counted : (index : ℕ) (other : Key) → index < length keys → get_or new index 0 ≡ get_or old index 0 + times (triple_of_key store texts keys index other) triples

-- each key counts once, but not those of these triples
pub record AreLeftWithout (store : Catalog) (texts : Texts) (keys : List Key) (left : List ℕ) (gone : List Triple) : Type 0 where
  pub as_many : length left ≡ length keys
  pub counted : (index : ℕ) (other : Key) → index < length keys → get_or left index 0 ≡ cond (has triple_cmp (triple_of_key store texts keys index other) gone) 0 1

-- some triples of an owner are gone, each from among those that it had, and others came: so it has these now
pub record Becomes (old new gone come : List Triple) : Type 0 where
  pub balance : (t : Triple) → times t new + times t gone ≡ times t old + times t come
  pub within : (t : Triple) → times t gone ≤ times t old

-- an owner had some triples under these keys, and so many are left of each; with those that come it has the triples that it has now
pub record ComesTo (store : Catalog) (texts : Texts) (keys : List Key) (left : List ℕ) (come before after : List Triple) : Type 0 where
  pub keys_of : AreKeysOf store texts keys before
  pub counted : (index : ℕ) (other : Key) → index < length keys → times (triple_of_key store texts keys index other) after ≡ get_or left index 0 + times (triple_of_key store texts keys index other) come
  pub others : (t : Triple) → has triple_cmp t before ≡ false → times t after ≡ times t come

-- one of the triples goes more often than it comes in a list
pub record Exceeds (gone before : List Triple) : Type 0 where
  pub triple : Triple
  pub more : times triple before < times triple gone
