-- What contracts say of a store and the region that has its texts.
use Rattle.std.specs.Prelude.{◌≡◌, ◌≢◌, ℕ, ◌<◌, Bool, true, List, Option}
use Rattle.std.specs.Prelude.{map as mapped}
use Rattle.std.specs.FinMap as map
use Rattle.sorted_sets.specs.Rising.{IsRising, has}
use Rattle.rdf_term.specs.{declared.triple.Triple.Triple, Order.triple_cmp}
use Rattle.text_region.specs.{declared.piece.Piece.Piece, Region.Texts}
use Rattle.term_pool.specs.Pool.{LiesIn, count_at, beside as pool_beside}
use Rattle.slot_keys.specs.{declared.key.Key.Key, Keys.key_cmp}
use Rattle.slot_index.specs.Counts.{KeyCounts, HaveOwners}
use Rattle.triple_catalog.specs.{declared.catalog.Catalog.Catalog, Counts.Counts, Counts.count_of}
use Rattle.triple_catalog.specs.Slots.{HasTriple, triple_at, used}

-- the counts of the triples that the triples of slots stand for
unfoldable pub image : (Key → Triple) → KeyCounts → Counts
image meant counts = map.from_entries (mapped (λ e. (meant e.0, e.1)) (map.entries counts))

-- the stored triples, each with the number of its owners
abbrev pub counts_in : Catalog → Texts → Counts
counts_in store texts = image (triple_at store.pool texts) store.index

-- the store's texts lie in the region, and each term is counted once for each place that it has in a stored triple
pub record IsStored (store : Catalog) (texts : Texts) : Type 0 where
  pub lies : LiesIn store.pool texts
  pub counted : (slot : ℕ) → count_at store.pool slot ≡ used (map.keys store.index) slot
  pub owned : HaveOwners store.index

-- the text of a piece of the region beside the store's: none where the piece is the store's, and where it isn't live
abbrev pub beside : Catalog → Texts → Piece → Option (List ℕ)
beside store texts = pool_beside store.pool texts

-- how many terms there may be
abbrev pub limit_of : Catalog → ℕ
limit_of store = store.pool.limit

-- whether a triple of slots is stored
abbrev pub is_key : Catalog → Key → Bool
is_key store key = map.contains_key store.index key

-- the triple of slots is stored and stands for the triple
pub record HasKey (store : Catalog) (texts : Texts) (key : Key) (triple : Triple) : Type 0 where
  pub stored : is_key store key ≡ true
  pub has : HasTriple store.pool texts key triple

-- what stood for a triple that is still stored goes on standing for it
pub record KeepsKeys (old : Catalog) (before : Texts) (new : Catalog) (after : Texts) : Type 0 where
  pub kept : (key : Key) (triple : Triple) → HasKey old before key triple → 0 < count_of (counts_in new after) triple → HasKey new after key triple

-- the keys are those of the triples, each once and in order
pub record AreKeysOf (store : Catalog) (texts : Texts) (keys : List Key) (triples : List Triple) : Type 0 where
  pub rising : IsRising key_cmp keys
  pub each : (key : Key) → has key_cmp key keys ≡ true → (triple : Triple) × HasKey store texts key triple × (has triple_cmp triple triples ≡ true)
  pub all : (triple : Triple) → has triple_cmp triple triples ≡ true → (key : Key) × HasKey store texts key triple × (has key_cmp key keys ≡ true)

-- one piece has another text, or none, and every other has what it had
pub record Changes (old new : Piece → Option (List ℕ)) (piece : Piece) (before after : Option (List ℕ)) : Type 0 where
  pub was : old piece ≡ before
  pub is : new piece ≡ after
  pub others : (other : Piece) → other ≢ piece → new other ≡ old other
