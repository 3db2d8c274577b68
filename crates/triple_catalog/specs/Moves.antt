-- What a store has after triples of one owner came or went.
use Rattle.std.specs.Prelude.{◌≡◌, ◌+◌, true, not, ◌&&◌, List}
use Rattle.std.specs.Prelude.{map as mapped}
use Rattle.sorted_sets.specs.Rising.{has}
use Rattle.rdf_term.specs.{declared.triple.Triple.Triple, Order.triple_cmp}
use Rattle.text_region.specs.{declared.piece.Piece.Piece, Region.Texts}
use Rattle.term_pool.specs.Pool.{one_if}
use Rattle.slot_keys.specs.{declared.key.Key.Key, Keys.key_cmp}
use Rattle.triple_catalog.specs.{declared.catalog.Catalog.Catalog, Counts.count_of, Slots.triple_at}
use Rattle.triple_catalog.specs.Stored.{HasKey, IsStored, KeepsKeys, beside, counts_in, limit_of}

-- the triples that the keys stand for
abbrev pub triples_at : Catalog → Texts → List Key → List Triple
triples_at store texts keys = mapped (triple_at store.pool texts) keys

-- the triples of the keys have one owner less
pub record Removes (old : Catalog) (before : Texts) (new : Catalog) (after : Texts) (keys : List Key) : Type 0 where
  pub stored : IsStored new after
  pub counts : (triple : Triple) → count_of (counts_in new after) triple + one_if (has triple_cmp triple (triples_at old before keys)) ≡ count_of (counts_in old before) triple
  pub keeps : KeepsKeys old before new after
  pub beside : (piece : Piece) → beside new after piece ≡ beside old before piece
  pub limit : limit_of new ≡ limit_of old

-- the keys are those of the triples, which have one owner more but for those that the owner had
pub record TakesIn (old : Catalog) (before : Texts) (new : Catalog) (after : Texts) (had keys : List Key) (triples : List Triple) : Type 0 where
  pub stored : IsStored new after
  pub each : (key : Key) → has key_cmp key keys ≡ true → (triple : Triple) × HasKey new after key triple × (has triple_cmp triple triples ≡ true)
  pub all : (triple : Triple) → has triple_cmp triple triples ≡ true → (key : Key) × HasKey new after key triple × (has key_cmp key keys ≡ true)
  pub counts : (triple : Triple) → count_of (counts_in new after) triple ≡ count_of (counts_in old before) triple + one_if (has triple_cmp triple triples && not (has triple_cmp triple (triples_at old before had)))
  pub kept : (key : Key) (triple : Triple) → HasKey old before key triple → HasKey new after key triple
  pub beside : (piece : Piece) → beside new after piece ≡ beside old before piece
  pub limit : limit_of new ≡ limit_of old

-- these triples have one owner less
pub record Loses (old : Catalog) (before : Texts) (new : Catalog) (after : Texts) (triples : List Triple) : Type 0 where
  pub stored : IsStored new after
  pub counts : (triple : Triple) → count_of (counts_in new after) triple + one_if (has triple_cmp triple triples) ≡ count_of (counts_in old before) triple
  pub keeps : KeepsKeys old before new after
  pub beside : (piece : Piece) → beside new after piece ≡ beside old before piece
  pub limit : limit_of new ≡ limit_of old
