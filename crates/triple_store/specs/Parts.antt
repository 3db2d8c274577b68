-- The keys of a part of what an owner has: one key may stand in two parts.
use Rattle.std.specs.Prelude.{◌≡◌, true, List}
use Rattle.sorted_sets.specs.Rising.{has}
use Rattle.rdf_term.specs.{declared.triple.Triple.Triple, Order.triple_cmp}
use Rattle.text_region.specs.Region.{Texts}
use Rattle.slot_keys.specs.{declared.key.Key.Key, Keys.key_cmp}
use Rattle.triple_catalog.specs.{declared.catalog.Catalog.Catalog, Stored.HasKey}

-- each key stands for one of the triples, and each triple has one of the keys, in whatever order and however often
pub record StandFor (store : Catalog) (texts : Texts) (keys : List Key) (triples : List Triple) : Type 0 where
  pub each : (key : Key) → has key_cmp key keys ≡ true → (triple : Triple) × HasKey store texts key triple × (has triple_cmp triple triples ≡ true)
  pub all : (triple : Triple) → has triple_cmp triple triples ≡ true → (key : Key) × HasKey store texts key triple × (has key_cmp key keys ≡ true)
