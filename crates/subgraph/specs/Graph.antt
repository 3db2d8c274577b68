-- The store of a graph in step with the keys of its entities.
use Rattle.std.specs.Prelude.{◌≡◌, List, [], Option, None, Some}
use Rattle.std.specs.Prelude.{map as mapped}
use Rattle.std.specs.FinMap as map
use Rattle.std.specs.{Map.lookup, Ordering.eq_by_cmp}
use Rattle.sorted_sets.specs.Rising.{sorted}
use Rattle.rdf_term.specs.{declared.triple.Triple.Triple, Order.triple_cmp}
use Rattle.entity_model.specs.{declared.id.EntityId.EntityId, EntityId.entity_cmp}
use Rattle.slot_keys.specs.{declared.key.Key.Key, declared.keys.Keys.Keys}
use Rattle.triple_store.specs.{Counts.count_of, Moves.triples_at}
use Rattle.triple_store.specs.StoreState.{AreKeysOf, IsSound, StoreState, counts_in}
use Rattle.subgraph.specs.Entries.{Sets, owners_of}

-- the triples that keys stand for
abbrev pub meant : StoreState → Keys → List Triple
meant store keys = sorted triple_cmp (triples_at store.catalog store.texts keys.rising.items)

-- the sets of entities with these keys
abbrev pub sets_in : StoreState → List (EntityId × Keys) → Sets
sets_in store owned = map.from_entries (mapped (λ e. (e.0, meant store e.1)) owned)

-- the keys of an entity
abbrev pub keys_at : List (EntityId × Keys) → EntityId → Option Keys
keys_at owned x = lookup (eq_by_cmp entity_cmp x) owned

abbrev pub rising_keys : Option Keys → List Key
rising_keys None = []
rising_keys (Some keys) = keys.rising.items

-- the store counts the entities that have each triple, and the keys of each entity are those of its triples
pub record IsInStep (store : StoreState) (owned : List (EntityId × Keys)) : Type 0 where
  pub sound : IsSound store
  pub counted : (t : Triple) → count_of (counts_in store) t ≡ owners_of (sets_in store owned) t
  pub keyed : (x : EntityId) (keys : Keys) → keys_at owned x ≡ Some keys → AreKeysOf store keys.rising.items (meant store keys)
