-- The triples that the records mean, and how many entities give each. Triples are any type in an order.
use Rattle.std.specs.Prelude.{ℕ, List, [], Option, None, Some, flat_map, count_by}
use Rattle.std.specs.FinMap as map
use Rattle.std.specs.declared.cmp.Ordering.{Ordering}
use Rattle.sorted_sets.specs.Rising.{sorted, has}
use Rattle.entity_model.specs.declared.id.EntityId.{EntityId}
use Rattle.entity_state.specs.declared.record.Held.{Held}
use Rattle.entity_state.specs.declared.record.Record.{Record}
use Rattle.replay_model.specs.Records.{Bytes, Records}

-- the triples that the bytes of an entity's revision mean
abbrev pub Meaning : Type 0 → Type 0
Meaning Triple = EntityId → ℕ → Bytes → List Triple

module _ {Triple : Type 0} where
  -- the triples of what an entity holds
  abbrev pub triples_held : Meaning Triple → EntityId → Option (Held Bytes) → List Triple
  triples_held meaning x None = []
  triples_held meaning x (Some h) = meaning x h.revision h.content

  -- the triples of an entity with its record
  abbrev pub triples_at : Meaning Triple → (EntityId × Record Bytes) → List Triple
  triples_at meaning entry = triples_held meaning entry.0 entry.1.held

  module _ (order : Triple → Triple → Ordering) (meaning : Meaning Triple) where
    -- the triples of all that is held, in rising order
    abbrev pub union : Records → List Triple
    union records = sorted order (flat_map (triples_at meaning) (map.entries records))

    -- how many entities hold what has the triple
    abbrev pub owners : Records → Triple → ℕ
    owners records triple = count_by (λ entry. has order triple (triples_at meaning entry)) (map.entries records)
