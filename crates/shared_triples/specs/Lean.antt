-- Which triples of an entity's page are stored and counted, and which stand in the page alone.
use Rattle.std.specs.Prelude.{◌≡◌, ◌≢◌, ℕ, ◌+◌, Bool, true, false, not, ◌&&◌, ◌||◌, cond, List, [], ◌∷◌, Option, None, Some, filter, flat_map, nat_lt, unwrap_or}
use Rattle.std.specs.FinMap as map
use Rattle.std.specs.Ordering.{eq_by_cmp}
use Rattle.sorted_sets.specs.Counting.{one_if}
use Rattle.sorted_sets.specs.Rising.{has}
use Rattle.rdf_term.specs.declared.triple.Triple.{Triple}
use Rattle.rdf_term.specs.Order.{triple_cmp}
use Rattle.entity_model.specs.declared.id.EntityId.{EntityId}
use Rattle.entity_model.specs.EntityId.{entity_cmp}
use Rattle.replay_model.specs.Records.{Records, record_of}
use Rattle.replay_model.specs.Union.{Meaning, owners, triples_held}
use Rattle.shared_triples.specs.Home.{home_of}

-- whether this is the entity x
abbrev pub is_entity : EntityId → Option EntityId → Bool
is_entity x None = false
is_entity x (Some y) = eq_by_cmp entity_cmp x y

-- whether the triple stands in the page of x alone, where these entities are counted: it belongs to x, and x isn't counted
abbrev pub is_own : List EntityId → EntityId → Triple → Bool
is_own counted x t = is_entity x (home_of t) && not (has entity_cmp x counted)

-- what is stored of each page: all triples but those that stand in the page alone
abbrev pub stored_of : List EntityId → Meaning Triple → Meaning Triple
stored_of counted meaning x rev bytes = filter (λ t. not (is_own counted x t)) (meaning x rev bytes)

-- what stands in each page alone
abbrev pub own_of : List EntityId → Meaning Triple → Meaning Triple
own_of counted meaning x rev bytes = filter (is_own counted x) (meaning x rev bytes)

-- the triples of what x holds
abbrev pub triples_of : Meaning Triple → Records → EntityId → List Triple
triples_of meaning records x = triples_held meaning x (record_of records x).held

-- the entity that a triple belongs to, if it is another than y
abbrev pub stranger : EntityId → Option EntityId → List EntityId
stranger y None = []
stranger y (Some x) = cond (eq_by_cmp entity_cmp x y) [] (x ∷ [])

-- the other entities that triples on the page of y belong to
abbrev pub strangers : EntityId → List Triple → List EntityId
strangers y triples = flat_map (λ t. stranger y (home_of t)) triples

-- each of these entities is counted
abbrev pub AreCounted : List EntityId → List EntityId → Type 0
AreCounted counted xs = (x : EntityId) → has entity_cmp x xs ≡ true → has entity_cmp x counted ≡ true

-- the count of each triple is the number of the pages of which it is stored, and an entity is counted if triples on the page of another
-- belong to it
pub record IsLean (meaning : Meaning Triple) (counted : List EntityId) (count : Triple → ℕ) (records : Records) : Type 0 where
  pub counts : (t : Triple) → count t ≡ owners triple_cmp (stored_of counted meaning) records t
  pub strangers : (y : EntityId) → AreCounted counted (strangers y (triples_of meaning records y))

-- whether this entity, which isn't counted, has the triple on its page
abbrev pub has_own : Meaning Triple → List EntityId → Records → Triple → Option EntityId → Bool
has_own meaning counted records t None = false
has_own meaning counted records t (Some x) = not (has entity_cmp x counted) && has triple_cmp t (triples_of meaning records x)

-- whether the triple is stored, or stands in the page of the entity that it belongs to
abbrev pub is_present : Meaning Triple → List EntityId → (Triple → ℕ) → Records → Triple → Bool
is_present meaning counted count records t = nat_lt 0 (count t) || has_own meaning counted records t (home_of t)

-- all entities but x hold the same triples
abbrev pub OthersHoldAlike : EntityId → Meaning Triple → Records → Meaning Triple → Records → Type 0
OthersHoldAlike x m before n after = (y : EntityId) → y ≢ x → triples_of n after y ≡ triples_of m before y

-- these are the triples that have a count after and had none before
pub record AreNew (before after : Triple → ℕ) (triples : List Triple) : Type 0 where
  pub each : (t : Triple) → has triple_cmp t triples ≡ (not (nat_lt 0 (before t)) && nat_lt 0 (after t))

-- one owner more of each triple that came and one less of each that is gone
pub record Exchanges (before after : Triple → ℕ) (gone came : List Triple) : Type 0 where
  pub counts : (t : Triple) → after t + one_if (has triple_cmp t gone) ≡ before t + one_if (has triple_cmp t came)

-- the count of a triple in a map of counts: none where it isn't a key
abbrev pub count_in : map.FinMap triple_cmp ℕ → Triple → ℕ
count_in counts t = unwrap_or (map.get counts t) 0
