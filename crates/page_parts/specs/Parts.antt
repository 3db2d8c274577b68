-- The triples of a page in two parts.
use Rattle.std.specs.Prelude.{◌≡◌, ℕ, ◌<◌, Bool, true, false, cond, filter, not, ◌&&◌, List, [], ◌∷◌, ◌++◌, Option, length, map, slice_index_or, take}
use Rattle.std.specs.List.{All}
use Rattle.sorted_sets.specs.Rising.{has, sorted}
use Rattle.rdf_term.specs.{declared.term.Term.TheVariants.Blank, declared.triple.Triple.Triple, Order.triple_cmp}
use Rattle.entity_model.specs.{declared.id.EntityId.EntityId, EntityId.entity_cmp}
use Rattle.shared_triples.specs.{Home.home_of, Lean.is_entity, Lean.strangers}
use Rattle.page_parts.specs.declared.parts.Place.{Place}

-- whether a triple of this home stands in the page of x alone: it belongs to x, which isn't counted
abbrev pub belongs_alone : Bool → EntityId → Option EntityId → Bool
belongs_alone is_counted x home = is_entity x home && not is_counted

-- the same of a triple
abbrev pub stands_alone : Bool → EntityId → Triple → Bool
stands_alone is_counted x triple = belongs_alone is_counted x (home_of triple)

-- what contracts see: the triples in their order, both parts, and the other entities that triples belong to
pub record PartsState : Type 0 where
  pub entity : EntityId
  pub is_counted : Bool
  pub has_failed : Bool
  pub all : List Triple
  pub own : List Triple
  pub shared : List Triple
  pub strangers : List EntityId

-- they go on being those of a page of this entity, counted or not, and no call failed that hadn't
pub record GoOn (old new : PartsState) : Type 0 where
  pub entity : new.entity ≡ old.entity
  pub counted : new.is_counted ≡ old.is_counted
  pub failed : new.has_failed ≡ old.has_failed

-- one part has exactly the triples that stand in the page alone, the other the rest
pub record AreSplit (x : EntityId) (is_counted : Bool) (all own shared : List Triple) (others : List EntityId) : Type 0 where
  pub own_are : (t : Triple) → has triple_cmp t own ≡ (stands_alone is_counted x t && has triple_cmp t all)
  pub shared_are : (t : Triple) → has triple_cmp t shared ≡ (not (stands_alone is_counted x t) && has triple_cmp t all)
  pub others_are : (y : EntityId) → has entity_cmp y others ≡ has entity_cmp y (strangers x all)

abbrev pub AreParts : PartsState → Type 0
AreParts p = AreSplit p.entity p.is_counted p.all p.own p.shared p.strangers

-- the parts are those of these triples, a set, on a page of x
pub record ArePartsOf (x : EntityId) (is_counted : Bool) (triples : List Triple) (p : PartsState) : Type 0 where
  pub own_are : sorted triple_cmp p.own ≡ filter (stands_alone is_counted x) triples
  pub shared_are : sorted triple_cmp p.shared ≡ filter (λ t. not (stands_alone is_counted x t)) triples
  pub others_are : (y : EntityId) → has entity_cmp y p.strangers ≡ has entity_cmp y (strangers x triples)

-- the part that a place is in
abbrev pub part_of : List Triple → List Triple → Place → List Triple
part_of own shared place = cond place.is_own own shared

-- the triple at a place
abbrev pub triple_at : List Triple → List Triple → Place → Triple
triple_at own shared place = slice_index_or (part_of own shared place) place.index (record { subject = Blank []; predicate = Blank []; object = Blank [] })

-- the place is in the part where its triple belongs
pub record IsPlace (x : EntityId) (is_counted : Bool) (own shared : List Triple) (place : Place) : Type 0 where
  pub within : place.index < length (part_of own shared place)
  pub right : place.is_own ≡ stands_alone is_counted x (triple_at own shared place)

-- the places are those of the triples, and nothing else is in the parts unless a call failed
pub record IsParted (x : EntityId) (is_counted has_failed : Bool) (own shared : List Triple) (places : List Place) (others : List EntityId) : Type 0 where
  pub placed : All (IsPlace x is_counted own shared) places
  pub split : has_failed ≡ false → AreSplit x is_counted (map (triple_at own shared) places) own shared others

-- the second list begins with the first
abbrev pub Begins : List Triple → List Triple → Type 0
Begins before after = take (length before) after ≡ before

-- a triple is put at the end of a part, and this is its index there
abbrev pub HasPut : Bool → List Triple → List Triple → List Triple → List Triple → Triple → ℕ → Type 0
HasPut true own shared own_after shared_after triple index = (index ≡ length own) × (own_after ≡ own ++ triple ∷ []) × (shared_after ≡ shared)
HasPut false own shared own_after shared_after triple index = (index ≡ length shared) × (own_after ≡ own) × (shared_after ≡ shared ++ triple ∷ [])
