-- In which graph an entity has its triples, and what a step changes of that.
use Rattle.std.specs.Prelude.{◌≡◌, ℕ, ◌==◌, true, false, cond, ◌&&◌, List, length, Option, None, Some, is_some, slice_get}
use Rattle.std.specs.FinMap as map
use Rattle.std.specs.{Option.option_and_then, Ordering.eq_by_cmp}
use Rattle.rdf_term.specs.declared.triple.Triple.{Triple}
use Rattle.entity_model.specs.{declared.id.EntityId.EntityId, EntityId.entity_cmp}
use Rattle.subgraph.specs.Entries.{Entry, GraphState}

-- the set of an entity in a graph, if it has one there
abbrev pub set_at : List GraphState → ℕ → EntityId → Option (List Triple)
set_at graphs graph x = option_and_then (λ g. map.get g.sets x) (slice_get graphs graph)

-- no entity is in two of the graphs
abbrev pub AreApart : List GraphState → Type 0
AreApart graphs = (x : EntityId) (i j : ℕ) → is_some (set_at graphs i x) ≡ true → is_some (set_at graphs j x) ≡ true → i ≡ j

-- each graph has this limit
abbrev pub HaveLimit : ℕ → List GraphState → Type 0
HaveLimit limit graphs = (i : ℕ) (g : GraphState) → slice_get graphs i ≡ Some g → g.limit ≡ limit

-- an entity has this set in a graph, or none, and everything else is as it was
pub record IsSetAt (old new : List GraphState) (graph : ℕ) (x : EntityId) (set : Option (List Triple)) : Type 0 where
  pub long : length new ≡ length old
  pub at : (i : ℕ) (y : EntityId) → set_at new i y ≡ cond ((i == graph) && eq_by_cmp entity_cmp y x) set (set_at old i y)
  pub limits : (limit : ℕ) → HaveLimit limit old → HaveLimit limit new

-- the set that an entity with this entry, if it has one, has in a graph
abbrev pub set_of : Option Entry → ℕ → Option (List Triple)
set_of None graph = None
set_of (Some e) graph = cond (e.graph == graph) (Some e.triples) None

-- an entity has this entry, or none, and the others have what they had
pub record IsPlaced (old new : List GraphState) (x : EntityId) (placed : Option Entry) : Type 0 where
  pub long : length new ≡ length old
  pub here : (i : ℕ) → set_at new i x ≡ set_of placed i
  pub others : (i : ℕ) (y : EntityId) → eq_by_cmp entity_cmp y x ≡ false → set_at new i y ≡ set_at old i y
  pub limits : (limit : ℕ) → HaveLimit limit old → HaveLimit limit new
