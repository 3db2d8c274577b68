-- What contracts see of the triples of entities, in one graph and in several.
use Rattle.std.specs.Prelude.{ℕ, ◌==◌, cond, List, [], ◌++◌, count_by}
use Rattle.std.specs.FinMap as map
use Rattle.std.specs.List.{flat_map}
use Rattle.sorted_sets.specs.Rising.{has, sorted}
use Rattle.rdf_term.specs.{declared.triple.Triple.Triple, Order.triple_cmp}
use Rattle.entity_model.specs.EntityId.{entity_cmp}
use Rattle.triple_store.specs.Room.{distinct, terms_of}

-- the set of triples of each entity of a graph
abbrev pub Sets : Type 0
Sets = map.FinMap entity_cmp (List Triple)

-- the triples of the entities together
abbrev pub union_of : Sets → List Triple
union_of sets = sorted triple_cmp (flat_map (λ e. e.1) (map.entries sets))

-- how many entities have a triple
abbrev pub owners_of : Sets → Triple → ℕ
owners_of sets triple = count_by (λ e. has triple_cmp triple e.1) (map.entries sets)

-- a graph: the sets of its entities, and how many distinct terms there may be
pub record GraphState : Type 0 where
  pub sets : Sets
  pub limit : ℕ

-- the graph that an entity is in, by its index from 0, and its set of triples
pub record Entry : Type 0 where
  pub graph : ℕ
  pub triples : List Triple

-- the entry of each entity that is in a graph
abbrev pub Entries : Type 0
Entries = map.FinMap entity_cmp Entry

-- the triples of an entry, if it is in this graph
abbrev pub triples_in : ℕ → Entry → List Triple
triples_in graph entry = cond (entry.graph == graph) entry.triples []

-- the triples of a graph: those of its entries together
abbrev pub graph_triples : Entries → ℕ → List Triple
graph_triples entries graph = sorted triple_cmp (flat_map (λ e. triples_in graph e.1) (map.entries entries))

-- graphs: the entries of their entities, how many graphs there are, and how many distinct terms each of them may have
pub record SplitState : Type 0 where
  pub entries : Entries
  pub graphs : ℕ
  pub limit : ℕ

-- the number of distinct terms of triples and of others together
abbrev pub terms_with : List Triple → List Triple → ℕ
terms_with triples others = distinct (flat_map terms_of (triples ++ others))
