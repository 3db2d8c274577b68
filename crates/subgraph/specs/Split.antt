-- The entries of entities that have their triples in several graphs.
use Rattle.std.specs.Prelude.{ℕ, ◌+◌, List, [], ◌∷◌, ◌++◌, Option}
use Rattle.std.specs.Prelude.{map as mapped}
use Rattle.std.specs.FinMap as map
use Rattle.std.specs.Option.{option_map}
use Rattle.rdf_term.specs.declared.triple.Triple.{Triple}
use Rattle.entity_model.specs.declared.id.EntityId.{EntityId}
use Rattle.subgraph.specs.Entries.{Entries, Entry, GraphState}

-- this entry
abbrev pub entry : ℕ → List Triple → Entry
entry graph triples = record { graph = graph; triples = triples }

-- the entries of graphs, the first of which has this index
abbrev pub entries_from : ℕ → List GraphState → List (EntityId × Entry)
entries_from n [] = []
entries_from n (g ∷ graphs) = mapped (λ e. (e.0, entry n e.1)) (map.entries g.sets) ++ entries_from (n + 1) graphs

abbrev pub entries_in : List GraphState → Entries
entries_in graphs = map.from_entries (entries_from 0 graphs)

-- the index of the graph that an entity is in
abbrev pub graph_of : Entries → EntityId → Option ℕ
graph_of entries x = option_map (λ e. e.graph) (map.get entries x)
