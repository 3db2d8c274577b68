-- How the values of graphs are stored, so that contracts can tell them apart.
use Rattle.std.specs.Prelude.{ℕ, List, refl}
use Rattle.std.specs.Coded.{Coded, code_by, coded×, coded_ℕ, coded_list}
use Rattle.std.specs.FinMap as map
use Rattle.rdf_term.specs.declared.triple.Triple.{Triple}
use Rattle.rdf_term.specs.contracts.triple.Triple as triple
use Rattle.entity_model.specs.contracts.id.EntityId as entity_id
use Rattle.subgraph.specs.Entries.{Entries, Entry, GraphState, Sets, SplitState}

abbrev pub triples_code : Coded (List Triple)
triples_code = coded_list (triple.the_row).coded

abbrev pub entry_code : Coded Entry
entry_code = code_by (ℕ × List Triple) (coded× coded_ℕ triples_code) (λ e. (e.graph, e.triples)) (λ c. record { graph = c.0; triples = c.1 }) (λ _. refl)

-- a graph
abbrev pub graph_code : Coded GraphState
graph_code =
    code_by (Sets × ℕ) (coded× (map.code (entity_id.the_row).coded triples_code) coded_ℕ)
    (λ g. (g.sets, g.limit)) (λ c. record { sets = c.0; limit = c.1 }) (λ _. refl)

-- graphs together
abbrev pub split_code : Coded SplitState
split_code =
    code_by (Entries × (ℕ × ℕ)) (coded× (map.code (entity_id.the_row).coded entry_code) (coded× coded_ℕ coded_ℕ))
    (λ s. (s.entries, (s.graphs, s.limit))) (λ c. record { entries = c.0; graphs = c.1.0; limit = c.1.1 }) (λ _. refl)
