-- What is printed of graphs.
use Rattle.std.specs.Prelude.{ℕ, zero, suc, List, [], ◌++◌, length, flat_map, decimal, codes}
use Rattle.rdf_term.specs.{declared.triple.Triple.Triple, Text.triple_text}
use Rattle.graph_routes.specs.{declared.routes.Route.Route, Routes.graph_name}

-- the line `# ask <n> <name>: <count> triples`
unfoldable pub graph_answer_head : ℕ → List ℕ → ℕ → List ℕ
graph_answer_head n name count = codes "# ask " ++ decimal n ++ codes " " ++ name ++ codes ": " ++ decimal count ++ codes " triples\n"

-- the line `# graph <name>: <count> triples`
unfoldable pub graph_head : List ℕ → ℕ → List ℕ
graph_head name count = codes "# graph " ++ name ++ codes ": " ++ decimal count ++ codes " triples\n"

-- the answer of the graph with this name to the n-th ask: its head, and the line of each triple
abbrev pub graph_answer : ℕ → List ℕ → List Triple → List ℕ
graph_answer n name triples = graph_answer_head n name (length triples) ++ flat_map triple_text triples

-- the section of the graph with this name: its head, and the line of each triple
abbrev pub graph_section : List ℕ → List Triple → List ℕ
graph_section name triples = graph_head name (length triples) ++ flat_map triple_text triples

-- the texts of the graphs with an index below this one, one after the other
abbrev pub texts_below : ℕ → (ℕ → List ℕ) → List ℕ
texts_below zero text = []
texts_below (suc graph) text = texts_below graph text ++ text graph

-- the answers of all graphs of these routes to the n-th ask, in their order, where these are the triples of each
abbrev pub graph_answers : List Route → ℕ → (ℕ → List Triple) → List ℕ
graph_answers routes n triples = texts_below (suc (length routes)) (λ graph. graph_answer n (graph_name routes graph) (triples graph))

-- the sections of all graphs of these routes, in their order, where these are the triples of each
abbrev pub graph_sections : List Route → (ℕ → List Triple) → List ℕ
graph_sections routes triples = texts_below (suc (length routes)) (λ graph. graph_section (graph_name routes graph) (triples graph))
