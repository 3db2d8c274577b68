-- What is printed of graphs that follow a world is of what is routed to them.
use Rattle.std.proofs.Common.{◌≡◌, ap, subst, ℕ, suc, List, Result, length}
use Rattle.rdf_term.specs.{declared.pattern.Pattern.Pattern, declared.triple.Triple.Triple, Pattern.rows}
use Rattle.replay_model.specs.Versions.{meaning_by}
use Rattle.graph_routes.specs.{declared.routes.Route.Route, Routes.graph_name}
use Rattle.subgraph.specs.{Entries.Entries, Entries.graph_triples, Laws.routed_union}
use Rattle.subgraph.specs.Sections.{graph_answer, graph_answers, graph_section, graph_sections, texts_below}
use Rattle.subgraph.proofs.{Routed.follow_the_records, Sections.below-same}
use Rattle.text_output.specs.{declared.write.Unwritten.Unwritten, Printing.Output, Printing.Prints}
use Rattle.fetched_pages.specs.Meaning.{meaning}
use Rattle.world.specs.{Routed.routing_by, WorldState.WorldState}
use Rattle.splitting.specs.Graphs.{AreEntriesOf}

module _ (routes : List Route) (entries : Entries) where
  -- the answer of a graph, and the section of one
  abbrev pub answer_in : ℕ → Pattern → ℕ → List ℕ
  answer_in n pattern graph = graph_answer n (graph_name routes graph) (rows (graph_triples entries graph) pattern)

  abbrev pub section_in : ℕ → List ℕ
  section_in graph = graph_section (graph_name routes graph) (graph_triples entries graph)

  module _ (limit : ℕ) (world : WorldState) (follows : AreEntriesOf routes limit world entries) where
    abbrev routed : ℕ → List Triple
    routed graph = routed_union (routing_by routes) (meaning_by meaning world.by_two) world.replay.played.records graph

    have_routed : (graph : ℕ) → graph_triples entries graph ≡ routed graph
    have_routed graph = follow_the_records (routing_by routes) (meaning_by meaning world.by_two) entries world.replay.played.records follows.split graph

    pub answers_followed : (n : ℕ) (pattern : Pattern) → texts_below (suc (length routes)) (answer_in n pattern) ≡ graph_answers routes n (λ graph. rows (routed_union (routing_by routes) (meaning_by meaning world.by_two) world.replay.played.records graph) pattern)
    answers_followed n pattern = below-same (answer_in n pattern) (λ graph. graph_answer n (graph_name routes graph) (rows (routed graph) pattern))
        (λ graph. ap (λ (ts : List Triple). graph_answer n (graph_name routes graph) (rows ts pattern)) (have_routed graph)) (suc (length routes))

    pub sections_followed : texts_below (suc (length routes)) section_in ≡ graph_sections routes (λ graph. routed_union (routing_by routes) (meaning_by meaning world.by_two) world.replay.played.records graph)
    sections_followed = below-same section_in (λ graph. graph_section (graph_name routes graph) (routed graph))
        (λ graph. ap (λ (ts : List Triple). graph_section (graph_name routes graph) ts) (have_routed graph)) (suc (length routes))

    pub answers_printed : (n : ℕ) (pattern : Pattern) (old new : Output) (result : Result (Unit {0}) Unwritten) → Prints (texts_below (suc (length routes)) (answer_in n pattern)) old new result
        → Prints (graph_answers routes n (λ graph. rows (routed_union (routing_by routes) (meaning_by meaning world.by_two) world.replay.played.records graph) pattern)) old new result
    answers_printed n pattern old new result prints = subst (λ text. Prints text old new result) (answers_followed n pattern) prints

    pub sections_printed : (old new : Output) (result : Result (Unit {0}) Unwritten) → Prints (texts_below (suc (length routes)) section_in) old new result
        → Prints (graph_sections routes (λ graph. routed_union (routing_by routes) (meaning_by meaning world.by_two) world.replay.played.records graph)) old new result
    sections_printed old new result prints = subst (λ text. Prints text old new result) sections_followed prints
