-- What is said where every page is mapped by one version.
use Rattle.std.proofs.Common.{◌≡◌, refl, ◌∙◌, ap, ℕ, suc, ◌+◌, List, Option, None, Some, length}
use Rattle.rdf_term.specs.{declared.triple.Triple.Triple, Pattern.rows}
use Rattle.entity_model.specs.declared.mapping.MappingVersion.{MappingVersion}
use Rattle.replay_model.specs.{Play.Played, Records.Records}
use Rattle.replay_model.specs.Transcript.{Question, Sections, answer_section, for_bindings, for_triples}
use Rattle.replay_model.specs.Versions.{all_by, meaning_by}
use Rattle.graph_routes.specs.{declared.routes.Route.Route, Routes.graph_name}
use Rattle.subgraph.specs.{Laws.routed_union, Sections.graph_answer, Sections.graph_section}
use Rattle.subgraph.proofs.{Sections.below-same, Versions.routed-all}
use Rattle.fetched_pages.specs.Meaning.{meaning}
use Rattle.replay_parts.specs.Closing.{closing_of}
use Rattle.world.specs.Routed.{routing_by}
use Rattle.run_model.specs.Course.{answer_held, answer_text, closing_by, closing_held}
use Rattle.run_model.specs.Remapping.{Mapped, mapped_by}
use Rattle.run_model.proofs.Versions.{all_held_by}

-- where every page is mapped by one version, an answer is that by this version
pub answer_held_by : (routes : Option (List Route)) (asked matched : ℕ) (version : MappingVersion) (mapped : Mapped) (records : Records) (question : Question) → mapped ≡ mapped_by version records →
    answer_held routes asked matched mapped records question ≡ answer_text routes asked matched (meaning version) records question
answer_held_by None asked matched version mapped records question is = ap (λ (ts : List Triple). answer_section asked matched ts question) (all_held_by version mapped records is)
answer_held_by (Some routes) asked matched version mapped records (for_bindings shapes) is = refl
answer_held_by (Some routes) asked matched version mapped records (for_triples pattern) is =
    ap (λ (m : Mapped). answer_held (Some routes) asked matched m records (for_triples pattern)) is
    ∙ below-same (λ graph. graph_answer (asked + 1) (graph_name routes graph) (rows (routed_union (routing_by routes) (meaning_by meaning (all_by version records)) records graph) pattern)) _
    (λ graph. ap (λ (ts : List Triple). graph_answer (asked + 1) (graph_name routes graph) (rows ts pattern)) (routed-all (routing_by routes) meaning version records graph)) (suc (length routes))

-- and what is printed at the end
pub closing_held_by : (routes : Option (List Route)) (version : MappingVersion) (sections : Sections) (mapped : Mapped) (p : Played) → mapped ≡ mapped_by version p.records →
    closing_held routes (meaning_by meaning mapped.by_two) sections p ≡ closing_by routes version sections p
closing_held_by None version sections mapped p is = ap (λ (ts : List Triple). closing_of ts sections p) (all_held_by version mapped p.records is)
closing_held_by (Some routes) version sections mapped p is =
    ap (λ (m : Mapped). closing_held (Some routes) (meaning_by meaning m.by_two) sections p) is
    ∙ below-same (λ graph. graph_section (graph_name routes graph) (routed_union (routing_by routes) (meaning_by meaning (all_by version p.records)) p.records graph)) _
    (λ graph. ap (λ (ts : List Triple). graph_section (graph_name routes graph) ts) (routed-all (routing_by routes) meaning version p.records graph)) (suc (length routes))
