-- A page means no more than 256 triples for each byte that it may have.
use Rattle.std.proofs.Common.{◌≡◌, ℕ, ◌*◌, ◌≤◌, ◌^◌, List, [], ◌∷◌, length, Option, Some, None, refl, ap, arith}
use Rattle.std.specs.Prelude.{codes}
use Rattle.std.specs.List.{flat_map}
use Rattle.std.proofs.lemmas.List.{length-append}
use Rattle.sorted_sets.specs.Rising.{sorted}
use Rattle.rdf_term.specs.{declared.triple.Triple.Triple, Order.triple_cmp}
use Rattle.json_spell.specs.Tree.{Tree, member_of}
use Rattle.json_spell.specs.Weight.{weight, weight_there}
use Rattle.json_spell.proofs.Weights.{reads_weight}
use Rattle.entity_model.specs.declared.id.EntityId.{EntityId}
use Rattle.entity_model.specs.declared.entity.Entity.{Entity}
use Rattle.entity_model.specs.declared.lexeme.Lexeme.{Lexeme}
use Rattle.entity_model.specs.declared.document.Document.{Document}
use Rattle.entity_model.specs.declared.document.Document.TheVariants.{Entity as AnEntity, Redirect, Lexeme as ALexeme}
use Rattle.entity_model.specs.declared.mapping.MappingVersion.{MappingVersion}
use Rattle.entity_model.specs.EntityId.{id_text}
use Rattle.entity_json.specs.Document.{document_of}
use Rattle.entity_json.specs.declared.lexeme.PartKind.TheVariants.{Form, Sense}
use Rattle.entity_json.specs.Lexemes.{IsLexeme}
use Rattle.entity_json.specs.Members.{HasId}
use Rattle.entity_json.specs.Pages.{IsDocument, IsEntity, StandsAt}
use Rattle.entity_json.proofs.Fitness.{documents}
use Rattle.entity_json.proofs.LightTrees.{member-light, only_of-light, text-length}
use Rattle.rdf_vocabulary.proofs.Shared.{chosen}
use Rattle.munger.specs.Iris.{dataset_iri, is_iri_of}
use Rattle.munger.specs.Munging.{left_by, munge, munged}
use Rattle.munger.specs.Verdict.{has_dropped_type, is_moved, repeats_label}
use Rattle.entity_rdf.specs.LexemeDump.{lexdump}
use Rattle.entity_rdf.specs.Dump.{dump, entity_triples}
use Rattle.triple_store.proofs.Stocked.{length-sorted}
use Rattle.fetched_pages.specs.Meaning.{meaning, triples_if}
use Rattle.meaning_texts.proofs.Lengths.{entity_few, lexeme_few}
use Rattle.meaning_texts.proofs.Sizes.{aliases_few, labels_few, links_few, parts_few, statements_few}

-- ---- documents

id_weight : (name : List ℕ) (t : Tree) (x : EntityId) → HasId name t x → 1 ≤ weight t
id_weight name t x h = omega (arith, text-length (member_of name t) (id_text x) h.text, member-light name t)

of_entity : (version : MappingVersion) (x : EntityId) (rev : ℕ) (t : Tree) (e : Entity) → IsEntity t e → length (entity_triples version x rev e) ≤ 256 * weight t
of_entity version x rev t e h =
    let links = links_few e.id.kind t e.links h.links in
    omega (
      arith,
      entity_few version x rev e,
      id_weight (codes "id") t e.id h.id,
      labels_few (codes "labels") t e.labels h.labels,
      member-light (codes "labels") t,
      labels_few (codes "descriptions") t e.descriptions h.descriptions,
      member-light (codes "descriptions") t,
      aliases_few t e.aliases h.aliases,
      member-light (codes "aliases") t,
      links.0,
      links.1,
      statements_few t e.statements h.statements,
      member-light (codes "claims") t,
    )

of_lexeme : (version : MappingVersion) (x : EntityId) (rev : ℕ) (t : Tree) (l : Lexeme) → IsLexeme t l → length (lexdump version x rev l) ≤ 256 * weight t
of_lexeme version x rev t l h =
    omega (
      arith,
      lexeme_few version x rev l,
      id_weight (codes "id") t l.id h.id,
      labels_few (codes "lemmas") t l.lemmas h.lemmas,
      member-light (codes "lemmas") t,
      statements_few t l.statements h.statements,
      member-light (codes "claims") t,
      parts_few l.id Form t l.forms h.forms,
      parts_few l.id Sense t l.senses h.senses,
    )

of_document : (version : MappingVersion) (x : EntityId) (rev : ℕ) (t : Tree) (id : EntityId) (document : Document) → IsDocument t id document → length (dump version x rev document) ≤ 256 * weight t
of_document version x rev t id (AnEntity e) h = of_entity version x rev t e h.1
of_document version x rev t id (Redirect y) h = omega (arith, id_weight (codes "entity") t id h.0)
of_document version x rev t id (ALexeme l) h = of_lexeme version x rev t l h.1

page_weight : (o : Option Tree) (tree t : Tree) → member_of (codes "entities") tree ≡ o → StandsAt o tree t → weight t ≤ weight tree
page_weight None tree t is h = omega (arith, ap weight h)
page_weight (Some es) tree t is h = only_of-light (weight tree) es t (omega (arith, member-light (codes "entities") tree, ap weight_there is)) h

-- ---- what munging leaves

left_few : (x : EntityId) (triple : Triple) → length (munged x triple) ≤ 1
left_few x triple =
    chosen (λ v. length (left_by x triple v) ≤ 1) (is_iri_of (dataset_iri x) triple.subject) _ _
    (chosen (λ v. length (left_by x triple v) ≤ 1) (is_moved triple.predicate) _ _ (omega arith) (omega arith))
    (chosen (λ v. length (left_by x triple v) ≤ 1) (has_dropped_type triple) _ _ (omega arith)
    (chosen (λ v. length (left_by x triple v) ≤ 1) (repeats_label x triple) _ _ (omega arith) (omega arith)))

munged_few : (x : EntityId) (triples : List Triple) → length (flat_map (munged x) triples) ≤ length triples
munged_few x [] = omega arith
munged_few x (t ∷ triples) = omega (arith, left_few x t, munged_few x triples, length-append (munged x t) (flat_map (munged x) triples))

munge_few : (x : EntityId) (triples : List Triple) → length (munge x (sorted triple_cmp triples)) ≤ length triples
munge_few x triples =
    omega (arith, length-sorted triple_cmp (flat_map (munged x) (sorted triple_cmp triples)), munged_few x (sorted triple_cmp triples), length-sorted triple_cmp triples)

-- ---- meanings

found_few : (version : MappingVersion) (x : EntityId) (rev : ℕ) (bytes : List ℕ) (found : Option Document) → document_of x bytes ≡ found → length (triples_if version x rev found) ≤ 2 ^ 31
found_few version x rev bytes None is = omega arith
found_few version x rev bytes (Some document) is =
    let h = (documents x bytes document).0 is in
    omega (
      arith,
      munge_few x (dump version x rev document),
      of_document version x rev h.is_page.page_tree x document h.is_page.holds,
      page_weight (member_of (codes "entities") h.tree) h.tree h.is_page.page_tree refl h.is_page.stands,
      reads_weight bytes h.tree h.has_tree.reads,
      h.has_tree.not_large,
    )

-- the triples that bytes mean
pub meaning_few : (version : MappingVersion) (x : EntityId) (rev : ℕ) (bytes : List ℕ) → length (meaning version x rev bytes) ≤ 2 ^ 31
meaning_few version x rev bytes = found_few version x rev bytes (document_of x bytes) refl
