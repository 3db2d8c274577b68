-- What the page of a small item or property says but for its site links and statements has fit and short terms.
use Rattle.std.proofs.Common.{◌≡◌, ℕ, ◌≤◌, Bool, true, false, cond, List, [], ◌∷◌, ◌++◌, length, Option, Some, None, refl, arith}
use Rattle.std.specs.List.{flat_map}
use Rattle.std.proofs.lemmas.List.Elements.{recursion_from_All}
use Rattle.rdf_term.specs.declared.term.Term.{Term}
use Rattle.rdf_term.specs.Fit.{IsFitAndShort, HasFitAndShortTerms}
use Rattle.rdf_term.specs.Grammar.{is_word}
use Rattle.entity_model.specs.declared.id.EntityId.{EntityId}
use Rattle.entity_model.specs.declared.id.IdKind.{IdKind}
use Rattle.entity_model.specs.declared.id.IdKind.TheVariants as Letter
use Rattle.entity_model.specs.declared.value.Tagged.{Tagged}
use Rattle.entity_model.specs.declared.entity.Entity.{Entity}
use Rattle.entity_model.specs.Value.{IsSmallTagged, optional_length}
use Rattle.entity_model.specs.Document.{IsSmallEntity}
use Rattle.rdf_vocabulary.specs.declared.predicate.Predicate.{Predicate}
use Rattle.rdf_vocabulary.specs.declared.predicate.Predicate.TheVariants as Say
use Rattle.rdf_vocabulary.specs.declared.prefix.Prefix.{Prefix}
use Rattle.rdf_vocabulary.specs.declared.prefix.Prefix.TheVariants.{Wdt, P, Ps, Psv, Pq, Pqv, Pr, Prv, Wdno, Wikibase}
use Rattle.rdf_vocabulary.specs.Predicate.{about}
use Rattle.rdf_vocabulary.specs.Prefix.{entity_term, prefixed}
use Rattle.rdf_vocabulary.proofs.Fit.{AreFit, about_fit, class_fit, join, join_all, prefixed_fit}
use Rattle.rdf_vocabulary.proofs.Ids.{id_term_fit}
use Rattle.page_rdf.specs.About.{alias_triples, class_of, class_triples, dataset_triples, description_triples, label_triples, link_count, text_triples}
use Rattle.page_rdf.specs.Dataset.{change_triples, dataset_term, number_triples, page_triples}
use Rattle.page_rdf.specs.Property.{datatype_triples, is_datatype_char, other_predicates, predicate_triple, property_triples, property_triples_of, type_name, value_predicates}
use Rattle.page_rdf.specs.Spoken.{spoken_triples}
use Rattle.page_rdf.proofs.Fit.{change_fit, dataset_fit, entity_fit, number_fit, numbers_fit, page_fit, text_fit}
use Rattle.page_rdf.proofs.TypeNames.{type_name_iri, type_name_short}

label_fit : (node : Term) → IsFitAndShort node → (t : Tagged) → IsSmallTagged t → AreFit (label_triples node t)
label_fit node n t small =
    let text = text_fit t small in
    (about_fit node Say.Label _ n text, (about_fit node Say.PrefLabel _ n text, (about_fit node Say.Name _ n text, tt)))

description_fit : (node : Term) → IsFitAndShort node → (t : Tagged) → IsSmallTagged t → AreFit (description_triples node t)
description_fit node n t small = (about_fit node Say.Description _ n (text_fit t small), tt)

alias_fit : (node : Term) → IsFitAndShort node → (t : Tagged) → IsSmallTagged t → AreFit (alias_triples node t)
alias_fit node n t small = (about_fit node Say.AltLabel _ n (text_fit t small), tt)

texts_fit : (x : EntityId) (e : Entity) → IsSmallEntity e → AreFit (text_triples x e)
texts_fit x e small =
    let node = entity_term x in
    let n = entity_fit x in
    let labels = flat_map (label_triples node) e.labels in
    let descriptions = flat_map (description_triples node) e.descriptions in
    let aliases = flat_map (alias_triples node) e.aliases in
    join (class_triples x ++ labels ++ descriptions) aliases
    (join (class_triples x ++ labels) descriptions
    (join (class_triples x) labels (class_fit node (class_of x.kind) n, tt)
    (join_all IsSmallTagged (label_triples node) e.labels (label_fit node n) (recursion_from_All IsSmallTagged e.labels small.labels)))
    (join_all IsSmallTagged (description_triples node) e.descriptions (description_fit node n) (recursion_from_All IsSmallTagged e.descriptions small.descriptions)))
    (join_all IsSmallTagged (alias_triples node) e.aliases (alias_fit node n) (recursion_from_All IsSmallTagged e.aliases small.aliases))

count_fit : (kind : IdKind) (x : EntityId) (links : ℕ) → AreFit (link_count kind (dataset_term x) links)
count_fit Letter.P x links = tt
count_fit Letter.L x links = tt
count_fit Letter.Q x links = (about_fit (dataset_term x) Say.Sitelinks _ (dataset_fit x) (number_fit links), tt)

set_fit : (x : EntityId) (rev : ℕ) (e : Entity) → IsSmallEntity e → AreFit (dataset_triples x rev e)
set_fit x rev e small =
    let node = dataset_term x in
    let numbers = number_triples node rev e.statements in
    let count = link_count x.kind node (length e.links) in
    let change = change_triples node e.modified in
    join (page_triples x ++ numbers ++ count) change
    (join (page_triples x ++ numbers) count
    (join (page_triples x) numbers (page_fit x) (numbers_fit x rev e.statements))
    (count_fit x.kind x (length e.links)))
    (change_fit x e.modified small.modified)

typed_fit : (b : Bool) (x : EntityId) (datatype : List ℕ) → is_word is_datatype_char datatype ≡ b → length datatype ≤ 8388608 →
    AreFit (cond b (about (entity_term x) Say.PropertyType (prefixed Wikibase (type_name datatype)) ∷ []) [])
typed_fit false x datatype is small = tt
typed_fit true x datatype is small =
    (about_fit (entity_term x) Say.PropertyType _ (entity_fit x) (prefixed_fit Wikibase (type_name datatype) (type_name_iri datatype is) (omega (arith, small, type_name_short datatype))), tt)

datatype_fit : (x : EntityId) (datatype : Option (List ℕ)) → optional_length datatype ≤ 8388608 → AreFit (datatype_triples (entity_term x) datatype)
datatype_fit x None small = tt
datatype_fit x (Some datatype) small = typed_fit (is_word is_datatype_char datatype) x datatype refl small

predicate_of : (x : EntityId) (predicate : Predicate) (prefix : Prefix) → HasFitAndShortTerms (predicate_triple x predicate prefix)
predicate_of x predicate prefix = about_fit (entity_term x) predicate _ (entity_fit x) (id_term_fit prefix x)

values_fit : (x : EntityId) → AreFit (value_predicates x)
values_fit x = (predicate_of x Say.DirectClaim Wdt, (predicate_of x Say.Claim P, (predicate_of x Say.StatementProperty Ps, (predicate_of x Say.StatementValue Psv, tt))))

others_fit : (x : EntityId) → AreFit (other_predicates x)
others_fit x =
    (predicate_of x Say.Qualifier Pq, (predicate_of x Say.QualifierValue Pqv, (predicate_of x Say.Reference Pr, (predicate_of x Say.ReferenceValue Prv, (predicate_of x Say.Novalue Wdno, tt)))))

property_fit : (kind : IdKind) (x : EntityId) (datatype : Option (List ℕ)) → optional_length datatype ≤ 8388608 → AreFit (property_triples_of kind x datatype)
property_fit Letter.P x datatype small =
    let types = datatype_triples (entity_term x) datatype in
    join (types ++ value_predicates x) (other_predicates x) (join types (value_predicates x) (datatype_fit x datatype small) (values_fit x)) (others_fit x)
property_fit Letter.Q x datatype small = tt
property_fit Letter.L x datatype small = tt

-- what the page of a small document says but for its site links and statements
pub spoken_fit : (x : EntityId) (rev : ℕ) (e : Entity) → IsSmallEntity e → AreFit (spoken_triples x rev e)
spoken_fit x rev e small =
    let texts = text_triples x e in
    let set = dataset_triples x rev e in
    join (texts ++ set) (property_triples x e.datatype)
    (join texts set (texts_fit x e small) (set_fit x rev e small))
    (property_fit x.kind x e.datatype small.datatype)
