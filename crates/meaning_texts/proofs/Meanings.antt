-- The triples that a page means have terms of UTF-8.
use Rattle.std.proofs.Common.{ℕ, List, [], ◌∷◌, arith}
use Rattle.std.specs.List.{AllByRecursion}
use Rattle.rdf_term.specs.declared.term.Term.{Term}
use Rattle.rdf_term.specs.declared.term.Term.TheVariants.{Iri, Blank, Plain, Lang, Typed}
use Rattle.rdf_term.specs.declared.triple.Triple.{Triple}
use Rattle.entity_model.specs.declared.id.EntityId.{EntityId}
use Rattle.entity_model.specs.declared.mapping.MappingVersion.{MappingVersion}
use Rattle.rdf_vocabulary.specs.declared.prefix.Prefix.TheVariants.{Genid, Wd}
use Rattle.rdf_vocabulary.proofs.Shared.{chosen}
use Rattle.munger.specs.Iris.{dataset_iri, is_iri_of}
use Rattle.munger.specs.Munging.{left_by, munged}
use Rattle.munger.specs.Naming.{named}
use Rattle.munger.specs.Verdict.{has_dropped_type, is_moved, repeats_label}
use Rattle.statement_rdf.proofs.Each.{of_each_member, of_member}
use Rattle.fetched_pages.specs.{Meaning.meaning, Means.Means}
use Rattle.fetched_pages.proofs.Means.{meaning_rules}
use Rattle.meaning_texts.specs.Terms.{HasUtf8Terms, IsUtf8Term}
use Rattle.meaning_texts.proofs.Ascii.{after_low}
use Rattle.meaning_texts.proofs.Documents.{page_utf8}
use Rattle.meaning_texts.proofs.Pages.{given_utf8}
use Rattle.meaning_texts.proofs.Vocabulary.{AreUtf8, id_utf8, prefixed_utf8}

-- the IRI of a blank node, and every other term as it is
named_utf8 : (term : Term) → IsUtf8Term term → IsUtf8Term (named term)
named_utf8 (Blank label) is = prefixed_utf8 Genid label (after_low (95 ∷ []) 58 label (omega arith) is)
named_utf8 (Iri iri) is = is
named_utf8 (Plain text) is = is
named_utf8 (Lang text tag) is = is
named_utf8 (Typed text datatype) is = is

-- what is left of a triple
left_utf8 : (id : EntityId) (triple : Triple) → HasUtf8Terms triple → AreUtf8 (munged id triple)
left_utf8 id triple is =
    let kept : HasUtf8Terms _ = record { subject = named_utf8 triple.subject is.subject; predicate = named_utf8 triple.predicate is.predicate; object = named_utf8 triple.object is.object } in
    let moved : HasUtf8Terms _ = record { subject = id_utf8 Wd id; predicate = named_utf8 triple.predicate is.predicate; object = named_utf8 triple.object is.object } in
    chosen (λ v. AreUtf8 (left_by id triple v)) (is_iri_of (dataset_iri id) triple.subject) _ _
    (chosen (λ v. AreUtf8 (left_by id triple v)) (is_moved triple.predicate) _ _ (moved, tt) tt)
    (chosen (λ v. AreUtf8 (left_by id triple v)) (has_dropped_type triple) _ _ tt
    (chosen (λ v. AreUtf8 (left_by id triple v)) (repeats_label id triple) _ _ tt (kept, tt)))

meant_utf8 : (version : MappingVersion) (x : EntityId) (rev : ℕ) (bytes : List ℕ) (t : Triple) → Means version x rev bytes t → HasUtf8Terms t
meant_utf8 version x rev bytes t means =
    let document = page_utf8 x bytes means.document means.is_document in
    of_member HasUtf8Terms (munged x means.given) t (left_utf8 x means.given (given_utf8 version x rev means.document means.given document means.gives)) means.leaves

-- the triples that bytes mean
pub meaning_utf8 : (version : MappingVersion) (x : EntityId) (rev : ℕ) (bytes : List ℕ) → AllByRecursion HasUtf8Terms (meaning version x rev bytes)
meaning_utf8 version x rev bytes = of_each_member HasUtf8Terms (meaning version x rev bytes) (λ t there. meant_utf8 version x rev bytes t ((meaning_rules version x rev bytes t).0 there))
