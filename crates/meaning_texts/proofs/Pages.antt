-- What the rules give for a document whose texts are UTF-8 has terms of UTF-8.
use Rattle.std.proofs.Common.{◌≡◌, ℕ, ◌<◌, Bool, true, false, cond, List, [], ◌∷◌, length, refl, arith}
use Rattle.std.specs.Char.{to_ascii_uppercase}
use Rattle.std.specs.List.{flat_map, list_all, onto_first, slice_split}
use Rattle.std.specs.Str.{IsUtf8}
use Rattle.std.proofs.lemmas.Bool.{and_parts}
use Rattle.std.proofs.lemmas.Bool.Decides.{nat_tests}
use Rattle.std.proofs.lemmas.Str.{IsUtf8-append, IsUtf8-nil}
use Rattle.rdf_term.specs.declared.triple.Triple.{Triple}
use Rattle.rdf_term.specs.Grammar.{is_word}
use Rattle.rdf_term.proofs.Utf8Texts.{plain_utf8}
use Rattle.entity_model.specs.declared.id.EntityId.{EntityId}
use Rattle.entity_model.specs.declared.entity.Entity.{Entity}
use Rattle.entity_model.specs.declared.document.Document.{Document}
use Rattle.entity_model.specs.declared.document.Document.TheVariants.{Entity as AnEntity, Redirect, Lexeme as ALexeme}
use Rattle.entity_model.specs.declared.mapping.MappingVersion.{MappingVersion}
use Rattle.rdf_vocabulary.specs.declared.datatype.Datatype.TheVariants.{DateTime}
use Rattle.rdf_vocabulary.specs.declared.predicate.Predicate.{Predicate}
use Rattle.rdf_vocabulary.specs.declared.predicate.Predicate.TheVariants as Say
use Rattle.rdf_vocabulary.specs.declared.prefix.Prefix.{Prefix}
use Rattle.rdf_vocabulary.specs.declared.prefix.Prefix.TheVariants.{Wdt, P, Ps, Psv, Pq, Pqv, Pr, Prv, Wdno, Wikibase}
use Rattle.rdf_vocabulary.specs.declared.resource.Resource.TheVariants.{Dataset, PublicDomain}
use Rattle.rdf_vocabulary.specs.Predicate.{about}
use Rattle.rdf_vocabulary.specs.Prefix.{entity_term, prefixed}
use Rattle.sitelinks.specs.Article.{article_triples}
use Rattle.page_rdf.specs.About.{class_of}
use Rattle.page_rdf.specs.Dataset.{dataset_term, format_version, identifiers}
use Rattle.page_rdf.specs.Property.{capitalized, is_datatype_char, is_hyphen, other_predicates, predicate_triple, type_name, type_triples, value_predicates}
use Rattle.statement_facts.specs.Ranking.{is_best}
use Rattle.statement_rdf.proofs.Each.{of_member}
use Rattle.entity_rdf.specs.Gives.{EntityGives, Gives, class, label, preferred_label, name, description, alternative_label, dataset, dataset_about, license, format, revision, statement_count, identifier_count, link_count, modified, property_type, value_predicate, other_predicate, article, statement}
use Rattle.meaning_texts.specs.Documents.{IsUtf8Document, IsUtf8Entity, IsUtf8Link, IsUtf8Statement}
use Rattle.meaning_texts.specs.Terms.{HasUtf8Terms}
use Rattle.meaning_texts.proofs.Ascii.{low_utf8, passing_utf8}
use Rattle.meaning_texts.proofs.Lexemes.{dataset_utf8, entity_utf8, format_utf8, lexeme_utf8, number_utf8, text_utf8, time_utf8}
use Rattle.meaning_texts.proofs.Links.{article_utf8}
use Rattle.meaning_texts.proofs.Statements.{of_all, same_utf8, statement_utf8}
use Rattle.meaning_texts.proofs.Vocabulary.{AreUtf8, about_utf8, class_utf8, id_utf8, literal_utf8, prefixed_utf8, resource_utf8}

-- ---- the names of types of properties

abbrev are_parts : List (List ℕ) → Bool
are_parts parts = list_all (list_all is_datatype_char) parts

onto_parts : (c : ℕ) (parts : List (List ℕ)) → is_datatype_char c ≡ true → are_parts parts ≡ true → are_parts (onto_first c parts) ≡ true
onto_parts c [] is are = rw is refl
onto_parts c (part ∷ parts) is are = rw is are

by_hyphen : (b : Bool) (c : ℕ) (parts : List (List ℕ)) → is_datatype_char c ≡ true → are_parts parts ≡ true → are_parts (cond b ([] ∷ parts) (onto_first c parts)) ≡ true
by_hyphen true c parts is are = are
by_hyphen false c parts is are = onto_parts c parts is are

split_parts : (text : List ℕ) → list_all is_datatype_char text ≡ true → are_parts (slice_split is_hyphen text) ≡ true
split_parts [] all = refl
split_parts (c ∷ cs) all =
    let both = and_parts (is_datatype_char c) (list_all is_datatype_char cs) all in by_hyphen (is_hyphen c) c (slice_split is_hyphen cs) both.0 (split_parts cs both.1)

char_low : (c : ℕ) → is_datatype_char c ≡ true → c < 128
char_low c is = grind (arith, nat_tests)

upper_low : (c : ℕ) → is_datatype_char c ≡ true → to_ascii_uppercase c < 128
upper_low c is = grind (arith, nat_tests)

part_utf8 : (part : List ℕ) → list_all is_datatype_char part ≡ true → IsUtf8 (capitalized part)
part_utf8 [] all = IsUtf8-nil
part_utf8 (c ∷ cs) all =
    let both = and_parts (is_datatype_char c) (list_all is_datatype_char cs) all in low_utf8 _ cs (upper_low c both.0) (passing_utf8 is_datatype_char char_low cs both.1)

parts_utf8 : (parts : List (List ℕ)) → are_parts parts ≡ true → IsUtf8 (flat_map capitalized parts)
parts_utf8 [] are = IsUtf8-nil
parts_utf8 (part ∷ parts) are =
    let both = and_parts (list_all is_datatype_char part) (are_parts parts) are in IsUtf8-append (capitalized part) (flat_map capitalized parts) (part_utf8 part both.0) (parts_utf8 parts both.1)

word_chars : (text : List ℕ) → is_word is_datatype_char text ≡ true → list_all is_datatype_char text ≡ true
word_chars [] is = refl
word_chars (c ∷ cs) is = is

type_utf8 : (x : EntityId) (datatype : List ℕ) → AreUtf8 (type_triples (entity_term x) datatype)
type_utf8 x datatype = by (is_word is_datatype_char datatype) refl
  where
    by : (b : Bool) → is_word is_datatype_char datatype ≡ b → AreUtf8 (cond b (about (entity_term x) Say.PropertyType (prefixed Wikibase (type_name datatype)) ∷ []) [])
    by true is = (about_utf8 (entity_term x) Say.PropertyType _ (entity_utf8 x) (prefixed_utf8 Wikibase (type_name datatype) (parts_utf8 (slice_split is_hyphen datatype) (split_parts datatype (word_chars datatype is)))), tt)
    by false is = tt

-- ---- the predicates of a property

predicate_of : (x : EntityId) (predicate : Predicate) (prefix : Prefix) → HasUtf8Terms (predicate_triple x predicate prefix)
predicate_of x predicate prefix = about_utf8 (entity_term x) predicate _ (entity_utf8 x) (id_utf8 prefix x)

values_utf8 : (x : EntityId) → AreUtf8 (value_predicates x)
values_utf8 x = (predicate_of x Say.DirectClaim Wdt, (predicate_of x Say.Claim P, (predicate_of x Say.StatementProperty Ps, (predicate_of x Say.StatementValue Psv, tt))))

others_utf8 : (x : EntityId) → AreUtf8 (other_predicates x)
others_utf8 x =
    (predicate_of x Say.Qualifier Pq, (predicate_of x Say.QualifierValue Pqv, (predicate_of x Say.Reference Pr, (predicate_of x Say.ReferenceValue Prv, (predicate_of x Say.Novalue Wdno, tt)))))

-- ---- the page of an item or a property

module _ (version : MappingVersion) (x : EntityId) (rev : ℕ) (e : Entity) (t : Triple) (is : IsUtf8Entity e) where
  rules_utf8 : EntityGives version x rev e t → HasUtf8Terms t
  rules_utf8 (class same) = same_utf8 t _ (class_utf8 (entity_term x) (class_of x.kind) (entity_utf8 x)) same
  rules_utf8 (label l there same) = same_utf8 t _ (about_utf8 (entity_term x) Say.Label _ (entity_utf8 x) (text_utf8 e.labels l is.labels there)) same
  rules_utf8 (preferred_label l there same) = same_utf8 t _ (about_utf8 (entity_term x) Say.PrefLabel _ (entity_utf8 x) (text_utf8 e.labels l is.labels there)) same
  rules_utf8 (name l there same) = same_utf8 t _ (about_utf8 (entity_term x) Say.Name _ (entity_utf8 x) (text_utf8 e.labels l is.labels there)) same
  rules_utf8 (description d there same) = same_utf8 t _ (about_utf8 (entity_term x) Say.Description _ (entity_utf8 x) (text_utf8 e.descriptions d is.descriptions there)) same
  rules_utf8 (alternative_label a there same) = same_utf8 t _ (about_utf8 (entity_term x) Say.AltLabel _ (entity_utf8 x) (text_utf8 e.aliases a is.aliases there)) same
  rules_utf8 (dataset same) = same_utf8 t _ (class_utf8 (dataset_term x) Dataset (dataset_utf8 x)) same
  rules_utf8 (dataset_about same) = same_utf8 t _ (about_utf8 (dataset_term x) Say.About _ (dataset_utf8 x) (entity_utf8 x)) same
  rules_utf8 (license same) = same_utf8 t _ (about_utf8 (dataset_term x) Say.License _ (dataset_utf8 x) (resource_utf8 PublicDomain)) same
  rules_utf8 (format same) = same_utf8 t _ (about_utf8 (dataset_term x) Say.SoftwareVersion _ (dataset_utf8 x) (plain_utf8 format_version format_utf8)) same
  rules_utf8 (revision same) = same_utf8 t _ (about_utf8 (dataset_term x) Say.Version _ (dataset_utf8 x) (number_utf8 rev)) same
  rules_utf8 (statement_count same) = same_utf8 t _ (about_utf8 (dataset_term x) Say.Statements _ (dataset_utf8 x) (number_utf8 (length e.statements))) same
  rules_utf8 (identifier_count same) = same_utf8 t _ (about_utf8 (dataset_term x) Say.Identifiers _ (dataset_utf8 x) (number_utf8 (identifiers e.statements))) same
  rules_utf8 (link_count kind same) = same_utf8 t _ (about_utf8 (dataset_term x) Say.Sitelinks _ (dataset_utf8 x) (number_utf8 (length e.links))) same
  rules_utf8 (modified time there same) =
      same_utf8 t _ (about_utf8 (dataset_term x) Say.DateModified _ (dataset_utf8 x) (literal_utf8 time DateTime (time_utf8 e.modified time is.modified there))) same
  rules_utf8 (property_type datatype kind of_it there) = of_member HasUtf8Terms (type_triples (entity_term x) datatype) t (type_utf8 x datatype) there
  rules_utf8 (value_predicate kind there) = of_member HasUtf8Terms (value_predicates x) t (values_utf8 x) there
  rules_utf8 (other_predicate kind there) = of_member HasUtf8Terms (other_predicates x) t (others_utf8 x) there
  rules_utf8 (article l there within) = of_member HasUtf8Terms (article_triples x l) t (article_utf8 x l (of_all IsUtf8Link e.links l is.links there)) within
  rules_utf8 (statement s there gives) = statement_utf8 version (entity_term x) s (is_best e.statements s) t (entity_utf8 x) (of_all IsUtf8Statement e.statements s is.statements there) gives

-- the page of a document
pub given_utf8 : (version : MappingVersion) (x : EntityId) (rev : ℕ) (document : Document) (t : Triple) → IsUtf8Document document → Gives version x rev document t → HasUtf8Terms t
given_utf8 version x rev (AnEntity e) t is gives = rules_utf8 version x rev e t is gives
given_utf8 version x rev (Redirect y) t is same = same_utf8 t _ (about_utf8 (entity_term x) Say.SameAs _ (entity_utf8 x) (entity_utf8 y)) same
given_utf8 version x rev (ALexeme l) t is gives = lexeme_utf8 version x rev l t is gives
