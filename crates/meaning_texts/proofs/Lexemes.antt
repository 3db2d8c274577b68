-- What the rules give for a lexeme whose texts are UTF-8 has terms of UTF-8.
use Rattle.std.proofs.Common.{◌≡◌, ℕ, List, Option, Some, decimal, length, refl, subst}
use Rattle.std.specs.Prelude.{IfSome}
use Rattle.std.specs.List.{All}
use Rattle.std.specs.Str.{IsUtf8}
use Rattle.sorted_sets.specs.Rising.{In}
use Rattle.rdf_term.specs.declared.term.Term.{Term}
use Rattle.rdf_term.specs.declared.triple.Triple.{Triple}
use Rattle.rdf_term.proofs.Utf8Texts.{plain_utf8}
use Rattle.entity_model.specs.declared.id.EntityId.{EntityId}
use Rattle.entity_model.specs.declared.lexeme.Lexeme.{Lexeme}
use Rattle.entity_model.specs.declared.lexeme.Part.{Part}
use Rattle.entity_model.specs.declared.mapping.MappingVersion.{MappingVersion}
use Rattle.entity_model.specs.declared.statement.Statement.{Statement}
use Rattle.entity_model.specs.declared.value.Tagged.{Tagged}
use Rattle.rdf_vocabulary.specs.declared.datatype.Datatype.TheVariants.{DateTime, Integer}
use Rattle.rdf_vocabulary.specs.declared.predicate.Predicate.{Predicate}
use Rattle.rdf_vocabulary.specs.declared.predicate.Predicate.TheVariants as Say
use Rattle.rdf_vocabulary.specs.declared.prefix.Prefix.TheVariants.{Data, Wd}
use Rattle.rdf_vocabulary.specs.declared.resource.Resource.TheVariants as Classes
use Rattle.rdf_vocabulary.specs.Prefix.{entity_term}
use Rattle.page_rdf.specs.Dataset.{dataset_term, format_version, identifiers, number_term}
use Rattle.page_rdf.specs.Part.{part_term}
use Rattle.page_rdf.specs.Texts.{tagged_term}
use Rattle.statement_facts.specs.Ranking.{is_best}
use Rattle.entity_rdf.specs.LexemeGives.{EntryGives, lexical_entry, lexeme, language, category, TextGives, spelled, label, PageGives, dataset, dataset_about, license, format, revision, statement_count, identifier_count, modified}
use Rattle.entity_rdf.specs.LexemeGives.{FormGives, lexical_form, form_class, wikibase_form, representation, feature, SenseGives, lexical_sense, sense_class, wikibase_sense, gloss, OwnGives, one}
use Rattle.entity_rdf.specs.LexemeGives.{LexemeGives, entry, lemma, page, form, sense, statement, form_statement, sense_statement}
use Rattle.meaning_texts.specs.Documents.{IsUtf8Lexeme, IsUtf8Part, IsUtf8Statement, IsUtf8Tagged}
use Rattle.meaning_texts.specs.Terms.{HasUtf8Terms, IsUtf8Term}
use Rattle.meaning_texts.proofs.Ascii.{ascii_utf8, decimal_utf8}
use Rattle.meaning_texts.proofs.Statements.{of_all, same_utf8, statement_utf8}
use Rattle.meaning_texts.proofs.Vocabulary.{about_utf8, class_utf8, id_utf8, literal_utf8, prefixed_utf8, resource_utf8, tagged_utf8}

-- ---- terms that pages of all kinds have

pub entity_utf8 : (x : EntityId) → IsUtf8Term (entity_term x)
entity_utf8 x = id_utf8 Wd x

pub dataset_utf8 : (x : EntityId) → IsUtf8Term (dataset_term x)
dataset_utf8 x = id_utf8 Data x

pub number_utf8 : (n : ℕ) → IsUtf8Term (number_term n)
number_utf8 n = literal_utf8 (decimal n) Integer (decimal_utf8 n)

pub format_utf8 : IsUtf8 format_version
unfolding format_version
format_utf8 = ascii_utf8 format_version refl

pub time_utf8 : (o : Option (List ℕ)) (time : List ℕ) → IfSome o IsUtf8 → o ≡ Some time → IsUtf8 time
time_utf8 o time is there = subst (λ p. IfSome p IsUtf8) there is

pub text_utf8 : (texts : List Tagged) (text : Tagged) → All IsUtf8Tagged texts → In text texts → IsUtf8Term (tagged_term text)
text_utf8 texts text are there = let is = of_all IsUtf8Tagged texts text are there in tagged_utf8 text.text text.language is.text is.language

-- ---- parts of lexemes

entry_utf8 : (x : EntityId) (l : Lexeme) (t : Triple) → EntryGives x l t → HasUtf8Terms t
entry_utf8 x l t (lexical_entry same) = same_utf8 t _ (class_utf8 (entity_term x) Classes.LexicalEntry (entity_utf8 x)) same
entry_utf8 x l t (lexeme same) = same_utf8 t _ (class_utf8 (entity_term x) Classes.Lexeme (entity_utf8 x)) same
entry_utf8 x l t (language same) = same_utf8 t _ (about_utf8 (entity_term x) Say.Language _ (entity_utf8 x) (entity_utf8 l.language)) same
entry_utf8 x l t (category same) = same_utf8 t _ (about_utf8 (entity_term x) Say.LexicalCategory _ (entity_utf8 x) (entity_utf8 l.category)) same

said_utf8 : (predicate : Predicate) (node : Term) (text : Tagged) (t : Triple) → IsUtf8Term node → IsUtf8Term (tagged_term text) → TextGives predicate node text t → HasUtf8Terms t
said_utf8 predicate node text t n is (spelled same) = same_utf8 t _ (about_utf8 node predicate _ n is) same
said_utf8 predicate node text t n is (label same) = same_utf8 t _ (about_utf8 node Say.Label _ n is) same

page_utf8 : (x : EntityId) (rev : ℕ) (l : Lexeme) (t : Triple) → IsUtf8Lexeme l → PageGives x rev l t → HasUtf8Terms t
page_utf8 x rev l t is (dataset same) = same_utf8 t _ (class_utf8 (dataset_term x) Classes.Dataset (dataset_utf8 x)) same
page_utf8 x rev l t is (dataset_about same) = same_utf8 t _ (about_utf8 (dataset_term x) Say.About _ (dataset_utf8 x) (entity_utf8 x)) same
page_utf8 x rev l t is (license same) = same_utf8 t _ (about_utf8 (dataset_term x) Say.License _ (dataset_utf8 x) (resource_utf8 Classes.PublicDomain)) same
page_utf8 x rev l t is (format same) = same_utf8 t _ (about_utf8 (dataset_term x) Say.SoftwareVersion _ (dataset_utf8 x) (plain_utf8 format_version format_utf8)) same
page_utf8 x rev l t is (revision same) = same_utf8 t _ (about_utf8 (dataset_term x) Say.Version _ (dataset_utf8 x) (number_utf8 rev)) same
page_utf8 x rev l t is (statement_count same) = same_utf8 t _ (about_utf8 (dataset_term x) Say.Statements _ (dataset_utf8 x) (number_utf8 (length l.statements))) same
page_utf8 x rev l t is (identifier_count same) = same_utf8 t _ (about_utf8 (dataset_term x) Say.Identifiers _ (dataset_utf8 x) (number_utf8 (identifiers l.statements))) same
page_utf8 x rev l t is (modified time there same) =
    same_utf8 t _ (about_utf8 (dataset_term x) Say.DateModified _ (dataset_utf8 x) (literal_utf8 time DateTime (time_utf8 l.modified time is.modified there))) same

part_utf8 : (p : Part) → IsUtf8Part p → IsUtf8Term (part_term p.id)
part_utf8 p is = prefixed_utf8 Wd p.id is.id

form_utf8 : (x : EntityId) (f : Part) (t : Triple) → IsUtf8Part f → FormGives (entity_term x) f t → HasUtf8Terms t
form_utf8 x f t is (lexical_form same) = same_utf8 t _ (about_utf8 (entity_term x) Say.LexicalForm _ (entity_utf8 x) (part_utf8 f is)) same
form_utf8 x f t is (form_class same) = same_utf8 t _ (class_utf8 (part_term f.id) Classes.Form (part_utf8 f is)) same
form_utf8 x f t is (wikibase_form same) = same_utf8 t _ (class_utf8 (part_term f.id) Classes.WikibaseForm (part_utf8 f is)) same
form_utf8 x f t is (representation text there gives) = said_utf8 Say.Representation (part_term f.id) text t (part_utf8 f is) (text_utf8 f.texts text is.texts there) gives
form_utf8 x f t is (feature item there same) = same_utf8 t _ (about_utf8 (part_term f.id) Say.GrammaticalFeature _ (part_utf8 f is) (entity_utf8 item)) same

sense_utf8 : (x : EntityId) (s : Part) (t : Triple) → IsUtf8Part s → SenseGives (entity_term x) s t → HasUtf8Terms t
sense_utf8 x s t is (lexical_sense same) = same_utf8 t _ (about_utf8 (entity_term x) Say.Sense _ (entity_utf8 x) (part_utf8 s is)) same
sense_utf8 x s t is (sense_class same) = same_utf8 t _ (class_utf8 (part_term s.id) Classes.LexicalSense (part_utf8 s is)) same
sense_utf8 x s t is (wikibase_sense same) = same_utf8 t _ (class_utf8 (part_term s.id) Classes.WikibaseSense (part_utf8 s is)) same
sense_utf8 x s t is (gloss text there gives) = said_utf8 Say.Definition (part_term s.id) text t (part_utf8 s is) (text_utf8 s.texts text is.texts there) gives

own_utf8 : (version : MappingVersion) (subject : Term) (all : List Statement) (t : Triple) → IsUtf8Term subject → All IsUtf8Statement all → OwnGives version subject all t → HasUtf8Terms t
own_utf8 version subject all t n are (one s there gives) = statement_utf8 version subject s (is_best all s) t n (of_all IsUtf8Statement all s are there) gives

-- ---- the page of a lexeme

module _ (version : MappingVersion) (x : EntityId) (rev : ℕ) (l : Lexeme) (t : Triple) (is : IsUtf8Lexeme l) where
  form_of : (f : Part) → In f l.forms → IsUtf8Part f
  form_of f there = of_all IsUtf8Part l.forms f is.forms there

  sense_of : (s : Part) → In s l.senses → IsUtf8Part s
  sense_of s there = of_all IsUtf8Part l.senses s is.senses there

  pub lexeme_utf8 : LexemeGives version x rev l t → HasUtf8Terms t
  lexeme_utf8 (entry gives) = entry_utf8 x l t gives
  lexeme_utf8 (lemma text there gives) = said_utf8 Say.Lemma (entity_term x) text t (entity_utf8 x) (text_utf8 l.lemmas text is.lemmas there) gives
  lexeme_utf8 (page gives) = page_utf8 x rev l t is gives
  lexeme_utf8 (form f there gives) = form_utf8 x f t (form_of f there) gives
  lexeme_utf8 (sense s there gives) = sense_utf8 x s t (sense_of s there) gives
  lexeme_utf8 (statement gives) = own_utf8 version (entity_term x) l.statements t (entity_utf8 x) is.statements gives
  lexeme_utf8 (form_statement f there gives) = own_utf8 version (part_term f.id) f.statements t (part_utf8 f (form_of f there)) (form_of f there).statements gives
  lexeme_utf8 (sense_statement s there gives) = own_utf8 version (part_term s.id) s.statements t (part_utf8 s (sense_of s there)) (sense_of s there).statements gives
