-- The labels of the blank nodes in the dump of a lexeme are short: the only ones are those of unknown values in statements.
use Rattle.std.proofs.Common.{ℕ, List, refl}
use Rattle.sorted_sets.specs.Rising.{sorted}
use Rattle.rdf_term.specs.declared.term.Term.TheVariants.{Iri}
use Rattle.rdf_term.specs.declared.triple.Triple.{Triple}
use Rattle.rdf_term.specs.Order.{triple_cmp}
use Rattle.entity_model.specs.declared.id.EntityId.{EntityId}
use Rattle.entity_model.specs.declared.lexeme.Lexeme.{Lexeme}
use Rattle.entity_model.specs.declared.lexeme.Part.{Part}
use Rattle.entity_model.specs.declared.mapping.MappingVersion.{MappingVersion}
use Rattle.entity_model.specs.declared.statement.Statement.{Statement}
use Rattle.entity_model.specs.declared.value.Tagged.{Tagged}
use Rattle.rdf_vocabulary.specs.declared.predicate.Predicate.{Predicate}
use Rattle.rdf_vocabulary.specs.Prefix.{entity_term}
use Rattle.munger.specs.Short.{HasShortLabels}
use Rattle.munger.proofs.Fit.{sorted_each}
use Rattle.statement_rdf.proofs.Each.{of_each_member}
use Rattle.statement_rdf.proofs.Labels.{AreShort, said, statement_short, tagged_short}
use Rattle.entity_rdf.specs.LexemeDump.{lexdump}
use Rattle.entity_rdf.specs.LexemeGives.{EntryGives, lexical_entry, lexeme, language, category, TextGives, spelled, label, PageGives, dataset, dataset_about, license, format, revision, statement_count, identifier_count, modified}
use Rattle.entity_rdf.specs.LexemeGives.{FormGives, lexical_form, form_class, wikibase_form, representation, feature, SenseGives, lexical_sense, sense_class, wikibase_sense, gloss, OwnGives, one}
use Rattle.entity_rdf.specs.LexemeGives.{LexemeGives, entry, lemma, page, form, sense, statement, form_statement, sense_statement}
use Rattle.entity_rdf.proofs.LexemeGiven.{lexdump_rules}

module _ (t : Triple) where
  text_short : (word : Predicate) (node : List ℕ) (text : Tagged) → TextGives word (Iri node) text t → HasShortLabels t
  text_short word node text (spelled is) = said t is (tagged_short text.text text.language)
  text_short word node text (label is) = said t is (tagged_short text.text text.language)

  entry_short : (x : EntityId) (l : Lexeme) → EntryGives x l t → HasShortLabels t
  entry_short x l (lexical_entry is) = said t is refl
  entry_short x l (lexeme is) = said t is refl
  entry_short x l (language is) = said t is refl
  entry_short x l (category is) = said t is refl

  page_short : (x : EntityId) (rev : ℕ) (l : Lexeme) → PageGives x rev l t → HasShortLabels t
  page_short x rev l (dataset is) = said t is refl
  page_short x rev l (dataset_about is) = said t is refl
  page_short x rev l (license is) = said t is refl
  page_short x rev l (format is) = said t is refl
  page_short x rev l (revision is) = said t is refl
  page_short x rev l (statement_count is) = said t is refl
  page_short x rev l (identifier_count is) = said t is refl
  page_short x rev l (modified time found is) = said t is refl

  form_short : (x : EntityId) (f : Part) → FormGives (entity_term x) f t → HasShortLabels t
  form_short x f (lexical_form is) = said t is refl
  form_short x f (form_class is) = said t is refl
  form_short x f (wikibase_form is) = said t is refl
  form_short x f (representation text among gives) = text_short _ _ text gives
  form_short x f (feature item among is) = said t is refl

  sense_short : (x : EntityId) (s : Part) → SenseGives (entity_term x) s t → HasShortLabels t
  sense_short x s (lexical_sense is) = said t is refl
  sense_short x s (sense_class is) = said t is refl
  sense_short x s (wikibase_sense is) = said t is refl
  sense_short x s (gloss text among gives) = text_short _ _ text gives

  own_short : (version : MappingVersion) (subject : List ℕ) (all : List Statement) → OwnGives version (Iri subject) all t → HasShortLabels t
  own_short version subject all (one s among gives) = statement_short t version subject s _ gives

  -- what is said of a lexeme
  pub lexeme_short : (version : MappingVersion) (x : EntityId) (rev : ℕ) (l : Lexeme) → LexemeGives version x rev l t → HasShortLabels t
  lexeme_short version x rev l (entry gives) = entry_short x l gives
  lexeme_short version x rev l (lemma text among gives) = text_short _ _ text gives
  lexeme_short version x rev l (page gives) = page_short x rev l gives
  lexeme_short version x rev l (form f among gives) = form_short x f gives
  lexeme_short version x rev l (sense s among gives) = sense_short x s gives
  lexeme_short version x rev l (statement gives) = own_short version _ l.statements gives
  lexeme_short version x rev l (form_statement f among gives) = own_short version _ f.statements gives
  lexeme_short version x rev l (sense_statement s among gives) = own_short version _ s.statements gives

-- the set of a lexeme's triples
pub lexdump_labels : (version : MappingVersion) (x : EntityId) (rev : ℕ) (l : Lexeme) → AreShort (sorted triple_cmp (lexdump version x rev l))
lexdump_labels version x rev l =
    let triples = lexdump version x rev l in
    sorted_each HasShortLabels triple_cmp triples
    (of_each_member HasShortLabels triples (λ t there. lexeme_short t version x rev l ((lexdump_rules version x rev l t).0 there)))
