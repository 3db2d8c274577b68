-- The triples of a lexeme are those that a rule gives.
use Rattle.std.proofs.Common.{◌≡◌, ℕ, inl, inr, List, ◌++◌, Option, Some, None, refl, subst, sym}
use Rattle.std.specs.Prelude.{◌↔◌}
use Rattle.std.specs.List.{flat_map}
use Rattle.sorted_sets.specs.Rising.{In}
use Rattle.rdf_term.specs.declared.term.Term.{Term}
use Rattle.rdf_term.specs.declared.triple.Triple.{Triple}
use Rattle.entity_model.specs.declared.id.EntityId.{EntityId}
use Rattle.entity_model.specs.declared.mapping.MappingVersion.{MappingVersion}
use Rattle.entity_model.specs.declared.statement.Statement.{Statement}
use Rattle.entity_model.specs.declared.value.Tagged.{Tagged}
use Rattle.rdf_vocabulary.specs.Prefix.{entity_term}
use Rattle.statement_facts.specs.Ranking.{is_best}
use Rattle.statement_rdf.proofs.Given.{statement_rules}
use Rattle.statement_rdf.proofs.Members.{in_front, in_back, in_either, in_flat_map, flat_map_in}
use Rattle.page_rdf.specs.Dataset.{change_triples, dataset_term, number_triples, page_triples}
use Rattle.entity_model.specs.declared.lexeme.Lexeme.{Lexeme}
use Rattle.entity_model.specs.declared.lexeme.Part.{Part}
use Rattle.rdf_vocabulary.specs.declared.predicate.Predicate.{Predicate}
use Rattle.rdf_vocabulary.specs.declared.predicate.Predicate.TheVariants as Say
use Rattle.entity_rdf.specs.LexemeDump.{lexdump, part_triples, spoken_triples}
use Rattle.page_rdf.specs.Entry.{entry_triples, lemma_triples}
use Rattle.page_rdf.specs.Form.{feature_triples, form_head, form_triples}
use Rattle.entity_rdf.specs.LexemeGives.{EntryGives, lexical_entry, lexeme, language, category, TextGives, spelled, label, PageGives, dataset, dataset_about, license, format, revision, statement_count, identifier_count, modified}
use Rattle.entity_rdf.specs.LexemeGives.{FormGives, lexical_form, form_class, wikibase_form, representation, feature, SenseGives, lexical_sense, sense_class, wikibase_sense, gloss, OwnGives, one}
use Rattle.entity_rdf.specs.LexemeGives.{LexemeGives, entry, lemma, page, form, sense, statement, form_statement, sense_statement}
use Rattle.page_rdf.specs.Part.{part_term}
use Rattle.page_rdf.specs.LexemePage.{lexeme_page_triples}
use Rattle.page_rdf.specs.Sense.{sense_head, sense_triples}
use Rattle.statement_rdf.specs.Statements.{judged_triples, statements_triples}
use Rattle.entity_rdf.specs.LexemeStatements.{all_statements, part_statements}
use Rattle.page_rdf.specs.LexemeTexts.{text_triples}

module _ (t : Triple) where
  -- a text of a node
  text_gives : (word : Predicate) (node : Term) (text : Tagged) → In t (text_triples word node text) → TextGives word node text t
  text_gives word node text (inl is) = spelled is
  text_gives word node text (inr (inl is)) = label is
  text_gives word node text (inr (inr none)) = absurd none

  text_given : (word : Predicate) (node : Term) (text : Tagged) → TextGives word node text t → In t (text_triples word node text)
  text_given word node text (spelled is) = inl is
  text_given word node text (label is) = inr (inl is)

  -- a form, but for its statements
  head_form : (entity : Term) (f : Part) → In t (form_head entity (part_term f.id)) → FormGives entity f t
  head_form entity f (inl is) = lexical_form is
  head_form entity f (inr (inl is)) = form_class is
  head_form entity f (inr (inr (inl is))) = wikibase_form is
  head_form entity f (inr (inr (inr none))) = absurd none

  feature_form : (entity : Term) (f : Part) → In t (flat_map (feature_triples (part_term f.id)) f.features) → FormGives entity f t
  feature_form entity f h = let found = flat_map_in (feature_triples (part_term f.id)) t f.features h in elim found.2 [
    | inl is ↦ feature found.0 found.1 is
    | inr none ↦ absurd none
  ]

  text_form : (entity : Term) (f : Part) → In t (flat_map (text_triples Say.Representation (part_term f.id)) f.texts) → FormGives entity f t
  text_form entity f h =
      let found = flat_map_in (text_triples Say.Representation (part_term f.id)) t f.texts h in
      representation found.0 found.1 (text_gives Say.Representation (part_term f.id) found.0 found.2)

  form_gives : (entity : Term) (f : Part) → In t (form_triples entity f) → FormGives entity f t
  form_gives entity f h =
      let head = form_head entity (part_term f.id) in
      let texts = flat_map (text_triples Say.Representation (part_term f.id)) f.texts in
      elim (in_either t (head ++ texts) (flat_map (feature_triples (part_term f.id)) f.features) h) [
        | inl front ↦ elim (in_either t head texts front) [
          | inl part ↦ head_form entity f part
          | inr part ↦ text_form entity f part
        ]
        | inr part ↦ feature_form entity f part
      ]

  in_form_head : (entity : Term) (f : Part) → In t (form_head entity (part_term f.id)) → In t (form_triples entity f)
  in_form_head entity f h =
      let head = form_head entity (part_term f.id) in
      let texts = flat_map (text_triples Say.Representation (part_term f.id)) f.texts in
      in_front t (head ++ texts) (flat_map (feature_triples (part_term f.id)) f.features) (in_front t head texts h)

  form_given : (entity : Term) (f : Part) → FormGives entity f t → In t (form_triples entity f)
  form_given entity f (lexical_form is) = in_form_head entity f (inl is)
  form_given entity f (form_class is) = in_form_head entity f (inr (inl is))
  form_given entity f (wikibase_form is) = in_form_head entity f (inr (inr (inl is)))
  form_given entity f (representation text among gives) =
      let head = form_head entity (part_term f.id) in
      let texts = flat_map (text_triples Say.Representation (part_term f.id)) f.texts in
      let there = in_flat_map (text_triples Say.Representation (part_term f.id)) t text f.texts among (text_given Say.Representation (part_term f.id) text gives) in
      in_front t (head ++ texts) (flat_map (feature_triples (part_term f.id)) f.features) (in_back t head texts there)
  form_given entity f (feature item among is) =
      let head = form_head entity (part_term f.id) in
      let texts = flat_map (text_triples Say.Representation (part_term f.id)) f.texts in
      let features = flat_map (feature_triples (part_term f.id)) f.features in
      in_back t (head ++ texts) features (in_flat_map (feature_triples (part_term f.id)) t item f.features among (inl is))

  -- a sense, but for its statements
  head_sense : (entity : Term) (s : Part) → In t (sense_head entity (part_term s.id)) → SenseGives entity s t
  head_sense entity s (inl is) = lexical_sense is
  head_sense entity s (inr (inl is)) = sense_class is
  head_sense entity s (inr (inr (inl is))) = wikibase_sense is
  head_sense entity s (inr (inr (inr none))) = absurd none

  text_sense : (entity : Term) (s : Part) → In t (flat_map (text_triples Say.Definition (part_term s.id)) s.texts) → SenseGives entity s t
  text_sense entity s h =
      let found = flat_map_in (text_triples Say.Definition (part_term s.id)) t s.texts h in
      gloss found.0 found.1 (text_gives Say.Definition (part_term s.id) found.0 found.2)

  sense_gives : (entity : Term) (s : Part) → In t (sense_triples entity s) → SenseGives entity s t
  sense_gives entity s h =
      let head = sense_head entity (part_term s.id) in
      elim (in_either t head (flat_map (text_triples Say.Definition (part_term s.id)) s.texts) h) [
        | inl part ↦ head_sense entity s part
        | inr part ↦ text_sense entity s part
      ]

  in_sense_head : (entity : Term) (s : Part) → In t (sense_head entity (part_term s.id)) → In t (sense_triples entity s)
  in_sense_head entity s h = in_front t (sense_head entity (part_term s.id)) (flat_map (text_triples Say.Definition (part_term s.id)) s.texts) h

  sense_given : (entity : Term) (s : Part) → SenseGives entity s t → In t (sense_triples entity s)
  sense_given entity s (lexical_sense is) = in_sense_head entity s (inl is)
  sense_given entity s (sense_class is) = in_sense_head entity s (inr (inl is))
  sense_given entity s (wikibase_sense is) = in_sense_head entity s (inr (inr (inl is)))
  sense_given entity s (gloss text among gives) =
      let head = sense_head entity (part_term s.id) in
      let texts = flat_map (text_triples Say.Definition (part_term s.id)) s.texts in
      in_back t head texts (in_flat_map (text_triples Say.Definition (part_term s.id)) t text s.texts among (text_given Say.Definition (part_term s.id) text gives))

  -- the statements of a subject
  own_gives : (version : MappingVersion) (subject : Term) (all : List Statement) → In t (statements_triples version subject all) → OwnGives version subject all t
  own_gives version subject all h =
      let found = flat_map_in (judged_triples version subject all) t all h in
      one found.0 found.1 ((statement_rules version subject found.0 (is_best all found.0) t).0 found.2)

  own_given : (version : MappingVersion) (subject : Term) (all : List Statement) → OwnGives version subject all t → In t (statements_triples version subject all)
  own_given version subject all (one s among gives) =
      in_flat_map (judged_triples version subject all) t s all among ((statement_rules version subject s (is_best all s) t).1 gives)

module _ (version : MappingVersion) (x : EntityId) (rev : ℕ) (l : Lexeme) (t : Triple) where
  by_entry : In t (entry_triples x l) → EntryGives x l t
  by_entry (inl is) = lexical_entry is
  by_entry (inr (inl is)) = lexeme is
  by_entry (inr (inr (inl is))) = language is
  by_entry (inr (inr (inr (inl is)))) = category is
  by_entry (inr (inr (inr (inr none)))) = absurd none

  by_lemma : In t (lemma_triples x l) → LexemeGives version x rev l t
  by_lemma h =
      let found = flat_map_in (text_triples Say.Lemma (entity_term x)) t l.lemmas h in
      lemma found.0 found.1 (text_gives t Say.Lemma (entity_term x) found.0 found.2)

  by_dataset : In t (page_triples x) → PageGives x rev l t
  by_dataset (inl is) = dataset is
  by_dataset (inr (inl is)) = dataset_about is
  by_dataset (inr (inr (inl is))) = license is
  by_dataset (inr (inr (inr (inl is)))) = format is
  by_dataset (inr (inr (inr (inr none)))) = absurd none

  by_number : In t (number_triples (dataset_term x) rev l.statements) → PageGives x rev l t
  by_number (inl is) = revision is
  by_number (inr (inl is)) = statement_count is
  by_number (inr (inr (inl is))) = identifier_count is
  by_number (inr (inr (inr none))) = absurd none

  by_change : (o : Option (List ℕ)) → l.modified ≡ o → In t (change_triples (dataset_term x) o) → PageGives x rev l t
  by_change None is h = absurd h
  by_change (Some time) is (inl said) = modified time is said
  by_change (Some time) is (inr none) = absurd none

  by_page : In t (lexeme_page_triples x rev l) → PageGives x rev l t
  by_page h =
      let numbers = number_triples (dataset_term x) rev l.statements in
      elim (in_either t (page_triples x ++ numbers) (change_triples (dataset_term x) l.modified) h) [
        | inl front ↦ elim (in_either t (page_triples x) numbers front) [
          | inl part ↦ by_dataset part
          | inr part ↦ by_number part
        ]
        | inr part ↦ by_change l.modified refl part
      ]

  by_spoken : In t (spoken_triples x rev l) → LexemeGives version x rev l t
  by_spoken h =
      elim (in_either t (entry_triples x l ++ lemma_triples x l) (lexeme_page_triples x rev l) h) [
        | inl front ↦ elim (in_either t (entry_triples x l) (lemma_triples x l) front) [
          | inl part ↦ entry (by_entry part)
          | inr part ↦ by_lemma part
        ]
        | inr part ↦ page (by_page part)
      ]

  by_form : In t (flat_map (form_triples (entity_term x)) l.forms) → LexemeGives version x rev l t
  by_form h = let found = flat_map_in (form_triples (entity_term x)) t l.forms h in form found.0 found.1 (form_gives t (entity_term x) found.0 found.2)

  by_sense : In t (flat_map (sense_triples (entity_term x)) l.senses) → LexemeGives version x rev l t
  by_sense h = let found = flat_map_in (sense_triples (entity_term x)) t l.senses h in sense found.0 found.1 (sense_gives t (entity_term x) found.0 found.2)

  by_part : In t (part_triples x l) → LexemeGives version x rev l t
  by_part h =
      elim (in_either t (flat_map (form_triples (entity_term x)) l.forms) (flat_map (sense_triples (entity_term x)) l.senses) h) [
        | inl part ↦ by_form part
        | inr part ↦ by_sense part
      ]

  by_form_statement : In t (flat_map (part_statements version) l.forms) → LexemeGives version x rev l t
  by_form_statement h =
      let found = flat_map_in (part_statements version) t l.forms h in
      form_statement found.0 found.1 (own_gives t version (part_term found.0.id) found.0.statements found.2)

  by_sense_statement : In t (flat_map (part_statements version) l.senses) → LexemeGives version x rev l t
  by_sense_statement h =
      let found = flat_map_in (part_statements version) t l.senses h in
      sense_statement found.0 found.1 (own_gives t version (part_term found.0.id) found.0.statements found.2)

  by_statement : In t (all_statements version x l) → LexemeGives version x rev l t
  by_statement h =
      let own = statements_triples version (entity_term x) l.statements in
      let forms = flat_map (part_statements version) l.forms in
      elim (in_either t (own ++ forms) (flat_map (part_statements version) l.senses) h) [
        | inl front ↦ elim (in_either t own forms front) [
          | inl part ↦ statement (own_gives t version (entity_term x) l.statements part)
          | inr part ↦ by_form_statement part
        ]
        | inr part ↦ by_sense_statement part
      ]

  -- a triple of the list is given
  lexeme_gives : In t (lexdump version x rev l) → LexemeGives version x rev l t
  unfolding lexdump
  lexeme_gives h =
      let spoken = spoken_triples x rev l in
      let parts = part_triples x l in
      elim (in_either t (spoken ++ parts) (all_statements version x l) h) [
        | inl front ↦ elim (in_either t spoken parts front) [
          | inl part ↦ by_spoken part
          | inr part ↦ by_part part
        ]
        | inr part ↦ by_statement part
      ]

  in_spoken : In t (spoken_triples x rev l) → In t (lexdump version x rev l)
  unfolding lexdump
  in_spoken h =
      let spoken = spoken_triples x rev l in
      let parts = part_triples x l in
      in_front t (spoken ++ parts) (all_statements version x l) (in_front t spoken parts h)

  in_parts : In t (part_triples x l) → In t (lexdump version x rev l)
  unfolding lexdump
  in_parts h =
      let spoken = spoken_triples x rev l in
      let parts = part_triples x l in
      in_front t (spoken ++ parts) (all_statements version x l) (in_back t spoken parts h)

  in_statements : In t (all_statements version x l) → In t (lexdump version x rev l)
  unfolding lexdump
  in_statements h = in_back t (spoken_triples x rev l ++ part_triples x l) (all_statements version x l) h

  in_entry : In t (entry_triples x l) → In t (lexdump version x rev l)
  in_entry h =
      in_spoken (in_front t (entry_triples x l ++ lemma_triples x l) (lexeme_page_triples x rev l) (in_front t (entry_triples x l) (lemma_triples x l) h))

  in_page : In t (lexeme_page_triples x rev l) → In t (lexdump version x rev l)
  in_page h = in_spoken (in_back t (entry_triples x l ++ lemma_triples x l) (lexeme_page_triples x rev l) h)

  in_dataset : In t (page_triples x) → In t (lexdump version x rev l)
  in_dataset h =
      let numbers = number_triples (dataset_term x) rev l.statements in
      in_page (in_front t (page_triples x ++ numbers) (change_triples (dataset_term x) l.modified) (in_front t (page_triples x) numbers h))

  in_numbers : In t (number_triples (dataset_term x) rev l.statements) → In t (lexdump version x rev l)
  in_numbers h =
      let numbers = number_triples (dataset_term x) rev l.statements in
      in_page (in_front t (page_triples x ++ numbers) (change_triples (dataset_term x) l.modified) (in_back t (page_triples x) numbers h))

  in_change : (time : List ℕ) → l.modified ≡ Some time → In t (change_triples (dataset_term x) (Some time)) → In t (lexdump version x rev l)
  in_change time is h =
      let numbers = number_triples (dataset_term x) rev l.statements in
      in_page (in_back t (page_triples x ++ numbers) (change_triples (dataset_term x) l.modified) (subst (λ o. In t (change_triples (dataset_term x) o)) (sym is) h))

  entry_given : EntryGives x l t → In t (lexdump version x rev l)
  entry_given (lexical_entry is) = in_entry (inl is)
  entry_given (lexeme is) = in_entry (inr (inl is))
  entry_given (language is) = in_entry (inr (inr (inl is)))
  entry_given (category is) = in_entry (inr (inr (inr (inl is))))

  page_given : PageGives x rev l t → In t (lexdump version x rev l)
  page_given (dataset is) = in_dataset (inl is)
  page_given (dataset_about is) = in_dataset (inr (inl is))
  page_given (license is) = in_dataset (inr (inr (inl is)))
  page_given (format is) = in_dataset (inr (inr (inr (inl is))))
  page_given (revision is) = in_numbers (inl is)
  page_given (statement_count is) = in_numbers (inr (inl is))
  page_given (identifier_count is) = in_numbers (inr (inr (inl is)))
  page_given (modified time found is) = in_change time found (inl is)

  -- and each triple that is given is in the list
  lexeme_given : LexemeGives version x rev l t → In t (lexdump version x rev l)
  lexeme_given (entry gives) = entry_given gives
  lexeme_given (lemma text among gives) =
      let there : In t (lemma_triples x l) = in_flat_map (text_triples Say.Lemma (entity_term x)) t text l.lemmas among (text_given t Say.Lemma (entity_term x) text gives) in
      in_spoken (in_front t (entry_triples x l ++ lemma_triples x l) (lexeme_page_triples x rev l) (in_back t (entry_triples x l) (lemma_triples x l) there))
  lexeme_given (page gives) = page_given gives
  lexeme_given (form f among gives) =
      let forms = flat_map (form_triples (entity_term x)) l.forms in
      let senses = flat_map (sense_triples (entity_term x)) l.senses in
      in_parts (in_front t forms senses (in_flat_map (form_triples (entity_term x)) t f l.forms among (form_given t (entity_term x) f gives)))
  lexeme_given (sense s among gives) =
      let forms = flat_map (form_triples (entity_term x)) l.forms in
      let senses = flat_map (sense_triples (entity_term x)) l.senses in
      in_parts (in_back t forms senses (in_flat_map (sense_triples (entity_term x)) t s l.senses among (sense_given t (entity_term x) s gives)))
  lexeme_given (statement gives) =
      let own = statements_triples version (entity_term x) l.statements in
      let forms = flat_map (part_statements version) l.forms in
      let senses = flat_map (part_statements version) l.senses in
      in_statements (in_front t (own ++ forms) senses (in_front t own forms (own_given t version (entity_term x) l.statements gives)))
  lexeme_given (form_statement f among gives) =
      let own = statements_triples version (entity_term x) l.statements in
      let forms = flat_map (part_statements version) l.forms in
      let senses = flat_map (part_statements version) l.senses in
      let there = in_flat_map (part_statements version) t f l.forms among (own_given t version (part_term f.id) f.statements gives) in
      in_statements (in_front t (own ++ forms) senses (in_back t own forms there))
  lexeme_given (sense_statement s among gives) =
      let own = statements_triples version (entity_term x) l.statements in
      let forms = flat_map (part_statements version) l.forms in
      let senses = flat_map (part_statements version) l.senses in
      in_statements (in_back t (own ++ forms) senses (in_flat_map (part_statements version) t s l.senses among (own_given t version (part_term s.id) s.statements gives)))

-- the list and the rules say the same
pub lexdump_rules : (version : MappingVersion) (x : EntityId) (rev : ℕ) (l : Lexeme) (t : Triple) → In t (lexdump version x rev l) ↔ LexemeGives version x rev l t
lexdump_rules version x rev l t = (lexeme_gives version x rev l t, lexeme_given version x rev l t)
