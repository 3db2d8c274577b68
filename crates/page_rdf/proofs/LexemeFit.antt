-- What the page of a small lexeme says but for statements has fit and short terms.
use Rattle.std.proofs.Common.{◌≡◌, ℕ, ◌≤◌, lit≤, true, List, [], ◌∷◌, ◌++◌, length, decimal, refl, subst, sym, arith}
use Rattle.std.specs.List.{All, flat_map}
use Rattle.std.proofs.lemmas.List.{length-append}
use Rattle.std.proofs.lemmas.List.Elements.{recursion_from_All}
use Rattle.std.proofs.lemmas.List.Folds.{list_all-append}
use Rattle.rdf_term.specs.declared.term.Term.{Term}
use Rattle.rdf_term.specs.Fit.{IsFitAndShort}
use Rattle.rdf_term.specs.Grammar.{is_iri, is_iri_char}
use Rattle.entity_model.specs.declared.id.EntityId.{EntityId}
use Rattle.entity_model.specs.declared.lexeme.Lexeme.{Lexeme}
use Rattle.entity_model.specs.declared.lexeme.Part.{Part}
use Rattle.entity_model.specs.declared.value.Tagged.{Tagged}
use Rattle.entity_model.specs.EntityId.{id_text}
use Rattle.entity_model.specs.Lexeme.{form_mark, IsPartId, IsSmallLexeme, IsSmallPart, sense_mark}
use Rattle.entity_model.specs.Value.{IsSmallTagged}
use Rattle.digits.proofs.Decimals.{decimal_short}
use Rattle.rdf_vocabulary.specs.declared.predicate.Predicate.{Predicate}
use Rattle.rdf_vocabulary.specs.declared.predicate.Predicate.TheVariants as Say
use Rattle.rdf_vocabulary.specs.declared.prefix.Prefix.TheVariants.{Wd}
use Rattle.rdf_vocabulary.specs.declared.resource.Resource.TheVariants as Classes
use Rattle.rdf_vocabulary.specs.Prefix.{entity_term}
use Rattle.rdf_vocabulary.proofs.Fit.{AreFit, about_fit, class_fit, join, join_all, prefixed_fit}
use Rattle.rdf_vocabulary.proofs.Ids.{decimal_iri, id_text_iri, id_text_short}
use Rattle.page_rdf.specs.Dataset.{change_triples, dataset_term, number_triples, page_triples}
use Rattle.page_rdf.proofs.Fit.{change_fit, entity_fit, numbers_fit, page_fit, text_fit}
use Rattle.page_rdf.specs.Entry.{entry_triples}
use Rattle.page_rdf.specs.Form.{feature_triples, form_head, form_triples}
use Rattle.page_rdf.specs.LexemePage.{lexeme_page_triples}
use Rattle.page_rdf.specs.Part.{part_term}
use Rattle.page_rdf.specs.Sense.{sense_head, sense_triples}
use Rattle.page_rdf.specs.LexemeTexts.{text_triples}

-- the node of a part
part_id_fit : (x : EntityId) (mark : List ℕ) (n : ℕ) → is_iri mark ≡ true → length mark ≤ 2 → IsFitAndShort (part_term (id_text x ++ mark ++ decimal n))
part_id_fit x mark n fit short =
    let front = id_text x ++ mark in
    let front_fit : is_iri front ≡ true = rw (list_all-append is_iri_char (id_text x) mark, id_text_iri x) fit in
    prefixed_fit Wd (front ++ decimal n)
    (rw (list_all-append is_iri_char front (decimal n), front_fit) (decimal_iri n))
    (omega (arith, length-append front (decimal n), length-append (id_text x) mark, id_text_short x, decimal_short n, short))

pub part_fit : (x : EntityId) (mark id : List ℕ) → is_iri mark ≡ true → length mark ≤ 2 → IsPartId x mark id → IsFitAndShort (part_term id)
part_fit x mark id fit short is =
    subst (λ t. IsFitAndShort (part_term t)) (sym is.is) (part_id_fit x mark is.number fit short)

labelled_fit : (word : Predicate) (node : Term) → IsFitAndShort node → (t : Tagged) → IsSmallTagged t → AreFit (text_triples word node t)
labelled_fit word node n t small = (about_fit node word _ n (text_fit t small), (about_fit node Say.Label _ n (text_fit t small), tt))

pub texts_fit : (word : Predicate) (node : Term) (texts : List Tagged) → IsFitAndShort node → All IsSmallTagged texts → AreFit (flat_map (text_triples word node) texts)
texts_fit word node texts n small = join_all IsSmallTagged (text_triples word node) texts (labelled_fit word node n) (recursion_from_All IsSmallTagged texts small)

pub entry_fit : (x : EntityId) (l : Lexeme) → AreFit (entry_triples x l)
entry_fit x l =
    let node = entity_term x in
    let n = entity_fit x in (
      class_fit node Classes.LexicalEntry n,
      (
        class_fit node Classes.Lexeme n,
        (about_fit node Say.Language _ n (entity_fit l.language), (about_fit node Say.LexicalCategory _ n (entity_fit l.category), tt)),
      ),
    )

pub lexeme_page_fit : (x : EntityId) (rev : ℕ) (l : Lexeme) → IsSmallLexeme l → AreFit (lexeme_page_triples x rev l)
lexeme_page_fit x rev l small =
    let numbers = number_triples (dataset_term x) rev l.statements in
    join (page_triples x ++ numbers) (change_triples (dataset_term x) l.modified)
    (join (page_triples x) numbers (page_fit x) (numbers_fit x rev l.statements))
    (change_fit x l.modified small.modified)

form_head_fit : (entity node : Term) → IsFitAndShort entity → IsFitAndShort node → AreFit (form_head entity node)
form_head_fit entity node e n = (about_fit entity Say.LexicalForm node e n, (class_fit node Classes.Form n, (class_fit node Classes.WikibaseForm n, tt)))

features_fit : (node : Term) (features : List EntityId) → IsFitAndShort node → AreFit (flat_map (feature_triples node) features)
features_fit node [] n = tt
features_fit node (item ∷ features) n = (about_fit node Say.GrammaticalFeature _ n (entity_fit item), features_fit node features n)

pub form_fit : (entity : Term) (x : EntityId) → IsFitAndShort entity → (f : Part) → IsSmallPart x form_mark f → AreFit (form_triples entity f)
unfolding form_mark
form_fit entity x e f small =
    let node = part_term f.id in
    let n = part_fit x form_mark f.id refl (lit≤ tt) small.id in
    let texts = flat_map (text_triples Say.Representation node) f.texts in
    join (form_head entity node ++ texts) (flat_map (feature_triples node) f.features)
    (join (form_head entity node) texts (form_head_fit entity node e n) (texts_fit Say.Representation node f.texts n small.texts))
    (features_fit node f.features n)

sense_head_fit : (entity node : Term) → IsFitAndShort entity → IsFitAndShort node → AreFit (sense_head entity node)
sense_head_fit entity node e n = (about_fit entity Say.Sense node e n, (class_fit node Classes.LexicalSense n, (class_fit node Classes.WikibaseSense n, tt)))

pub sense_fit : (entity : Term) (x : EntityId) → IsFitAndShort entity → (s : Part) → IsSmallPart x sense_mark s → AreFit (sense_triples entity s)
unfolding sense_mark
sense_fit entity x e s small =
    let node = part_term s.id in
    let n = part_fit x sense_mark s.id refl (lit≤ tt) small.id in
    join (sense_head entity node) (flat_map (text_triples Say.Definition node) s.texts)
    (sense_head_fit entity node e n) (texts_fit Say.Definition node s.texts n small.texts)
