-- Lexemes, forms and senses: how they are read agrees with the rule.
use Rattle.std.proofs.Common.{◌≡◌, ℕ, List, ◌++◌, Some, refl, sym, ap, ◌∙◌}
use Rattle.std.specs.Prelude.{codes}
use Rattle.json_spell.specs.Tree.{Tree, member_of}
use Rattle.json_spell.proofs.Opened.{some_is, bind_some, guarded}
use Rattle.entity_model.specs.declared.id.EntityId.{EntityId}
use Rattle.entity_model.specs.declared.id.IdKind.TheVariants.{Q, L}
use Rattle.entity_model.specs.declared.lexeme.Lexeme.{Lexeme}
use Rattle.entity_model.specs.declared.lexeme.Part.{Part}
use Rattle.entity_model.specs.EntityId.{id_text}
use Rattle.entity_model.specs.Lexeme.{IsPartId, is_part_id}
use Rattle.entity_model.proofs.PartIds.{part_id-sound, part_id-complete}
use Rattle.entity_json.specs.declared.lexeme.PartKind.{PartKind}
use Rattle.entity_json.specs.declared.lexeme.PartKind.TheVariants.{Form, Sense}
use Rattle.entity_json.specs.Leaves.{text_at, id_of_kind_at, optional_text_at}
use Rattle.entity_json.specs.Lexemes.{AreParts, HasFeatures, IsLexeme, IsPart, list_name, mark_of, texts_name}
use Rattle.entity_json.specs.Reading.Lexemes.{features_by_kind, lexeme_of, own_part_id, part_id_at, part_of, parts_at}
use Rattle.entity_json.specs.Reading.Statements.{statements_at}
use Rattle.entity_json.specs.Reading.Terms.{labels_at}
use Rattle.entity_json.proofs.Agree.{Agree, optional_list-sound, optional_list-complete}
use Rattle.entity_json.proofs.AgreeItems.{has_item-sound, has_item-complete, id-sound, id-complete, item_ids-sound, item_ids-complete}
use Rattle.entity_json.proofs.AgreeLeaves.{optional_text_at-sound, optional_text_at-complete}
use Rattle.entity_json.proofs.AgreeStatements.{statements-sound, statements-complete}
use Rattle.entity_json.proofs.AgreeTagged.{labels-sound, labels-complete}

-- the id of a part
id_at-sound : (x : EntityId) (mark : List ℕ) (t : Tree) (id : List ℕ) → part_id_at (id_text x ++ mark) t ≡ Some id → (text_at (codes "id") t ≡ Some id) × IsPartId x mark id
unfolding part_id_at
id_at-sound x mark t id e =
    let text = bind_some (text_at (codes "id") t) (own_part_id (id_text x ++ mark)) e in
    let passes = guarded (is_part_id (id_text x ++ mark) text.0) text.1.1 in
    let is = some_is passes.1 in
    (text.1.0 ∙ ap Some is, part_id-sound x mark id (ap (is_part_id (id_text x ++ mark)) (sym is) ∙ passes.0))

id_at-complete : (x : EntityId) (mark : List ℕ) (t : Tree) (id : List ℕ) → text_at (codes "id") t ≡ Some id → IsPartId x mark id → part_id_at (id_text x ++ mark) t ≡ Some id
unfolding part_id_at
id_at-complete x mark t id text is = rw (text, part_id-complete x mark id is) refl

-- its features
features-sound : (kind : PartKind) (t : Tree) (xs : List EntityId) → features_by_kind kind t ≡ Some xs → HasFeatures kind t xs
features-sound Form t xs e = item_ids-sound (codes "grammaticalFeatures") t xs e
features-sound Sense t xs e = sym (some_is e)

features-complete : (kind : PartKind) (t : Tree) (xs : List EntityId) → HasFeatures kind t xs → features_by_kind kind t ≡ Some xs
features-complete Form t xs h = item_ids-complete (codes "grammaticalFeatures") t xs h
features-complete Sense t xs h = ap Some (sym h)

-- a part
part-sound : (x : EntityId) (kind : PartKind) (t : Tree) (p : Part) → part_of kind (id_text x ++ mark_of kind) t ≡ Some p → IsPart x kind t p
unfolding part_of
part-sound x kind t p e =
    let id = bind_some (part_id_at (id_text x ++ mark_of kind) t) _ e in
    let texts = bind_some (labels_at (texts_name kind) t) _ id.1.1 in
    let features = bind_some (features_by_kind kind t) _ texts.1.1 in
    let statements = bind_some (statements_at (codes "claims") t) _ features.1.1 in
    let is = some_is statements.1.1 in
    let own = id_at-sound x (mark_of kind) t p.id (id.1.0 ∙ ap (λ (r : Part). Some r.id) is) in
    record {
      id = own.0;
      is_id = own.1;
      texts = labels-sound (texts_name kind) t p.texts (texts.1.0 ∙ ap (λ (r : Part). Some r.texts) is);
      features = features-sound kind t p.features (features.1.0 ∙ ap (λ (r : Part). Some r.features) is);
      statements = statements-sound t p.statements (statements.1.0 ∙ ap (λ (r : Part). Some r.statements) is);
    }

part-complete : (x : EntityId) (kind : PartKind) (t : Tree) (p : Part) → IsPart x kind t p → part_of kind (id_text x ++ mark_of kind) t ≡ Some p
unfolding part_of
part-complete x kind t p h =
    let id = id_at-complete x (mark_of kind) t p.id h.id h.is_id in
    let texts = labels-complete (texts_name kind) t p.texts h.texts in
    let features = features-complete kind t p.features h.features in
    let statements = statements-complete t p.statements h.statements in
    rw (id, texts, features, statements) refl

part_agrees : (x : EntityId) (kind : PartKind) → Agree {X = ℕ × Tree} (λ item. part_of kind (id_text x ++ mark_of kind) item.1) (λ item p. IsPart x kind item.1 p)
part_agrees x kind = record { sound = λ i p. part-sound x kind i.1 p; complete = λ i p. part-complete x kind i.1 p }

parts-sound : (x : EntityId) (kind : PartKind) (t : Tree) (ps : List Part) → parts_at x kind t ≡ Some ps → AreParts x kind t ps
unfolding parts_at
parts-sound x kind t ps e =
    optional_list-sound (λ item. part_of kind (id_text x ++ mark_of kind) item.1) (λ item p. IsPart x kind item.1 p) (part_agrees x kind) (list_name kind) t (member_of (list_name kind) t) refl ps e

parts-complete : (x : EntityId) (kind : PartKind) (t : Tree) (ps : List Part) → AreParts x kind t ps → parts_at x kind t ≡ Some ps
unfolding parts_at
parts-complete x kind t ps h =
    optional_list-complete (λ item. part_of kind (id_text x ++ mark_of kind) item.1) (λ item p. IsPart x kind item.1 p) (part_agrees x kind) (list_name kind) t (member_of (list_name kind) t) refl ps h

-- a lexeme, where the type says so
pub lexeme-sound : (t : Tree) (x : Lexeme) → text_at (codes "type") t ≡ Some (codes "lexeme") → lexeme_of t ≡ Some x → IsLexeme t x
unfolding lexeme_of
lexeme-sound t x type e =
    let id = bind_some (id_of_kind_at L (codes "id") t) _ e in
    let modified = bind_some (optional_text_at (codes "modified") t) _ id.1.1 in
    let lemmas = bind_some (labels_at (codes "lemmas") t) _ modified.1.1 in
    let category = bind_some (id_of_kind_at Q (codes "lexicalCategory") t) _ lemmas.1.1 in
    let language = bind_some (id_of_kind_at Q (codes "language") t) _ category.1.1 in
    let statements = bind_some (statements_at (codes "claims") t) _ language.1.1 in
    let forms = bind_some (parts_at id.0 Form t) _ statements.1.1 in
    let senses = bind_some (parts_at id.0 Sense t) _ forms.1.1 in
    let is = some_is senses.1.1 in
    let same : id.0 ≡ x.id = ap (λ (r : Lexeme). r.id) is in
    let id_is = id-sound (codes "id") L t x.id (id.1.0 ∙ ap Some same) in
    record {
      type = type;
      id = id_is.0;
      letter = id_is.1;
      modified = optional_text_at-sound (codes "modified") t x.modified (modified.1.0 ∙ ap (λ (r : Lexeme). Some r.modified) is);
      lemmas = labels-sound (codes "lemmas") t x.lemmas (lemmas.1.0 ∙ ap (λ (r : Lexeme). Some r.lemmas) is);
      category = has_item-sound (codes "lexicalCategory") t x.category (category.1.0 ∙ ap (λ (r : Lexeme). Some r.category) is);
      language = has_item-sound (codes "language") t x.language (language.1.0 ∙ ap (λ (r : Lexeme). Some r.language) is);
      statements = statements-sound t x.statements (statements.1.0 ∙ ap (λ (r : Lexeme). Some r.statements) is);
      forms = parts-sound x.id Form t x.forms (ap (λ i. parts_at i Form t) (sym same) ∙ forms.1.0 ∙ ap (λ (r : Lexeme). Some r.forms) is);
      senses = parts-sound x.id Sense t x.senses (ap (λ i. parts_at i Sense t) (sym same) ∙ senses.1.0 ∙ ap (λ (r : Lexeme). Some r.senses) is);
    }

pub lexeme-complete : (t : Tree) (x : Lexeme) → IsLexeme t x → lexeme_of t ≡ Some x
unfolding lexeme_of
lexeme-complete t x h =
    let id : id_of_kind_at L (codes "id") t ≡ Some x.id = ap (λ k. id_of_kind_at k (codes "id") t) (sym h.letter) ∙ id-complete (codes "id") t x.id h.id in
    let modified = optional_text_at-complete (codes "modified") t x.modified h.modified in
    let lemmas = labels-complete (codes "lemmas") t x.lemmas h.lemmas in
    let category = has_item-complete (codes "lexicalCategory") t x.category h.category in
    let language = has_item-complete (codes "language") t x.language h.language in
    let statements = statements-complete t x.statements h.statements in
    let forms = parts-complete x.id Form t x.forms h.forms in
    let senses = parts-complete x.id Sense t x.senses h.senses in
    rw (id, modified, lemmas, category, language, statements, forms, senses) refl
