-- The leaves of pages: ids, texts that may be missing, names.
use Rattle.std.proofs.Common.{◌≡◌, ◌≢◌, ℕ, true, false, List, Option, Some, None, option_map, refl, sym, ap, ◌∙◌}
use Rattle.std.specs.Str.{bytes_eq}
use Rattle.std.proofs.lemmas.Bool.{false_from_ne_true}
use Rattle.std.proofs.lemmas.Slice.Eq.{bytes_eq-Decides}
use Rattle.json_spell.specs.Tree.{Tree, member_of}
use Rattle.json_spell.proofs.Opened.{some_is, bind_some, map_some}
use Rattle.entity_model.specs.declared.id.IdKind.{IdKind}
use Rattle.entity_model.specs.declared.id.IdKind.TheVariants.{P, Q, L}
use Rattle.entity_model.specs.declared.id.EntityId.{EntityId}
use Rattle.entity_model.specs.EntityId.{IsId, id_text}
use Rattle.entity_model.specs.IdOf.{id_of}
use Rattle.entity_model.proofs.IdReading.{id_of-sound, id_of-text}
use Rattle.entity_json.specs.Leaves.{◌>>=◌, text_of, text_at, id_at, optional, optional_text_at, of_same_kind, id_of_kind}
use Rattle.entity_json.specs.Members.{HasId, HasOptionalText}

-- texts that are found to be equal are
pub same-from_test : (a b : List ℕ) → bytes_eq a b ≡ true → a ≡ b
same-from_test a b e = (bytes_eq-Decides a b).0 e

pub test-from_same : (a b : List ℕ) → a ≡ b → bytes_eq a b ≡ true
test-from_same a b e = (bytes_eq-Decides a b).1 e

pub differ-from_test : (a b : List ℕ) → bytes_eq a b ≡ false → a ≢ b
differ-from_test a b e same = let yes = test-from_same a b same in absurd cc

pub test-from_differ : (a b : List ℕ) → a ≢ b → bytes_eq a b ≡ false
test-from_differ a b differ = false_from_ne_true (bytes_eq a b) (λ e. differ (same-from_test a b e))

-- the text of an id
pub id_at-sound : (name : List ℕ) (t : Tree) (x : EntityId) → id_at name t ≡ Some x → HasId name t x
id_at-sound name t x e =
    let found = bind_some (text_at name t) id_of e in
    let id = id_of-sound found.0 x found.1.1 in
    record { is_id = id.0; text = found.1.0 ∙ ap Some (sym id.1) }

pub id_at-complete : (name : List ℕ) (t : Tree) (x : EntityId) → HasId name t x → id_at name t ≡ Some x
id_at-complete name t x h = ap (λ o. o >>= id_of) h.text ∙ id_of-text x h.is_id

of_same_kind-sound : (k l : IdKind) (x y : EntityId) → of_same_kind k l x ≡ Some y → (l ≡ k) × (x ≡ y)
of_same_kind-sound P P x y e = (refl, some_is e)
of_same_kind-sound P Q x y e = absurd cc
of_same_kind-sound P L x y e = absurd cc
of_same_kind-sound Q P x y e = absurd cc
of_same_kind-sound Q Q x y e = (refl, some_is e)
of_same_kind-sound Q L x y e = absurd cc
of_same_kind-sound L P x y e = absurd cc
of_same_kind-sound L Q x y e = absurd cc
of_same_kind-sound L L x y e = (refl, some_is e)

of_same_kind-complete : (k : IdKind) (x : EntityId) → of_same_kind k k x ≡ Some x
of_same_kind-complete P x = refl
of_same_kind-complete Q x = refl
of_same_kind-complete L x = refl

-- the text of an id of a kind
pub record IsIdOf (kind : IdKind) (text : List ℕ) (x : EntityId) : Type 0 where
  pub is_id : IsId x
  pub letter : x.kind ≡ kind
  pub is : text ≡ id_text x

pub id_of_kind-sound : (kind : IdKind) (text : List ℕ) (x : EntityId) → id_of_kind kind text ≡ Some x → IsIdOf kind text x
id_of_kind-sound kind text x e =
    let found = bind_some (id_of text) (λ id. of_same_kind kind id.kind id) e in
    let id = id_of-sound text found.0 found.1.0 in
    let keeps = of_same_kind-sound kind found.0.kind found.0 x found.1.1 in
    rw (← keeps.1) (record { is_id = id.0; letter = keeps.0; is = sym id.1 })

pub id_of_kind-complete : (kind : IdKind) (text : List ℕ) (x : EntityId) → IsIdOf kind text x → id_of_kind kind text ≡ Some x
id_of_kind-complete kind text x h =
    ap (id_of_kind kind) h.is ∙ ap (λ o. o >>= λ id. of_same_kind kind id.kind id) (id_of-text x h.is_id)
    ∙ ap (λ k. of_same_kind k x.kind x) (sym h.letter) ∙ of_same_kind-complete x.kind x

-- a text that may be missing
optional_text-sound : (name : List ℕ) (t : Tree) (m : Option Tree) → member_of name t ≡ m → (o : Option (List ℕ)) → optional text_of m ≡ Some o → HasOptionalText name t o
optional_text-sound name t None is None e = is
optional_text-sound name t None is (Some s) e = let no = some_is e in absurd cc
optional_text-sound name t (Some u) is None e = let found = map_some Some (text_of u) e in let no = found.1.1 in absurd cc
optional_text-sound name t (Some u) is (Some s) e =
    let found = map_some Some (text_of u) e in
    ap (λ o. o >>= text_of) is ∙ found.1.0 ∙ found.1.1

pub optional_text_at-sound : (name : List ℕ) (t : Tree) (o : Option (List ℕ)) → optional_text_at name t ≡ Some o → HasOptionalText name t o
optional_text_at-sound name t o e = optional_text-sound name t (member_of name t) refl o e

pub optional_text_at-complete : (name : List ℕ) (t : Tree) (o : Option (List ℕ)) → HasOptionalText name t o → optional_text_at name t ≡ Some o
optional_text_at-complete name t None h = ap (optional text_of) h
optional_text_at-complete name t (Some s) h =
    let found = bind_some (member_of name t) text_of h in
    ap (optional text_of) found.1.0 ∙ ap (option_map Some) found.1.1
