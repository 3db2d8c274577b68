-- Texts in languages: how they are read agrees with the rule.
use Rattle.std.proofs.Common.{◌≡◌, ℕ, List, Some, refl, ap, ◌∙◌}
use Rattle.std.specs.Prelude.{codes}
use Rattle.json_spell.specs.Tree.{Tree}
use Rattle.json_spell.proofs.Opened.{some_is, bind_some}
use Rattle.entity_model.specs.declared.value.Tagged.{Tagged}
use Rattle.entity_json.specs.Leaves.{text_at, list_of}
use Rattle.entity_json.specs.Joined.{One, InList}
use Rattle.entity_json.specs.Tagged.{IsTagged, AreLabels, AreAliases}
use Rattle.entity_json.specs.Reading.Terms.{tagged_under, label_step, aliases_step, labels_at, aliases_at}
use Rattle.entity_json.proofs.Agree.{Agree, Walks, put_walks, list-sound, list-complete, map-sound, map-complete}

pub tagged-sound : (name : List ℕ) (t : Tree) (x : Tagged) → tagged_under name t ≡ Some x → IsTagged name t x
unfolding tagged_under
tagged-sound name t x e =
    let language = bind_some (text_at (codes "language") t) _ e in
    let text = bind_some (text_at name t) _ language.1.1 in
    let is = some_is text.1.1 in
    record { language = language.1.0 ∙ ap (λ (r : Tagged). Some r.language) is; text = text.1.0 ∙ ap (λ (r : Tagged). Some r.text) is }

pub tagged-complete : (name : List ℕ) (t : Tree) (x : Tagged) → IsTagged name t x → tagged_under name t ≡ Some x
unfolding tagged_under
tagged-complete name t x h = rw (h.language, h.text) refl

pub label_walks : Walks label_step (One (λ member x. IsTagged (codes "value") member.1 x))
label_walks =
    put_walks (λ member. tagged_under (codes "value") member.1) (λ member x. IsTagged (codes "value") member.1 x)
    (record { sound = λ m x. tagged-sound (codes "value") m.1 x; complete = λ m x. tagged-complete (codes "value") m.1 x })

pub labels-sound : (name : List ℕ) (t : Tree) (xs : List Tagged) → labels_at name t ≡ Some xs → AreLabels name t xs
unfolding labels_at
labels-sound name t xs e = map-sound label_step (One (λ member x. IsTagged (codes "value") member.1 x)) label_walks name t xs e

pub labels-complete : (name : List ℕ) (t : Tree) (xs : List Tagged) → AreLabels name t xs → labels_at name t ≡ Some xs
unfolding labels_at
labels-complete name t xs h = map-complete label_step (One (λ member x. IsTagged (codes "value") member.1 x)) label_walks name t xs h

alias_agrees : Agree {X = ℕ × Tree} (λ item. tagged_under (codes "value") item.1) (λ item x. IsTagged (codes "value") item.1 x)
alias_agrees = record { sound = λ i x. tagged-sound (codes "value") i.1 x; complete = λ i x. tagged-complete (codes "value") i.1 x }

abbrev pub AreAliasesUnder : List ℕ × Tree → List Tagged → Type 0
AreAliasesUnder member ys = InList (λ value x. IsTagged (codes "value") value.1 x) (list_of member.1) ys

pub aliases_walk : Walks aliases_step AreAliasesUnder
unfolding aliases_step
aliases_walk = record {
  sound = λ m out new e. list-sound (λ item. tagged_under (codes "value") item.1) (λ item x. IsTagged (codes "value") item.1 x) alias_agrees (list_of m.1) out new e;
  complete = λ m out more h. list-complete (λ item. tagged_under (codes "value") item.1) (λ item x. IsTagged (codes "value") item.1 x) alias_agrees (list_of m.1) out more h;
}

pub aliases-sound : (t : Tree) (xs : List Tagged) → aliases_at (codes "aliases") t ≡ Some xs → AreAliases t xs
unfolding aliases_at
aliases-sound t xs e = map-sound aliases_step AreAliasesUnder aliases_walk (codes "aliases") t xs e

pub aliases-complete : (t : Tree) (xs : List Tagged) → AreAliases t xs → aliases_at (codes "aliases") t ≡ Some xs
unfolding aliases_at
aliases-complete t xs h = map-complete aliases_step AreAliasesUnder aliases_walk (codes "aliases") t xs h
