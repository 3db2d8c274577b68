-- Rule 4: texts with their languages.
use Rattle.std.specs.Prelude.{◌≡◌, ℕ, List, Some, codes}
use Rattle.json_spell.specs.Tree.{Tree}
use Rattle.entity_model.specs.declared.value.Tagged.{Tagged}
use Rattle.entity_json.specs.Leaves.{list_of, text_at}
use Rattle.entity_json.specs.Joined.{One, InList, InMap}

-- an object with the text `language` and a text under the name
pub record IsTagged (name : List ℕ) (t : Tree) (x : Tagged) : Type 0 where
  pub language : text_at (codes "language") t ≡ Some x.language
  pub text : text_at name t ≡ Some x.text

-- labels, and likewise descriptions: a map to tagged texts, whose keys are passed over
abbrev pub AreLabels : List ℕ → Tree → List Tagged → Type 0
AreLabels name t xs = InMap (One (λ member x. IsTagged (codes "value") member.1 x)) name t xs

-- aliases: a map to lists of tagged texts, whose keys are passed over
abbrev pub AreAliases : Tree → List Tagged → Type 0
AreAliases t xs =
    InMap (λ member ys. InList (λ value x. IsTagged (codes "value") value.1 x) (list_of member.1) ys) (codes "aliases") t xs
