-- What lists and maps of one value, or of none, give.
use Rattle.std.proofs.Common.{◌≡◌, ◌∙◌, sym, ap, subst, ℕ, List, [], ◌∷◌, ◌++◌, append-nil, Some}
use Rattle.json_spell.specs.Tree.{Tree}
use Rattle.json_spell.proofs.Opened.{some_is}
use Rattle.entity_json.specs.{Maps.map_at, Joined.InList, Joined.InMap, Joined.Joined, Joined.One, Joined.numbered}

module _ {A : Type 0} where
  -- what one value gives is all
  one_joined : {X : Type 0} (R : X → List A → Type 0) (x : X) (ys : List A) → Joined R (x ∷ []) ys → R x ys
  one_joined R x ys h = subst (R x) (sym (h.is ∙ ap (λ rest. h.front ++ rest) h.then_holds ∙ append-nil h.front)) h.holds

  -- a map without entries gives nothing
  pub none_in_map : (R : List ℕ × Tree → List A → Type 0) (name : List ℕ) (t : Tree) (ys : List A) → map_at name t ≡ Some [] → InMap R name t ys → ys ≡ []
  none_in_map R name t ys is h = subst (λ members. Joined R members ys) (sym (some_is (sym is ∙ h.is_map))) h.joined

  -- a map of one entry gives what the entry does
  pub one_in_map : (R : List ℕ × Tree → List A → Type 0) (name : List ℕ) (t : Tree) (m : List ℕ × Tree) (ys : List A) → map_at name t ≡ Some (m ∷ []) → InMap R name t ys → R m ys
  one_in_map R name t m ys is h = one_joined R m ys (subst (λ members. Joined R members ys) (sym (some_is (sym is ∙ h.is_map))) h.joined)

  -- one value gives one item
  pub one_in_list : (P : ℕ × Tree → A → Type 0) (t : Tree) (ys : List A) → InList P (Some (t ∷ [])) ys → One P (0, t) ys
  one_in_list P t ys h = one_joined (One P) (0, t) ys (subst (λ values. Joined (One P) (numbered 0 values) ys) (sym (some_is h.is_list)) h.joined)
