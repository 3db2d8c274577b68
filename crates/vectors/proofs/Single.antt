-- The set of one triple has no other.
use Rattle.std.proofs.Common.{◌≡◌, true, List, [], ◌∷◌, inl, inr, sym, ap, ◌∙◌, subst}
use Rattle.sorted_sets.specs.Rising.{In, has}
use Rattle.sorted_sets.proofs.Members.{member-has}
use Rattle.rdf_term.specs.declared.triple.Triple.{Triple}
use Rattle.rdf_term.specs.Order.{triple_cmp}
use Rattle.rdf_term.proofs.Texts.{triple_cmp-IsAntisymmetric}

-- a member of a list of one is that one
alone : (t x : Triple) → In t (x ∷ []) → t ≡ x
alone t x (inl same) = same
alone t x (inr none) = absurd none

-- what holds of the one triple holds of each
pub of_each : (P : Triple → Type 0) (x : Triple) (ts : List Triple) → ts ≡ x ∷ [] → P x → (t : Triple) → has triple_cmp t ts ≡ true → P t
of_each P x ts is p t h = subst P (sym (alone t x (member-has triple_cmp-IsAntisymmetric t (x ∷ []) (ap (has triple_cmp t) (sym is) ∙ h)))) p
