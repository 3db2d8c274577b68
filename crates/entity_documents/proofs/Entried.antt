-- Where no name comes twice, the entries of a map are its members.
use Rattle.std.proofs.Common.{◌≡◌, ℕ, Bool, true, false, ◌||◌, cond, List, [], ◌∷◌, inl, inr, refl, sym, ap, subst, ◌∙◌}
use Rattle.std.specs.Prelude.{◌≢◌}
use Rattle.std.specs.Str.{bytes_eq}
use Rattle.std.proofs.lemmas.Slice.Eq.{bytes_eq-Decides}
use Rattle.sorted_sets.specs.Rising.{In}
use Rattle.json_spell.specs.Tree.{Tree}
use Rattle.json_spell.specs.View.{pairs_of}
use Rattle.json_differing.specs.Differing.{AreApart}
use Rattle.sorted_sets.specs.Merging.{Merges}
use Rattle.sorted_sets.proofs.Merged.{first_in, second_in}
use Rattle.entity_json.specs.Maps.{entries, has_key}

has_member : (key : List ℕ) (ms : List (List ℕ × Tree)) → has_key key (pairs_of ms) ≡ true → (o : List ℕ × Tree) × In o ms × (o.0 ≡ key)
has_member key [] e = absurd cc
has_member key (m ∷ ms) e = at (bytes_eq m.0 key) refl e (has_member key ms)
  where
    at : (b : Bool) → bytes_eq m.0 key ≡ b → (b || has_key key (pairs_of ms)) ≡ true → (has_key key (pairs_of ms) ≡ true → (o : List ℕ × Tree) × In o ms × (o.0 ≡ key))
        → (o : List ℕ × Tree) × In o (m ∷ ms) × (o.0 ≡ key)
    at true is h more = (m, inl refl, (bytes_eq-Decides m.0 key).0 is)
    at false is h more = let found = more h in (found.0, inr found.1, found.2)

pub entries_all : (ms : List (List ℕ × Tree)) → AreApart ms → entries (pairs_of ms) ≡ ms
entries_all [] apart = refl
entries_all (m ∷ ms) apart = at (has_key m.0 (pairs_of ms)) refl (entries_all ms apart.1)
  where
    at : (b : Bool) → has_key m.0 (pairs_of ms) ≡ b → entries (pairs_of ms) ≡ ms → cond b (entries (pairs_of ms)) ((m.0, m.1) ∷ entries (pairs_of ms)) ≡ m ∷ ms
    at true is rest = let found = has_member m.0 ms is in absurd (apart.0 found.0 found.1 found.2)
    at false is rest = ap (λ q. m ∷ q) rest

-- of merged lists, the second has no name twice either
pub second_apart : (xs ys zs : List (List ℕ × Tree)) → Merges xs ys zs → AreApart zs → AreApart ys
second_apart xs ys [] h apart = subst AreApart (sym h.1) tt
second_apart xs ys (z ∷ zs) (inl h) apart = second_apart h.rest ys zs h.holds apart.1
second_apart xs ys (z ∷ zs) (inr h) apart =
    subst AreApart (sym h.is) ((λ o among. apart.0 o (second_in xs h.rest zs o h.holds among)), second_apart xs h.rest zs h.holds apart.1)

-- and no name of the first
pub other_names : (xs ys zs : List (List ℕ × Tree)) → Merges xs ys zs → AreApart zs → (a b : List ℕ × Tree) → In a xs → In b ys → b.0 ≢ a.0
other_names xs ys [] h apart a b in_first in_second = absurd (subst (λ (l : List (List ℕ × Tree)). In a l) h.0 in_first)
other_names xs ys (z ∷ zs) (inl h) apart a b in_first in_second = elim (subst (λ (l : List (List ℕ × Tree)). In a l) h.is in_first) [
  | inl same ↦ λ e. apart.0 b (second_in h.rest ys zs b h.holds in_second) (e ∙ ap (λ (p : List ℕ × Tree). p.0) same)
  | inr within ↦ other_names h.rest ys zs h.holds apart.1 a b within in_second
]
other_names xs ys (z ∷ zs) (inr h) apart a b in_first in_second = elim (subst (λ (l : List (List ℕ × Tree)). In b l) h.is in_second) [
  | inl same ↦ λ e. apart.0 a (first_in xs h.rest zs a h.holds in_first) (sym e ∙ ap (λ (p : List ℕ × Tree). p.0) same)
  | inr within ↦ other_names xs h.rest zs h.holds apart.1 a b in_first within
]
