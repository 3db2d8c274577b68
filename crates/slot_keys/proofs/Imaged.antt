-- A map, pushed along a function of its keys.
use Rattle.std.proofs.Common.{◌≡◌, ◌≢◌, Bool, true, false, cond, ◌||◌, List, [], ◌∷◌, Some, None, Ordering, is_eq, refl, sym, ◌∙◌, ap, ⊎_elim, ◌⊎◌, inl, inr}
use Rattle.std.specs.Prelude.{map as mapped}
use Rattle.std.specs.Cmp.{IsTotalOrder}
use Rattle.std.specs.FinMap as map
use Rattle.std.specs.FinMap.{IsAntisymmetric}
use Rattle.std.specs.Ordering.{eq_by_cmp}
use Rattle.sorted_sets.specs.Rising.{has}
use Rattle.std.proofs.lemmas.Cmp.{tied_itself}
use Rattle.sorted_sets.proofs.Bools.{clash, equal, or_true}
use Rattle.sorted_sets.proofs.Rising.{has_itself}

module _ {K T X : Type 0} (R : K → K → Ordering) (S : T → T → Ordering) where
  abbrev pub pushed : (K → T) → List (K × X) → List (T × X)
  pushed m es = mapped (λ e. (m e.0, e.1)) es

  -- what a key of the list stands for is found where the key is
  pub find-pushed : IsTotalOrder R → (m : K → T) (k : K) (t : T) (es : List (K × X)) → ((x : K) → has R x (mapped (λ e. e.0) es) ≡ true → eq_by_cmp S t (m x) ≡ eq_by_cmp R k x) → map.find S t (pushed m es) ≡ map.find R k es
  find-pushed o m k t [] same = refl
  find-pushed o m k t (e ∷ es) same =
      ap (λ b. cond b (Some e.1) (map.find S t (pushed m es))) (same e.0 (has_itself o e.0 (mapped (λ e. e.0) es)))
      ∙ ap (λ w. cond (eq_by_cmp R k e.0) (Some e.1) w) (find-pushed o m k t es (λ x there. same x (or_true (eq_by_cmp R x e.0) _ there)))

  -- what no key stands for isn't found
  pub find-pushed_none : IsTotalOrder R → (m : K → T) (t : T) (es : List (K × X)) → ((x : K) → has R x (mapped (λ e. e.0) es) ≡ true → eq_by_cmp S t (m x) ≡ false) → map.find S t (pushed m es) ≡ None
  find-pushed_none o m t [] none = refl
  find-pushed_none o m t (e ∷ es) none =
      ap (λ b. cond b (Some e.1) (map.find S t (pushed m es))) (none e.0 (has_itself o e.0 (mapped (λ e. e.0) es)))
      ∙ find-pushed_none o m t es (λ x there. none x (or_true (eq_by_cmp R x e.0) _ there))

  pub pushed_same : IsTotalOrder R → (m n : K → T) (es : List (K × X)) → ((x : K) → has R x (mapped (λ e. e.0) es) ≡ true → m x ≡ n x) → pushed m es ≡ pushed n es
  pushed_same o m n [] same = refl
  pushed_same o m n (e ∷ es) same =
      ap (λ t. (t, e.1) ∷ pushed m es) (same e.0 (has_itself o e.0 (mapped (λ e. e.0) es)))
      ∙ ap (λ l. (n e.0, e.1) ∷ l) (pushed_same o m n es (λ x there. same x (or_true (eq_by_cmp R x e.0) _ there)))

  -- the keys stand for what stands there
  pub keys-pushed : (m : K → T) (es : List (K × X)) → mapped (λ e. e.0) (pushed m es) ≡ mapped m (mapped (λ e. e.0) es)
  keys-pushed m [] = refl
  keys-pushed m (e ∷ es) = ap (λ l. m e.0 ∷ l) (keys-pushed m es)

module _ {K T : Type 0} {R : K → K → Ordering} {S : T → T → Ordering} (o : IsTotalOrder R) (apart : IsAntisymmetric R) (s : IsTotalOrder S) (distinct : IsAntisymmetric S) where
  later : (m : K → T) (t : T) (x y : K) (xs : List K) (b : Bool) → eq_by_cmp S t (m x) ≡ false → ((z : K) → has R z xs ≡ true → m z ≢ t) → eq_by_cmp R y x ≡ b → (b || has R y xs) ≡ true → m y ≢ t
  later m t x y xs true e none same there is =
      let tie : eq_by_cmp S t (m x) ≡ true = ap (λ u. eq_by_cmp S t u) (ap m (sym (apart y x (equal _ same))) ∙ is) ∙ ap is_eq (tied_itself s t) in
      clash tie e
  later m t x y xs false e none same there is = none y there is

  -- some key of the list stands for it, or none does
  pub among : (m : K → T) (t : T) (xs : List K) → ((x : K) × (has R x xs ≡ true) × (m x ≡ t)) ⊎ ((x : K) → has R x xs ≡ true → m x ≢ t)
  among m t [] = inr (λ x there. cc)
  among m t (x ∷ xs) =
      elim (eq_by_cmp S t (m x)) as (λ b. eq_by_cmp S t (m x) ≡ b → ((y : K) × (has R y (x ∷ xs) ≡ true) × (m y ≡ t)) ⊎ ((y : K) → has R y (x ∷ xs) ≡ true → m y ≢ t)) [
        | true ↦ λ e. inl (x, has_itself o x xs, sym (distinct t (m x) (equal _ e)))
        | false ↦ λ e. ⊎_elim
            (λ some. inl (some.0, or_true (eq_by_cmp R some.0 x) _ some.1, some.2))
            (λ none. inr (λ y. later m t x y xs (eq_by_cmp R y x) e none refl))
            (among m t xs)
      ] refl
