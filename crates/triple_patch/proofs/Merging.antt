-- A merge of two rising lists, as their differences see it.
use Rattle.std.proofs.Common.{◌≡◌, not, ◌||◌, cond, List, [], ◌∷◌, ◌++◌, length, Ordering, Less, Equal, Greater, is_eq, append_assoc, append-nil, arith, refl, sym, ◌∙◌, ap, subst}
use Rattle.std.specs.Cmp.{IsTotalOrder}
use Rattle.std.proofs.lemmas.Cmp.{tied_back}
use Rattle.sorted_sets.specs.Rising.{has, Above, IsRising, difference}
use Rattle.sorted_sets.proofs.Filtering.{IsRising-filter}
use Rattle.sorted_sets.proofs.Rising.{turned, Above-weaken, has-above}

-- where a merge stands: what it has put out, with the differences of what is left, is the whole differences
pub record Merging {K : Type 0} (R : K → K → Ordering) (old new left right removes adds : List K) : Type 0 where
  pub removed : difference R old new ≡ removes ++ difference R left right
  pub added : difference R new old ≡ adds ++ difference R right left
  pub left_rises : IsRising R left
  pub right_rises : IsRising R right

-- a difference of a rising list rises
pub IsRising-difference : {K : Type 0} (R : K → K → Ordering) (xs ys : List K) → IsRising R xs → IsRising R (difference R xs ys)
IsRising-difference R xs ys h = IsRising-filter R (λ x. not (has R x ys)) xs h

-- along two equations at once
subst2 : {A B : Type 0} (P : A → B → Type 0) {a c : A} {b d : B} → a ≡ c → b ≡ d → P a b → P c d
subst2 P {a} {c} {b} {d} p q h = subst (λ y. P c y) q (subst (λ x. P x b) p h)

module _ {K : Type 0} (R : K → K → Ordering) where
  pub merge_start : (old new : List K) → IsRising R old → IsRising R new → Merging R old new old new [] []
  merge_start old new old_rises new_rises = record { removed = refl; added = refl; left_rises = old_rises; right_rises = new_rises }

  -- the same merge, with its lists the other way round
  merge_turned : {old new left right removes adds : List K} → Merging R old new left right removes adds → Merging R new old right left adds removes
  merge_turned m = record { removed = m.added; added = m.removed; left_rises = m.right_rises; right_rises = m.left_rises }

  -- nothing is taken from the empty list, and the empty list takes nothing
  less_nothing : (xs : List K) → difference R xs [] ≡ xs
  less_nothing [] = refl
  less_nothing (x ∷ xs) = ap (λ ys. x ∷ ys) (less_nothing xs)

  -- where one list has ended, the other one is what is left of its difference
  pub merge_ends_right : {old new : List K} (left right removes adds : List K) → Merging R old new left right removes adds → length right ≡ 0 → (difference R old new ≡ removes ++ left) × (difference R new old ≡ adds)
  merge_ends_right left [] removes adds m short = (m.removed ∙ ap (λ xs. removes ++ xs) (less_nothing left), m.added ∙ append-nil adds)
  merge_ends_right left (x ∷ xs) removes adds m short = absurd (omega arith)

  pub merge_ends_left : {old new : List K} (left right removes adds : List K) → Merging R old new left right removes adds → length left ≡ 0 → (difference R old new ≡ removes) × (difference R new old ≡ adds ++ right)
  merge_ends_left left right removes adds m short = let ends = merge_ends_right right left adds removes (merge_turned m) short in (ends.1, ends.0)

module _ {K : Type 0} {R : K → K → Ordering} (o : IsTotalOrder R) where
  -- an element below all of a list takes nothing from it
  difference_below : (x : K) (xs zs : List K) → Above R x zs → difference R zs (x ∷ xs) ≡ difference R zs xs
  difference_below x xs [] h = refl
  difference_below x xs (z ∷ zs) h =
      ap (λ b. cond (not (b || has R z xs)) (z ∷ difference R zs (x ∷ xs)) (difference R zs (x ∷ xs))) (ap is_eq (turned o x z Less h.0))
      ∙ ap (λ ds. cond (not (has R z xs)) (z ∷ ds) ds) (difference_below x xs zs h.1)

  Above_tied : (x y : K) (zs : List K) → R x y ≡ Equal → Above R x zs → Above R y zs
  Above_tied x y [] e h = tt
  Above_tied x y (z ∷ zs) e h = (sym (o.congr x y z e) ∙ h.0, Above_tied x y zs e h.1)

  lower : {old new : List K} (x y : K) (xs ys : List K) (removes adds : List K) → R x y ≡ Less → Merging R old new (x ∷ xs) (y ∷ ys) removes adds → Merging R old new xs (y ∷ ys) (removes ++ x ∷ []) adds
  lower x y xs ys removes adds less m =
      let above : Above R x (y ∷ ys) = (less, Above-weaken o x y ys less m.right_rises.0) in
      let out : difference R (x ∷ xs) (y ∷ ys) ≡ x ∷ difference R xs (y ∷ ys) = ap (λ b. cond (not b) (x ∷ difference R xs (y ∷ ys)) (difference R xs (y ∷ ys))) (has-above R x (y ∷ ys) above) in
      record {
        removed = m.removed ∙ ap (λ zs. removes ++ zs) out ∙ sym (append_assoc removes (x ∷ []) (difference R xs (y ∷ ys)));
        added = m.added ∙ ap (λ zs. adds ++ zs) (difference_below x xs (y ∷ ys) above);
        left_rises = m.left_rises.1;
        right_rises = m.right_rises;
      }

  -- heads that tie are in neither difference
  tied_drop : (x y : K) (xs ys : List K) → R x y ≡ Equal → Above R x xs → difference R (x ∷ xs) (y ∷ ys) ≡ difference R xs ys
  tied_drop x y xs ys tie h =
      ap (λ b. cond (not (b || has R x ys)) (x ∷ difference R xs (y ∷ ys)) (difference R xs (y ∷ ys))) (ap is_eq tie)
      ∙ difference_below y ys xs (Above_tied x y xs tie h)

  tied : {old new : List K} (x y : K) (xs ys : List K) (removes adds : List K) → R x y ≡ Equal → Merging R old new (x ∷ xs) (y ∷ ys) removes adds → Merging R old new xs ys removes adds
  tied x y xs ys removes adds tie m = record {
    removed = m.removed ∙ ap (λ zs. removes ++ zs) (tied_drop x y xs ys tie m.left_rises.0);
    added = m.added ∙ ap (λ zs. adds ++ zs) (tied_drop y x ys xs (tied_back o x y tie) m.right_rises.0);
    left_rises = m.left_rises.1;
    right_rises = m.right_rises.1;
  }

  -- the first item of the one list goes out, where it is below that of the other
  pub merge_lower : {old new : List K} (x y : K) (left right xs ys removes adds : List K) → left ≡ x ∷ xs → right ≡ y ∷ ys → R x y ≡ Less → Merging R old new left right removes adds → Merging R old new xs right (removes ++ x ∷ []) adds
  merge_lower {old} {new} x y left right xs ys removes adds is_left is_right less m =
      subst (λ r. Merging R old new xs r (removes ++ x ∷ []) adds) (sym is_right)
      (lower x y xs ys removes adds less (subst2 (λ l r. Merging R old new l r removes adds) is_left is_right m))

  pub merge_higher : {old new : List K} (x y : K) (left right xs ys removes adds : List K) → left ≡ x ∷ xs → right ≡ y ∷ ys → R x y ≡ Greater → Merging R old new left right removes adds → Merging R old new left ys removes (adds ++ y ∷ [])
  merge_higher x y left right xs ys removes adds is_left is_right greater m =
      merge_turned R (merge_lower y x right left ys xs adds removes is_right is_left (turned o x y Greater greater) (merge_turned R m))

  -- first items that tie are left out
  pub merge_tied : {old new : List K} (x y : K) (left right xs ys removes adds : List K) → left ≡ x ∷ xs → right ≡ y ∷ ys → R x y ≡ Equal → Merging R old new left right removes adds → Merging R old new xs ys removes adds
  merge_tied {old} {new} x y left right xs ys removes adds is_left is_right tie m =
      tied x y xs ys removes adds tie (subst2 (λ l r. Merging R old new l r removes adds) is_left is_right m)
