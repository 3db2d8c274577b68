-- The first element that passes a test, and what is gathered or read of the elements so far.
use Rattle.std.proofs.Common.{◌≡◌, ℕ, zero, suc, ◌+◌, Bool, true, false, not, cond, List, [], ◌∷◌, ◌++◌, Option, Some, None, take, slice_get, is_some, refl, sym, ◌∙◌, ap, true≢false, append-nil, append_assoc, arith}
use Rattle.std.specs.List.{flat_map, position_or_len}
use Rattle.graph_routes.specs.Reading.{read_each, with_first}

module _ {A : Type 0} (p : A → Bool) where
  past : (b : Bool) (n m : ℕ) → cond (not b) (1 + n) 0 ≡ suc m → (b ≡ false) × (n ≡ m)
  past true n m is = absurd (omega (arith, is))
  past false n m is = (refl, omega (arith, is))

  -- none of the first i elements passes, and the next does
  pub first_here : (xs : List A) (i : ℕ) (x : A) → slice_get xs i ≡ Some x → position_or_len p (take i xs) ≡ i → p x ≡ true → position_or_len p xs ≡ i
  first_here [] i x at none is = absurd (true≢false (sym (ap is_some at)))
  first_here (y ∷ ys) zero x at none is = let same : y ≡ x = cc in ap (λ b. cond (not b) (1 + position_or_len p ys) 0) (ap p same ∙ is)
  first_here (y ∷ ys) (suc i) x at none is =
      let before = past (p y) (position_or_len p (take i ys)) i none in
      ap (λ b. cond (not b) (1 + position_or_len p ys) 0) before.0 ∙ (let rest : position_or_len p ys ≡ i = first_here ys i x at before.1 is in omega (arith, rest))

  -- or it doesn't
  pub none_more : (xs : List A) (i : ℕ) (x : A) → slice_get xs i ≡ Some x → position_or_len p (take i xs) ≡ i → p x ≡ false → position_or_len p (take (i + 1) xs) ≡ i + 1
  none_more xs i x at none is = let next : i + 1 ≡ suc i = omega arith in ap (λ n. position_or_len p (take n xs)) next ∙ by xs i at none ∙ sym next
    where
      by : (xs : List A) (i : ℕ) → slice_get xs i ≡ Some x → position_or_len p (take i xs) ≡ i → position_or_len p (take (suc i) xs) ≡ suc i
      by [] i at none = absurd (true≢false (sym (ap is_some at)))
      by (y ∷ ys) zero at none = let same : y ≡ x = cc in ap (λ b. cond (not b) (1 + position_or_len p (take 0 ys)) 0) (ap p same ∙ is)
      by (y ∷ ys) (suc i) at none =
          let before = past (p y) (position_or_len p (take i ys)) i none in
          ap (λ b. cond (not b) (1 + position_or_len p (take (suc i) ys)) 0) before.0 ∙ (let rest : position_or_len p (take (suc i) ys) ≡ suc i = by ys i at before.1 in omega (arith, rest))

module _ {A B : Type 0} (f : A → List B) (x : A) where
  -- one more element
  pub gathered_more : (xs : List A) (i : ℕ) → slice_get xs i ≡ Some x → flat_map f (take (i + 1) xs) ≡ flat_map f (take i xs) ++ f x
  gathered_more xs i at = let next : i + 1 ≡ suc i = omega arith in ap (λ n. flat_map f (take n xs)) next ∙ by xs i at
    where
      by : (xs : List A) (i : ℕ) → slice_get xs i ≡ Some x → flat_map f (take (suc i) xs) ≡ flat_map f (take i xs) ++ f x
      by [] i at = absurd (true≢false (sym (ap is_some at)))
      by (y ∷ ys) zero at = let same : y ≡ x = cc in append-nil (f y) ∙ ap f same
      by (y ∷ ys) (suc i) at = ap (λ zs. f y ++ zs) (by ys i at) ∙ sym (append_assoc (f y) (flat_map f (take i ys)) (f x))

module _ {A B : Type 0} (read : A → Option B) where
  two : (first : Option B) (others : Option (List B)) (zs : List B) → with_first first others ≡ Some zs → (y : B) × (ys : List B) × (first ≡ Some y) × (others ≡ Some ys) × (zs ≡ y ∷ ys)
  two None others zs is = cc
  two (Some y) None zs is = cc
  two (Some y) (Some ys) zs is = (y, ys, refl, refl, cc)

  -- the next element is read
  pub each_more : (xs : List A) (i : ℕ) (x : A) (y : B) (ys : List B) → slice_get xs i ≡ Some x → read_each read (take i xs) ≡ Some ys → read x ≡ Some y → read_each read (take (i + 1) xs) ≡ Some (ys ++ y ∷ [])
  each_more xs i x y ys at before is = let next : i + 1 ≡ suc i = omega arith in ap (λ n. read_each read (take n xs)) next ∙ by xs i ys at before
    where
      by : (xs : List A) (i : ℕ) (ys : List B) → slice_get xs i ≡ Some x → read_each read (take i xs) ≡ Some ys → read_each read (take (suc i) xs) ≡ Some (ys ++ y ∷ [])
      by [] i ys at before = absurd (true≢false (sym (ap is_some at)))
      by (z ∷ zs) zero ys at before =
          let same : z ≡ x = cc in
          let none : [] ≡ ys = cc in
          ap (λ o. with_first o (Some [])) (ap read same ∙ is) ∙ ap (λ ws. Some (ws ++ y ∷ [])) none
      by (z ∷ zs) (suc i) ys at before =
          let parts = two (read z) (read_each read (take i zs)) ys before in
          ap (λ o. with_first o (read_each read (take (suc i) zs))) parts.2
          ∙ ap (with_first (Some parts.0)) (by zs i parts.1 at parts.3)
          ∙ ap (λ ws. Some (ws ++ y ∷ [])) (sym parts.4)

  -- one can't be read
  pub each_stops : (xs : List A) (i : ℕ) (x : A) (ys : List B) → slice_get xs i ≡ Some x → read_each read (take i xs) ≡ Some ys → read x ≡ None → read_each read xs ≡ None
  each_stops [] i x ys at before is = absurd (true≢false (sym (ap is_some at)))
  each_stops (z ∷ zs) zero x ys at before is = let same : z ≡ x = cc in ap (λ o. with_first o (read_each read zs)) (ap read same ∙ is)
  each_stops (z ∷ zs) (suc i) x ys at before is =
      let parts = two (read z) (read_each read (take i zs)) ys before in
      ap (with_first (read z)) (each_stops zs i x parts.1 at parts.3 is) ∙ ap (λ o. with_first o None) parts.2
