-- What merged lists weigh, and that changes balance.
use Rattle.std.proofs.Common.{◌≡◌, ℕ, ◌+◌, List, [], ◌∷◌, ◌++◌, inl, inr, refl, sym, ap, ◌∙◌, arith}
use Rattle.std.specs.Prelude.{sum_by}
use Rattle.std.specs.List.{flat_map}
use Rattle.std.proofs.lemmas.List.Sums.{sum_by-append, sum_by-cons}
use Rattle.sorted_sets.specs.Rising.{In}
use Rattle.sorted_sets.specs.Merging.{Merges, Changes, Balance, IsWithin}

module _ {A : Type 0} where
  -- a sum over a merged list is that over its parts
  pub merged_sum : (f : A → ℕ) (xs ys zs : List A) → Merges xs ys zs → sum_by f zs ≡ sum_by f xs + sum_by f ys
  merged_sum f xs ys [] h = rw (h.0, h.1) refl
  merged_sum f xs ys (z ∷ zs) (inl h) =
      let rest = merged_sum f h.rest ys zs h.holds in
      let front = ap (sum_by f) h.is ∙ sum_by-cons f z h.rest in
      omega (arith, sum_by-cons f z zs, rest, front)
  merged_sum f xs ys (z ∷ zs) (inr h) =
      let rest = merged_sum f xs h.rest zs h.holds in
      let front = ap (sum_by f) h.is ∙ sum_by-cons f z h.rest in
      omega (arith, sum_by-cons f z zs, rest, front)

  -- sums of the same numbers
  pub same_sum : (f g : A → ℕ) (xs : List A) → ((x : A) → In x xs → f x ≡ g x) → sum_by f xs ≡ sum_by g xs
  same_sum f g [] same = refl
  same_sum f g (x ∷ xs) same =
      omega (arith, sum_by-cons f x xs, sum_by-cons g x xs, same x (inl refl), same_sum f g xs (λ y among. same y (inr among)))

-- what the lists weigh together that each element gives
pub weighed_each : {A B : Type 0} (weight : B → ℕ) (f : A → List B) (xs : List A) → sum_by weight (flat_map f xs) ≡ sum_by (λ x. sum_by weight (f x)) xs
weighed_each weight f [] = refl
weighed_each weight f (x ∷ xs) =
    sum_by-append weight (f x) (flat_map f xs) ∙ ap (λ n. sum_by weight (f x) + n) (weighed_each weight f xs)
    ∙ sym (sum_by-cons (λ y. sum_by weight (f y)) x xs)

-- so what each element gives balances where they do
pub balance-flat_map : {A B : Type 0} (f : A → List B) (xs ys us vs : List A) → Balance xs ys us vs → Balance (flat_map f xs) (flat_map f ys) (flat_map f us) (flat_map f vs)
balance-flat_map f xs ys us vs h =
    record {
      weighs = λ weight. omega (arith, weighed_each weight f xs, weighed_each weight f ys, weighed_each weight f us, weighed_each weight f vs, h.weighs (λ x. sum_by weight (f x)));
    }

pub changes_balance : {A : Type 0} (old new gone come : List A) → Changes old new gone come → Balance new gone old come
changes_balance old new gone come h =
    record { weighs = λ weight. omega (arith, merged_sum weight h.common gone old h.was, merged_sum weight h.common come new h.is) }

-- lists in a row balance where their parts do
pub balance-append : {A : Type 0} (xs ys us vs xs' ys' us' vs' : List A) → Balance xs ys us vs → Balance xs' ys' us' vs' → Balance (xs ++ xs') (ys ++ ys') (us ++ us') (vs ++ vs')
balance-append xs ys us vs xs' ys' us' vs' h k =
    record {
      weighs = λ weight. omega (arith, sum_by-append weight xs xs', sum_by-append weight ys ys', sum_by-append weight us us', sum_by-append weight vs vs', h.weighs weight, k.weighs weight);
    }

-- two lists and the same two
pub balance-swap : {A : Type 0} (xs ys us vs : List A) → vs ≡ xs → ys ≡ us → Balance xs ys us vs
balance-swap xs ys us vs new_is old_is = record { weighs = λ weight. omega (arith, ap (sum_by weight) new_is, ap (sum_by weight) old_is) }

-- one list within another
pub second-within : {A : Type 0} (xs ys zs : List A) → Merges xs ys zs → IsWithin ys zs
second-within xs ys zs h = record { weighs = λ weight. omega (arith, merged_sum weight xs ys zs h) }

pub within-flat_map : {A B : Type 0} (f : A → List B) (xs ys : List A) → IsWithin xs ys → IsWithin (flat_map f xs) (flat_map f ys)
within-flat_map f xs ys h = record { weighs = λ weight. omega (arith, weighed_each weight f xs, weighed_each weight f ys, h.weighs (λ x. sum_by weight (f x))) }

pub within-append : {A : Type 0} (xs ys us vs : List A) → IsWithin xs us → IsWithin ys vs → IsWithin (xs ++ ys) (us ++ vs)
within-append xs ys us vs h k = record { weighs = λ weight. omega (arith, sum_by-append weight xs ys, sum_by-append weight us vs, h.weighs weight, k.weighs weight) }

pub within-same : {A : Type 0} (xs ys : List A) → xs ≡ ys → IsWithin xs ys
within-same xs ys e = record { weighs = λ weight. omega (arith, ap (sum_by weight) e) }
