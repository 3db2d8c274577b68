-- Of events in rising order, those below a floor come first.
use Rattle.std.specs.Prelude.{◌≡◌, Bool, true, false, not, cond, ◌||◌, ◌<◌, ℤ, int_lt, Option, None, Some, IsSome, IfSome, is_some, List, [], ◌∷◌, length, slice_get, All, refl}
use Rattle.std.proofs.Common.{arith, ap, sym, ◌∙◌}
use Rattle.std.proofs.lemmas.Int.{ints}
use Rattle.std.proofs.lemmas.List.Elements.{All-head, All-tail}
use Rattle.std.specs.List.{list_any}
use Rattle.std.specs.Ordering.{is_gt, int_cmp}
use Rattle.std.specs.BTreeMap.Range.{IsLeBy, IsLtBy}
use Rattle.entity_model.specs.declared.event.Event.{Event}
use Rattle.entity_model.specs.Event.{event_cmp}
use Rattle.reorder_buffer.specs.Watermarks.{is_below}
use Rattle.reorder_buffer.specs.Buffered.{unforgotten}
use Rattle.reorder_buffer.proofs.Due.{first_not_after, not_after}

-- a floor that isn't above a time isn't above a later one
above_later : (f : Option ℤ) (s t : ℤ) → is_gt (int_cmp s t) ≡ false → is_below f s ≡ false → is_below f t ≡ false
above_later None s t le h = refl
above_later (Some f) s t le h = grind (arith, ints)

-- an event that isn't below the floor has none after it that is
above_after : (f : Option ℤ) (a b : Event) → is_gt (event_cmp a b) ≡ false → is_below f a.time ≡ false → is_below f b.time ≡ false
above_after f a b le h = above_later f a.time b.time (first_not_after _ _ (first_not_after _ _ (first_not_after _ _ le))) h

-- where no element passes a test, none of the list does
none_passes : {X : Type 0} (p : X → Bool) (xs : List X) → All (λ x. p x ≡ false) xs → list_any p xs ≡ false
none_passes p [] none = refl
none_passes p (x ∷ xs) none = rw (All-head (λ x. p x ≡ false) x xs none) (none_passes p xs (All-tail (λ x. p x ≡ false) x xs none))

-- an event is below the floor exactly where the first one is
pub first_below : (f : Option ℤ) (x : Event) (xs : List Event) → slice_get xs 0 ≡ Some x → All (IsLeBy event_cmp x) xs → is_below f x.time ≡ list_any (λ e. is_below f e.time) xs
first_below f x [] is after = cc
first_below f x (y ∷ ys) is after =
    let same : y ≡ x = cc in
    by (is_below f x.time) refl same
  where
    by : (b : Bool) → is_below f x.time ≡ b → y ≡ x → b ≡ (is_below f y.time || list_any (λ e. is_below f e.time) ys)
    by true is same = rw (same, is) refl
    by false is same = sym (none_passes (λ (e : Event). is_below f e.time) (y ∷ ys) (λ k d here. above_after f x _ (after k d here) is))

-- where no event is below the floor, none is forgotten
pub nothing_forgotten : (f : Option ℤ) (xs : List Event) → list_any (λ e. is_below f e.time) xs ≡ false → xs ≡ unforgotten f xs
nothing_forgotten f [] none = refl
nothing_forgotten f (x ∷ xs) none =
    elim (is_below f x.time) as (λ b. (b || list_any (λ e. is_below f e.time) xs) ≡ false → x ∷ xs ≡ cond (not b) (x ∷ unforgotten f xs) (unforgotten f xs)) [
      | true ↦ λ h. cc
      | false ↦ λ h. ap (λ ys. x ∷ ys) (nothing_forgotten f xs h)
    ] none

-- without the first of all events, where one is below the floor
pub first_forgotten : (f : Option ℤ) (first : Option Event) (old new : List Event) → (0 < length old → IsSome first) → IfSome first (λ x. old ≡ x ∷ new) → IfSome first (λ x. All (IsLtBy event_cmp x) new) → list_any (λ e. is_below f e.time) old ≡ true → unforgotten f new ≡ unforgotten f old
first_forgotten f None [] new some is after below = cc
first_forgotten f None (y ∷ ys) new some is after below = let first : is_some {T = Event} None ≡ true = some (omega arith) in cc
first_forgotten f (Some x) old new some is after below = rw is (by (is_below f x.time) refl (rw is at below))
  where
    by : (b : Bool) → is_below f x.time ≡ b → (is_below f x.time || list_any (λ e. is_below f e.time) new) ≡ true → unforgotten f new ≡ cond (not (is_below f x.time)) (x ∷ unforgotten f new) (unforgotten f new)
    by true here any = rw here refl
    by false here any =
        let none : list_any (λ e. is_below f e.time) new ≡ false = none_passes (λ (e : Event). is_below f e.time) new (λ k d at. above_after f x _ (not_after _ (after k d at)) here) in
        let found : (is_below f x.time || list_any (λ e. is_below f e.time) new) ≡ false = rw (here, none) refl in
        cc
