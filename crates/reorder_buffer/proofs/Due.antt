-- Of events in rising order, the due ones come first.
use Rattle.std.specs.Prelude.{◌≡◌, Bool, true, false, ◌<◌, ℤ, Option, None, Some, IsSome, IfSome, is_some, List, [], ◌∷◌, length, slice_get, find, All, refl}
use Rattle.std.proofs.Common.{arith, sym}
use Rattle.std.proofs.lemmas.Int.{ints}
use Rattle.std.proofs.lemmas.List.Elements.{All-head, All-tail}
use Rattle.std.specs.declared.cmp.Ordering.{Ordering}
use Rattle.std.specs.declared.cmp.Ordering.TheVariants.{Less, Equal, Greater}
use Rattle.std.specs.Ordering.{ordering_then, is_gt, int_cmp}
use Rattle.std.specs.BTreeMap.Range.{IsLeBy, IsLtBy}
use Rattle.std.specs.Set.{remove_key}
use Rattle.entity_model.specs.declared.event.Event.{Event}
use Rattle.entity_model.specs.Event.{event_cmp}
use Rattle.reorder_buffer.specs.Watermarks.{reached, is_due}

-- where a chain of orders doesn't say that the second is first, neither does the first order
pub first_not_after : (a b : Ordering) → is_gt (ordering_then a b) ≡ false → is_gt a ≡ false
first_not_after Less b h = refl
first_not_after Equal b h = refl
first_not_after Greater b h = h

-- a mark that didn't reach a time didn't reach a later one
reached_before : (mark : Option ℤ) (s t : ℤ) → is_gt (int_cmp s t) ≡ false → reached mark s ≡ false → reached mark t ≡ false
reached_before None s t le h = refl
reached_before (Some m) s t le h = grind (arith, ints)

-- an event that isn't due has none that is due after it
due_before : (closed : Bool) (mark : Option ℤ) (a b : Event) → is_gt (event_cmp a b) ≡ false → is_due closed mark a ≡ false → is_due closed mark b ≡ false
due_before true mark a b le h = h
due_before false mark a b le h =
    reached_before mark a.time b.time (first_not_after _ _ (first_not_after _ _ (first_not_after _ _ le))) h

-- where no element passes a test, none is found
find_none : {X : Type 0} (p : X → Bool) (xs : List X) → All (λ x. p x ≡ false) xs → find p xs ≡ None
find_none p [] none = refl
find_none p (x ∷ xs) none = rw (All-head (λ x. p x ≡ false) x xs none) (find_none p xs (All-tail (λ x. p x ≡ false) x xs none))

-- the first element is found where it passes the test
pub find_first : {X : Type 0} (p : X → Bool) (xs : List X) (x : X) → slice_get xs 0 ≡ Some x → p x ≡ true → Some x ≡ find p xs
find_first p [] x is passes = cc
find_first p (y ∷ ys) x is passes = let same : y ≡ x = cc in rw (same, passes) refl

-- where the first event isn't due, none is
pub none_due : (closed : Bool) (mark : Option ℤ) (x : Event) (xs : List Event) → All (IsLeBy event_cmp x) xs → is_due closed mark x ≡ false → None ≡ find (is_due closed mark) xs
none_due closed mark x xs after waits =
    sym (find_none (is_due closed mark) xs (λ k d here. due_before closed mark x _ (after k d here) waits))

-- an event that is before another isn't after it
pub not_after : (o : Ordering) → o ≡ Less → is_gt o ≡ false
not_after o is = rw is refl

-- without the first event that is due, where it is the first of all
without_due : (closed : Bool) (mark : Option ℤ) (x : Event) (xs : List Event) (due : Bool) → is_due closed mark x ≡ due → All (IsLtBy event_cmp x) xs → IsSome (find (is_due closed mark) (x ∷ xs)) → xs ≡ remove_key (is_due closed mark) (x ∷ xs)
without_due closed mark x xs true is after some = rw is refl
without_due closed mark x xs false is after some =
    let none : find (is_due closed mark) xs ≡ None = find_none (is_due closed mark) xs (λ k d here. due_before closed mark x _ (not_after _ (after k d here)) is) in
    let found : is_some (find (is_due closed mark) (x ∷ xs)) ≡ false = rw (is, none) refl in
    cc

-- without the first of all events, where one is due
pub dropped : (closed : Bool) (mark : Option ℤ) (first : Option Event) (old new : List Event) → (0 < length old → IsSome first) → IfSome first (λ x. old ≡ x ∷ new) → IfSome first (λ x. All (IsLtBy event_cmp x) new) → IsSome (find (is_due closed mark) old) → new ≡ remove_key (is_due closed mark) old
dropped closed mark None [] new some is after due = cc
dropped closed mark None (y ∷ ys) new some is after due = let first : is_some {T = Event} None ≡ true = some (omega arith) in cc
dropped closed mark (Some x) old new some is after due =
    rw is (without_due closed mark x new (is_due closed mark x) refl after (rw is at due))
