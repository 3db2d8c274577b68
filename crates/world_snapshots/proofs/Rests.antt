-- Taking an event makes none due.
use Rattle.std.proofs.Common.{◌≡◌, ℕ, ℤ, Bool, true, false, cond, not, ◌&&◌, ◌||◌, List, [], ◌∷◌, Option, None, Some, refl, sym, ◌∙◌, ap, true≢false}
use Rattle.std.specs.{Ordering.eq_by_cmp, BTreeSet.insert_key, List.list_any}
use Rattle.std.specs.Prelude.{find}
use Rattle.sorted_sets.specs.Rising.{has, IsRising}
use Rattle.sorted_sets.proofs.{Rising.IsRising-insert_key, Bools.equal, Bools.or_false, Bools.or_true, Finding.list_any-insert_key}
use Rattle.entity_model.specs.{declared.event.Event.Event, Event.event_cmp, Event.event_cmp_same, Event.event_cmp_total}
use Rattle.reorder_buffer.specs.declared.taken.Taken.TheVariants.{New, Repeat, Late}
use Rattle.reorder_buffer.specs.Watermarks.{is_due, reached}
use Rattle.reorder_buffer.specs.Buffered.{Buffered, after_answer, after_taking, first_due}
use Rattle.replay_model.specs.{Explained.is_applied, ReplayState.ReplayState}
use Rattle.snapshot.specs.Waiting.{at_mark}
use Rattle.checkpoint.specs.Loading.{IsResting}

none_any : (p : Event → Bool) (xs : List Event) → find p xs ≡ None → list_any p xs ≡ false
none_any p [] none = refl
none_any p (x ∷ xs) none = by (p x) none (none_any p xs)
  where
    by : (t : Bool) → cond t (Some x) (find p xs) ≡ None → (find p xs ≡ None → list_any p xs ≡ false) → (t || list_any p xs) ≡ false
    by true none rest = cc
    by false none rest = rest none

any_none : (p : Event → Bool) (xs : List Event) → list_any p xs ≡ false → find p xs ≡ None
any_none p [] none = refl
any_none p (x ∷ xs) none = by (p x) none (any_none p xs)
  where
    by : (t : Bool) → (t || list_any p xs) ≡ false → (list_any p xs ≡ false → find p xs ≡ None) → cond t (Some x) (find p xs) ≡ None
    by true none rest = cc
    by false none rest = rest none

none_due : (b : Buffered) (e : Event) → b.closed ≡ false → first_due b ≡ None → first_due (after_taking b e) ≡ None
none_due b e open_still rests = by (has event_cmp e b.kept) (reached b.mark e.time) refl
  where
    by : (h r : Bool) → reached b.mark e.time ≡ r → first_due (after_answer (cond h Repeat (cond r Late New)) b e) ≡ None
    by true r is = rests
    by false true is = rests
    by false false is = any_none (is_due b.closed b.mark) (insert_key event_cmp b.waiting e) (list_any-insert_key event_cmp event_cmp_same (is_due b.closed b.mark) e b.waiting
        ∙ or_false (is_due b.closed b.mark e) (list_any (is_due b.closed b.mark) b.waiting) (ap (λ c. c || reached b.mark e.time) open_still ∙ is) (none_any (is_due b.closed b.mark) b.waiting rests))

open-taking : (b : Buffered) (e : Event) → (after_taking b e).closed ≡ b.closed
open-taking b e = by (has event_cmp e b.kept) (reached b.mark e.time)
  where
    by : (h r : Bool) → (after_answer (cond h Repeat (cond r Late New)) b e).closed ≡ b.closed
    by true r = refl
    by false true = refl
    by false false = refl

rises-taking : (b : Buffered) (e : Event) → IsRising event_cmp b.waiting → IsRising event_cmp (after_taking b e).waiting
rises-taking b e rises = by (has event_cmp e b.kept) (reached b.mark e.time)
  where
    by : (h r : Bool) → IsRising event_cmp (after_answer (cond h Repeat (cond r Late New)) b e).waiting
    by true r = rises
    by false true = rises
    by false false = IsRising-insert_key event_cmp_total e b.waiting rises

-- a buffer that rests still does
pub rests-taking : (b : Buffered) (e : Event) → IsResting b → IsResting (after_taking b e)
rests-taking b e rests = record {
  open_still = open-taking b e ∙ rests.open_still;
  rises = rises-taking b e rests.rises;
  none_due = none_due b e rests.open_still rests.none_due;
}

-- the mark stays
pub mark-taking : (b : Buffered) (e : Event) → (after_taking b e).mark ≡ b.mark
mark-taking b e = by (has event_cmp e b.kept) (reached b.mark e.time)
  where
    by : (h r : Bool) → (after_answer (cond h Repeat (cond r Late New)) b e).mark ≡ b.mark
    by true r = refl
    by false true = refl
    by false false = refl

-- an event that is among others, and passes, is one that passes
has_passes : (p : Event → Bool) (e : Event) (xs : List Event) → has event_cmp e xs ≡ true → p e ≡ true → list_any p xs ≡ true
has_passes p e [] there passes = cc
has_passes p e (x ∷ xs) there passes = by (eq_by_cmp event_cmp e x) refl there (λ later. has_passes p e xs later passes)
  where
    by : (t : Bool) → eq_by_cmp event_cmp e x ≡ t → (t || has event_cmp e xs) ≡ true → (has event_cmp e xs ≡ true → list_any p xs ≡ true) → (p x || list_any p xs) ≡ true
    by true tie there rest =
        let here : p x ≡ true = ap p (sym (event_cmp_same e x (equal _ tie))) ∙ passes in
        ap (λ b. b || list_any p xs) here
    by false other there rest = or_true (p x) (list_any p xs) (rest there)

-- in a buffer that rests, an event that the mark reached was applied
pub rests_applied : (w : ReplayState) (e : Event) → IsResting w.buffer → reached w.buffer.mark e.time ≡ true → is_applied w e ≡ true
rests_applied w e rests reach = by (has event_cmp e w.buffer.waiting) refl
  where
    due : is_due w.buffer.closed w.buffer.mark e ≡ true
    due = ap (λ c. c || reached w.buffer.mark e.time) rests.open_still ∙ reach

    by : (t : Bool) → has event_cmp e w.buffer.waiting ≡ t → (is_due w.buffer.closed w.buffer.mark e && not t) ≡ true
    by true waits =
        absurd (true≢false (sym (has_passes (is_due w.buffer.closed w.buffer.mark) e w.buffer.waiting waits due) ∙ none_any (is_due w.buffer.closed w.buffer.mark) w.buffer.waiting rests.none_due))
    by false gone = ap (λ d. d && true) due

-- a buffer that remembers nothing rests
pub rests-empty : (h : Option ℕ) (m : Option ℤ) → IsResting (at_mark h m [])
rests-empty h m = record { open_still = refl; rises = tt; none_due = refl }
