-- The deliveries of an item, one after the other.
use Rattle.std.proofs.Common.{◌≡◌, ◌∙◌, sym, ap, subst, ℕ, suc, ◌+◌, ◌<◌, ◌≤◌, List, [], ◌∷◌, ◌++◌, Option, None, append_assoc, add-one, drop-cons, length, get_or, take, drop}
use Rattle.std.proofs.{Math.Seq.take-suc, lemmas.List.take-append-drop, lemmas.List.take_all}
use Rattle.delivery.specs.declared.Delivery.{Delivery}
use Rattle.reorder_buffer.specs.declared.taken.Taken.{Taken}
use Rattle.replay_model.specs.ReplayState.{ReplayState, following}
use Rattle.drill_replay.specs.Drill.{item_deliveries, drill}
use Rattle.drill_replay.specs.declared.counts.DrillCounts.{DrillCounts}
use Rattle.drill_replay.specs.{Playing.Counted, Playing.HasFew, Playing.answer_of, Playing.with_answer, Summary.replies_of}
use Rattle.drill_replay.proofs.{Counting.counted-next, Counting.few-next, Drills.drill-next}

module _ (n : ℕ) (items : List Delivery) (i : ℕ) where
  -- the next of them
  pub one_more : (d : Delivery) → i < length items → d ≡ get_or items i d → (drill n ++ take i items) ++ d ∷ [] ≡ drill n ++ take (i + 1) items
  one_more d within is =
      append_assoc (drill n) (take i items) (d ∷ [])
      ∙ ap (λ l. drill n ++ l) (ap (λ x. take i items ++ x ∷ []) is ∙ sym (take-suc items i d within) ∙ sym (ap (λ k. take k items) (add-one i)))

  -- those that are left
  pub cut : (d : Delivery) → items ≡ item_deliveries (n + 1) → i < length items → d ≡ get_or items i d → drill (n + 1) ≡ (drill n ++ take i items) ++ d ∷ drop (suc i) items
  cut d are within is =
      drill-next n
      ∙ ap (λ l. drill n ++ l) (sym are ∙ sym (take-append-drop i items) ∙ ap (λ l. take i items ++ l) (drop-cons items i d within ∙ ap (λ x. x ∷ drop (suc i) items) (sym is)))
      ∙ sym (append_assoc (drill n) (take i items) (d ∷ drop (suc i) items))

  -- none is left
  pub whole : items ≡ item_deliveries (n + 1) → length items ≤ i → drill n ++ take i items ≡ drill (n + 1)
  whole are past = ap (λ l. drill n ++ l) (take_all i items past ∙ are) ∙ sym (drill-next n)

  -- the next is counted
  pub counted : (size : ℕ) (d : Delivery) (old : ReplayState) (answer : Option Taken) (c now : DrillCounts) → i < length items → d ≡ get_or items i d → old ≡ following None (replies_of size) (drill n ++ take i items)
      → answer ≡ answer_of old.buffer d → now ≡ with_answer answer c → Counted (drill n ++ take i items) c → Counted (drill n ++ take (i + 1) items) now
  counted size d old answer c now within is after answered new so_far =
      let ds : List Delivery = drill n ++ take i items in
      let next : Counted (ds ++ d ∷ []) (with_answer (answer_of (following None (replies_of size) ds).buffer d) c) = counted-next (replies_of size) ds d c so_far in
      let same : now ≡ with_answer (answer_of (following None (replies_of size) ds).buffer d) c =
      new ∙ ap (λ (a : Option Taken). with_answer a c) (answered ∙ ap (λ (w : ReplayState). answer_of w.buffer d) after) in
      let At : DrillCounts → Type 0 = λ x. Counted (ds ++ d ∷ []) x in
      let Of : List Delivery → Type 0 = λ l. Counted l now in
      subst Of (one_more d within is) (subst At (sym same) next)

pub few_more : (answer : Option Taken) (c now : DrillCounts) (n m : ℕ) → now ≡ with_answer answer c → n + 1 ≡ m → HasFew c n → HasFew now m
few_more answer c now n m is same few =
    let Few : DrillCounts → Type 0 = λ x. HasFew x m in
    let At : ℕ → Type 0 = λ k. HasFew (with_answer answer c) k in
    subst Few (sym is) (subst At same (few-next answer c n few))
