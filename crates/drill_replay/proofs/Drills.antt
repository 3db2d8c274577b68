-- How drills follow one another, and parts of them.
use Rattle.std.proofs.Common.{◌≡◌, ◌∙◌, refl, sym, ap, subst, inl, inr, ℕ, zero, suc, ◌+◌, ◌-◌, ◌%◌, ◌<◌, ◌≤◌, ◌==◌, Bool, true, false, cond, List, [], ◌∷◌, ◌++◌, append_assoc, append-nil, length, length-append, Option, None, Some, ⊎_elim, arith}
use Rattle.std.specs.List.{flat_map, range_with_len}
use Rattle.std.proofs.lemmas.List.Concat.{flat_map-append}
use Rattle.delivery.specs.declared.Delivery.{Delivery}
use Rattle.entity_model.specs.declared.event.Event.{Event}
use Rattle.reorder_buffer.specs.Buffered.{first_due}
use Rattle.sorted_sets.proofs.FirstPassing.{shorter_without}
use Rattle.replay_model.specs.Play.{Replies}
use Rattle.replay_model.specs.ReplayState.{ReplayState, after_applying, after_due, after_end, after_next, after_some, following, nothing_delivered}
use Rattle.replay_model.proofs.Following.{after_due-none, after_due-some, following-end}
use Rattle.drill_replay.specs.Drill.{deletion, item_deliveries, drill, edits, late_edit}
use Rattle.drill_replay.specs.Playing.{HasBegun, IsPartOf, StandsBetween, StandsWithin}
use Rattle.drill_replay.specs.Summary.{drilled, replies_of}

-- before the first delivery a drill has begun
pub nothing_taken : (size : ℕ) → HasBegun size nothing_delivered
nothing_taken size = inl (inl (record { before = []; after = drill size; all = refl; is = refl }))

-- one number more
range_more : (a n j : ℕ) → a + n ≡ j → range_with_len a (n + 1) ≡ range_with_len a n ++ j ∷ []
range_more a zero j is =
    let same : a ≡ j = omega arith in
    ap (λ i. i ∷ []) same
range_more a (suc n) j is =
    let longer : suc n + 1 ≡ suc (n + 1) = omega arith in
    let next : a + 1 + n ≡ j = omega arith in
    ap (range_with_len a) longer ∙ ap (λ l. a ∷ l) (range_more (a + 1) n j next)

-- the drill with one item more
pub drill-next : (n : ℕ) → drill (n + 1) ≡ drill n ++ item_deliveries (n + 1)
drill-next n =
    let next : 1 + n ≡ n + 1 = omega arith in
    ap (flat_map item_deliveries) (range_more 1 n (n + 1) next) ∙ flat_map-append item_deliveries (range_with_len 1 n) ((n + 1) ∷ [])
    ∙ ap (λ l. drill n ++ l) (append-nil (item_deliveries (n + 1)))

-- the deliveries of the items after so many
pub rest_of : (m k : ℕ) → (rest : List Delivery) × (drill (m + k) ≡ drill m ++ rest)
rest_of m zero =
    let same : m + zero ≡ m = omega arith in
    ([], ap drill same ∙ sym (append-nil (drill m)))
rest_of m (suc k) =
    let before = rest_of m k in
    let same : m + suc k ≡ m + k + 1 = omega arith in (
      before.0 ++ item_deliveries (m + k + 1),
      ap drill same ∙ drill-next (m + k) ∙ ap (λ l. l ++ item_deliveries (m + k + 1)) before.1 ∙ append_assoc (drill m) before.0 (item_deliveries (m + k + 1)),
    )

-- a part of the first deliveries is a part of all
pub part_longer : (size : ℕ) (ds more : List Delivery) (world : ReplayState) → IsPartOf size ds world → IsPartOf size (ds ++ more) world
part_longer size ds more world = ⊎_elim
    (λ (x : StandsBetween size ds world). inl (record {
      before = x.before;
      after = x.after ++ more;
      all = ap (λ l. l ++ more) x.all ∙ append_assoc x.before x.after more;
      is = x.is;
    }))
    (λ (x : StandsWithin size ds world). inr (record {
      before = x.before;
      last = x.last;
      after = x.after ++ more;
      all = ap (λ l. l ++ more) x.all ∙ append_assoc x.before (x.last ∷ x.after) more;
      steps = x.steps;
      is = x.is;
    }))

-- a part of a drill is one of each longer drill
pub part_in : (size m n : ℕ) (world : ReplayState) → m ≤ n → IsPartOf size (drill m) world → IsPartOf size (drill n) world
part_in size m n world below part =
    let rest = rest_of m (n - m) in
    let same : m + (n - m) ≡ n = omega arith in
    let Part : List Delivery → Type 0 = λ ds. IsPartOf size ds world in
    subst Part (sym rest.1 ∙ ap drill same) (part_longer size (drill m) rest.0 world part)

-- a list that is there or not
at_most : {A : Type 0} (b : Bool) (xs : List A) (n : ℕ) → length xs ≤ n → length (cond b xs []) ≤ n
at_most true xs n low = low
at_most false xs n low = omega arith

-- an item has at most six deliveries
pub few_deliveries : (i : ℕ) → length (item_deliveries i) ≤ 6
few_deliveries i =
    let joined : length (item_deliveries i) ≡ length (edits i) + length (deletion i) + length (late_edit i) =
    length-append (edits i ++ deletion i) (late_edit i) ∙ ap (λ n. n + length (late_edit i)) (length-append (edits i) (deletion i)) in
    let deleted : length (deletion i) ≤ 1 = at_most (i % 5 == 0) _ 1 (omega arith) in
    let late : length (late_edit i) ≤ 2 = at_most (i % 10 == 0) _ 2 (omega arith) in
    let three : length (edits i) ≡ 3 = refl in
    omega (arith, joined, deleted, late, three)

-- ---- all due events, one after the other

-- the least due event may be applied before others or after them
next_before : (replies : Replies) (n : ℕ) (w : ReplayState) → after_some replies n (after_next replies w) ≡ after_next replies (after_some replies n w)
next_before replies zero w = refl
next_before replies (suc n) w = ap (after_next replies) (next_before replies n w)

-- where fewer than n events wait, those that are due are so many
all_due : (replies : Replies) (n : ℕ) (w : ReplayState) → length w.buffer.waiting < n → (steps : ℕ) × (after_due replies w ≡ after_some replies steps w)
all_due replies zero w few = absurd (omega (arith, few))
all_due replies (suc n) w few = by (λ v shorter. all_due replies n v (omega (arith, shorter, few))) (first_due w.buffer) refl
  where
    Later : Type 0
    Later = (v : ReplayState) → length v.buffer.waiting < length w.buffer.waiting → (steps : ℕ) × (after_due replies v ≡ after_some replies steps v)

    by : Later → (o : Option Event) → first_due w.buffer ≡ o → (steps : ℕ) × (after_due replies w ≡ after_some replies steps w)
    by later None none = (0, after_due-none replies w none)
    by later (Some e) some =
        let fewer : length (after_applying replies w (Some e)).buffer.waiting < length w.buffer.waiting = shorter_without _ e w.buffer.waiting some in
        let rest = later (after_applying replies w (Some e)) fewer in (
          suc rest.0,
          sym (after_due-some replies w e some) ∙ rest.1 ∙ ap (after_some replies rest.0) (sym (ap (after_applying replies w) some)) ∙ next_before replies rest.0 w,
        )

-- a drill that was run to its end has begun
pub drilled_begun : (size : ℕ) → HasBegun size (drilled size)
drilled_begun size =
    let last : ReplayState = after_end (following None (replies_of size) (drill size)) in
    let all = all_due (replies_of size) (suc (length last.buffer.waiting)) last (omega arith) in
    inr (record { steps = all.0; is = following-end None (replies_of size) (drill size) ∙ all.1 })
