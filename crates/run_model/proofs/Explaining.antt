-- How each step keeps a state explained that deliveries lead to from a checkpoint on: an event, a watermark, a question, a version and the end.
use Rattle.std.proofs.Common.{◌≡◌, ℕ, ◌+◌, ℤ, Bool, true, false, cond, ◌||◌, length, length-append, arith, List, [], ◌∷◌, ◌++◌, Option, None, Some, Err, refl, sym, ◌∙◌, ap}
use Rattle.std.specs.{BTreeSet.insert_key, List.list_any}
use Rattle.std.specs.Prelude.{find}
use Rattle.sorted_sets.specs.Rising.{has, IsRising}
use Rattle.sorted_sets.proofs.{Rising.IsRising-insert_key, Bools.or_false, Finding.list_any-insert_key}
use Rattle.delivery.specs.declared.Delivery.{Delivery}
use Rattle.delivery.specs.declared.Delivery.TheVariants.{Event as Told, Watermark, Mapping}
use Rattle.entity_model.specs.{declared.event.Event.Event, declared.mapping.MappingVersion.MappingVersion}
use Rattle.entity_model.specs.{Event.event_cmp, Event.event_cmp_same, Event.event_cmp_total, declared.id.EntityId.EntityId}
use Rattle.entity_model.specs.declared.unfit.Unfit.{Unfit}
use Rattle.reorder_buffer.specs.declared.taken.Taken.TheVariants.{New, Repeat, Late}
use Rattle.reorder_buffer.specs.Watermarks.{is_due, reached}
use Rattle.reorder_buffer.specs.Buffered.{Buffered, after_answer, after_taking, answer_to, first_due}
use Rattle.replay_model.specs.{Explained.AgreeOnApplied, Explained.Explained, Explained.is_applied, Play.Replies, Records.Bytes}
use Rattle.replay_model.specs.Replies.{GivesDocument, Judgement, failed_events, judged, reply_there, source_replies}
use Rattle.replay_model.specs.ReplayState.{ReplayState, after_due, after_end, after_event, after_mark, delivered, ended, fetches_delivered, fetches_due}
use Rattle.replay_model.specs.Transcript.{Question, asking, for_bindings, for_triples}
use Rattle.entity_state.specs.declared.entry.Cause.TheVariants.{Failed}
use Rattle.replay_model.proofs.Applied.{applied-end, applied-event, applied-mark}
use Rattle.replay_model.proofs.{Explaining.Explained-made, Explaining.Explained-rests, FetchCounts.fetches_due-none, Fetching.failed-taken}
use Rattle.replay_model.proofs.Following.{after_due-none}
use Rattle.replay_parts.specs.Checkpoint.{Checkpoint}
use Rattle.run_model.specs.Course.{along, fetches_of_delivery, state_along}
use Rattle.run_model.proofs.Along.{along-push, along-still, state-push}

-- ---- a buffer that rests, and one more event

none_any : (p : Event → Bool) (xs : List Event) → find p xs ≡ None → list_any p xs ≡ false
none_any p [] none = refl
none_any p (x ∷ xs) none = by (p x) none (none_any p xs)
  where
    by : (t : Bool) → cond t (Some x) (find p xs) ≡ None → (find p xs ≡ None → list_any p xs ≡ false) → (t || list_any p xs) ≡ false
    by true none rest = cc
    by false none rest = rest none

any_none : (p : Event → Bool) (xs : List Event) → list_any p xs ≡ false → find p xs ≡ None
any_none p [] none = refl
any_none p (x ∷ xs) none = by (p x) none (any_none p xs)
  where
    by : (t : Bool) → (t || list_any p xs) ≡ false → (list_any p xs ≡ false → find p xs ≡ None) → cond t (Some x) (find p xs) ≡ None
    by true none rest = cc
    by false none rest = rest none

none_due : (b : Buffered) (e : Event) → b.closed ≡ false → first_due b ≡ None → first_due (after_taking b e) ≡ None
none_due b e open_still rests = by (has event_cmp e b.kept) (reached b.mark e.time) refl
  where
    by : (h r : Bool) → reached b.mark e.time ≡ r → first_due (after_answer (cond h Repeat (cond r Late New)) b e) ≡ None
    by true r is = rests
    by false true is = rests
    by false false is = any_none (is_due b.closed b.mark) (insert_key event_cmp b.waiting e) (list_any-insert_key event_cmp event_cmp_same (is_due b.closed b.mark) e b.waiting
        ∙ or_false (is_due b.closed b.mark e) (list_any (is_due b.closed b.mark) b.waiting) (ap (λ c. c || reached b.mark e.time) open_still ∙ is) (none_any (is_due b.closed b.mark) b.waiting rests))

pub open-taking : (b : Buffered) (e : Event) → (after_taking b e).closed ≡ b.closed
open-taking b e = by (has event_cmp e b.kept) (reached b.mark e.time)
  where
    by : (h r : Bool) → (after_answer (cond h Repeat (cond r Late New)) b e).closed ≡ b.closed
    by true r = refl
    by false true = refl
    by false false = refl

rises-taking : (b : Buffered) (e : Event) → IsRising event_cmp b.waiting → IsRising event_cmp (after_taking b e).waiting
rises-taking b e rises = by (has event_cmp e b.kept) (reached b.mark e.time)
  where
    by : (h r : Bool) → IsRising event_cmp (after_answer (cond h Repeat (cond r Late New)) b e).waiting
    by true r = rises
    by false true = rises
    by false false = IsRising-insert_key event_cmp_total e b.waiting rises

-- ---- the replies of a source give documents

there_fits : (unfit : Judgement) (x : EntityId) (there : Option Bytes) → GivesDocument unfit x (reply_there unfit x there)
there_fits unfit x None = tt
there_fits unfit x (Some bytes) = by (unfit x bytes) refl
  where
    by : (why : Option Unfit) → unfit x bytes ≡ why → GivesDocument unfit x (judged why bytes)
    by None is = is
    by (Some why) is = tt

source_fits : (unfit : Judgement) (contents : ℕ → Option Bytes) (failed : List Event) (e : Event) (r : ℕ) → GivesDocument unfit e.entity (source_replies unfit contents failed e r)
source_fits unfit contents failed e r = by (has event_cmp e failed)
  where
    by : (b : Bool) → GivesDocument unfit e.entity (cond b (Err Failed) (reply_there unfit e.entity (contents r)))
    by true = tt
    by false = there_fits unfit e.entity (contents r)

-- ---- each step

-- a question changes nothing, and fetches nothing
asking-delivered : (replies : Replies) (w : ReplayState) (q : Question) → delivered replies w (asking q) ≡ w
asking-delivered replies w (for_triples pattern) = refl
asking-delivered replies w (for_bindings shapes) = refl

asking-fetches : (replies : Replies) (w : ReplayState) (q : Question) → fetches_delivered replies w (asking q) ≡ []
asking-fetches replies w (for_triples pattern) = refl
asking-fetches replies w (for_bindings shapes) = refl

-- explained by what these deliveries lead to from a checkpoint on
abbrev pub ExplainedAlong : Checkpoint → Judgement → Option (ℕ → Option Bytes) → List Delivery → ℕ → ReplayState → Type 0
ExplainedAlong c unfit known ds made w = Explained unfit known (λ replies. state_along replies c ds) (λ replies. along fetches_of_delivery replies c ds) made w

-- the same with the end of the input
abbrev pub ExplainedAlongToEnd : Checkpoint → Judgement → Option (ℕ → Option Bytes) → List Delivery → ℕ → ReplayState → Type 0
ExplainedAlongToEnd c unfit known ds made w =
    Explained unfit known (λ replies. ended replies (state_along replies c ds)) (λ replies. along fetches_of_delivery replies c ds ++ fetches_due replies (after_end (state_along replies c ds))) made w

-- before the first delivery a state from which nothing is due is explained by itself
pub explained_first : (unfit : Judgement) (known : Option (ℕ → Option Bytes)) (c : Checkpoint) (w : ReplayState) → w ≡ c.state → first_due w.buffer ≡ None → IsRising event_cmp w.buffer.waiting →
    ((e : Event) → has event_cmp e (failed_events w.played.side) ≡ true → is_applied w e ≡ true) → ExplainedAlong c unfit known [] 0 w
explained_first unfit known c w is none rises applied = record {
  replies = first_replies known;
  rises = rises;
  leads = λ others agree. after_due-none others w none ∙ is;
  counts = λ others agree.
      let left : length (fetches_due others w) ≡ 0 = ap length (fetches_due-none others w none) in
      omega (arith, left);
  honest = λ contents told q r. ap (λ given. first_replies given q r) told;
  fit = λ e r. first_fit known e r;
  failed_applied = applied;
}
  where
    first_replies : Option (ℕ → Option Bytes) → Replies
    first_replies None e r = Err Failed
    first_replies (Some contents) e r = source_replies unfit contents (failed_events w.played.side) e r

    first_fit : (given : Option (ℕ → Option Bytes)) (e : Event) (r : ℕ) → GivesDocument unfit e.entity (first_replies given e r)
    first_fit None e r = tt
    first_fit (Some contents) e r = source_fits unfit contents (failed_events w.played.side) e r

module _ (unfit : Judgement) (known : Option (ℕ → Option Bytes)) (c : Checkpoint) (ds : List Delivery) (made : ℕ) (w : ReplayState) (x : ExplainedAlong c unfit known ds made w) (none : first_due w.buffer ≡ None) where
  led_others : (others : Replies) → AgreeOnApplied w x.replies others → w ≡ state_along others c ds
  led_others = Explained-rests unfit known (λ replies. state_along replies c ds) (λ replies. along fetches_of_delivery replies c ds) made w x none

  made_before : (others : Replies) → AgreeOnApplied w x.replies others → made ≡ length (along fetches_of_delivery others c ds)
  made_before = Explained-made unfit known (λ replies. state_along replies c ds) (λ replies. along fetches_of_delivery replies c ds) made w x none

  -- no event is due after one more is taken
  pub event_rests : w.buffer.closed ≡ false → (e : Event) → first_due (after_event w e).buffer ≡ None
  event_rests not_closed e = none_due w.buffer e not_closed none

  -- an event is taken
  pub along-event : w.buffer.closed ≡ false → (e : Event) → ExplainedAlong c unfit known (ds ++ Told e ∷ []) made (after_event w e)
  along-event not_closed e =
      let failed = failed-taken w.played.side (answer_to w.buffer e) e in
      let before : (others : Replies) → AgreeOnApplied (after_event w e) x.replies others → AgreeOnApplied w x.replies others = λ others agree q r h. agree q r (applied-event w e q not_closed ∙ h) in
      record {
        replies = x.replies;
        rises = rises-taking w.buffer e x.rises;
        leads = λ others agree.
            after_due-none others (after_event w e) (event_rests not_closed e) ∙ ap (λ v. after_event v e) (led_others others (before others agree)) ∙ sym (state-push others c ds (Told e));
        counts = λ others agree.
            let left : length (fetches_due others (after_event w e)) ≡ 0 = ap length (fetches_due-none others (after_event w e) (event_rests not_closed e)) in
            let all : length (along fetches_of_delivery others c (ds ++ Told e ∷ [])) ≡ length (along fetches_of_delivery others c ds) = ap length (along-still fetches_of_delivery others c ds (Told e) refl) in
            omega (arith, made_before others (before others agree));
        honest = λ contents given q r. x.honest contents given q r ∙ ap (λ fs. source_replies unfit contents fs q r) (sym failed);
        fit = x.fit;
        failed_applied = λ q h. applied-event w e q not_closed ∙ x.failed_applied q (ap (has event_cmp q) (sym failed) ∙ h);
      }

  -- the replies stay
  pub event_replies : (not_closed : w.buffer.closed ≡ false) (e : Event) → (along-event not_closed e).replies ≡ x.replies
  unfolding along-event
  event_replies not_closed e = refl

  -- a watermark is taken
  pub along-mark : (m : ℤ) → ExplainedAlong c unfit known (ds ++ Watermark m ∷ []) made (after_mark w m)
  along-mark m =
      let before : (others : Replies) → AgreeOnApplied (after_mark w m) x.replies others → AgreeOnApplied w x.replies others = λ others agree q r h. agree q r (applied-mark w m q h) in
      record {
        replies = x.replies;
        rises = x.rises;
        leads = λ others agree. ap (λ v. after_due others (after_mark v m)) (led_others others (before others agree)) ∙ sym (state-push others c ds (Watermark m));
        counts = λ others agree.
            let now : length (fetches_due others (after_mark w m)) ≡ length (fetches_due others (after_mark (state_along others c ds) m)) = ap (λ v. length (fetches_due others (after_mark v m))) (led_others others (before others agree)) in
            let all : length (along fetches_of_delivery others c (ds ++ Watermark m ∷ [])) ≡ length (along fetches_of_delivery others c ds) + length (fetches_due others (after_mark (state_along others c ds) m)) =
            ap length (along-push fetches_of_delivery others c ds (Watermark m)) ∙ length-append (along fetches_of_delivery others c ds) (fetches_due others (after_mark (state_along others c ds) m)) in
            omega (arith, made_before others (before others agree));
        honest = x.honest;
        fit = x.fit;
        failed_applied = λ q h. applied-mark w m q (x.failed_applied q h);
      }

  -- the replies stay
  pub mark_replies : (m : ℤ) → (along-mark m).replies ≡ x.replies
  unfolding along-mark
  mark_replies m = refl

  -- a question is asked, which changes nothing
  pub along-asking : (q : Question) → ExplainedAlong c unfit known (ds ++ asking q ∷ []) made w
  along-asking q = record {
    replies = x.replies;
    rises = x.rises;
    leads = λ others agree. x.leads others agree ∙ sym (state-push others c ds (asking q) ∙ asking-delivered others (state_along others c ds) q);
    counts = λ others agree.
        let all : length (along fetches_of_delivery others c (ds ++ asking q ∷ [])) ≡ length (along fetches_of_delivery others c ds) = ap length (along-still fetches_of_delivery others c ds (asking q) (asking-fetches others (state_along others c ds) q)) in
        omega (arith, x.counts others agree);
    honest = x.honest;
    fit = x.fit;
    failed_applied = x.failed_applied;
  }

  -- the replies stay
  pub asking_replies : (q : Question) → (along-asking q).replies ≡ x.replies
  unfolding along-asking
  asking_replies q = refl

  -- another version of the mapping comes into force, which changes nothing of what is played
  pub along-mapping : (v : MappingVersion) → ExplainedAlong c unfit known (ds ++ Mapping v ∷ []) made w
  along-mapping v = record {
    replies = x.replies;
    rises = x.rises;
    leads = λ others agree. x.leads others agree ∙ sym (state-push others c ds (Mapping v));
    counts = λ others agree.
        let all : length (along fetches_of_delivery others c (ds ++ Mapping v ∷ [])) ≡ length (along fetches_of_delivery others c ds) = ap length (along-still fetches_of_delivery others c ds (Mapping v) refl) in
        omega (arith, x.counts others agree);
    honest = x.honest;
    fit = x.fit;
    failed_applied = x.failed_applied;
  }

  -- the replies stay
  pub mapping_replies : (v : MappingVersion) → (along-mapping v).replies ≡ x.replies
  unfolding along-mapping
  mapping_replies v = refl

  -- the end is taken
  pub along-end : ExplainedAlongToEnd c unfit known ds made (after_end w)
  along-end =
      let before : (others : Replies) → AgreeOnApplied (after_end w) x.replies others → AgreeOnApplied w x.replies others = λ others agree q r h. agree q r (applied-end w q h) in
      record {
        replies = x.replies;
        rises = x.rises;
        leads = λ others agree. ap (λ v. after_due others (after_end v)) (led_others others (before others agree));
        counts = λ others agree.
            let now : length (fetches_due others (after_end w)) ≡ length (fetches_due others (after_end (state_along others c ds))) = ap (λ v. length (fetches_due others (after_end v))) (led_others others (before others agree)) in
            let all : length (along fetches_of_delivery others c ds ++ fetches_due others (after_end (state_along others c ds))) ≡ length (along fetches_of_delivery others c ds) + length (fetches_due others (after_end (state_along others c ds))) =
            length-append (along fetches_of_delivery others c ds) (fetches_due others (after_end (state_along others c ds))) in
            omega (arith, made_before others (before others agree));
        honest = x.honest;
        fit = x.fit;
        failed_applied = λ q h. applied-end w q (x.failed_applied q h);
      }

  -- the replies stay
  pub end_replies : along-end.replies ≡ x.replies
  unfolding along-end
  end_replies = refl
