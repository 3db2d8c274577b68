-- How each step keeps a replay's state explained by a play: the start, an event, a watermark, the end, one due event applied, and none left.
use Rattle.std.proofs.Common.{◌≡◌, ℕ, ◌+◌, ℤ, length, length-append, arith, Bool, true, false, cond, ◌||◌, ⊎_elim, List, [], ◌∷◌, ◌++◌, Option, None, Some, Result, Err, is_eq, refl, sym, ◌∙◌, ap, subst, append-nil}
use Rattle.std.proofs.lemmas.Bool.{false_from_ne_true}
use Rattle.std.specs.Ordering.{eq_by_cmp}
use Rattle.std.proofs.lemmas.Cmp.{tied_itself}
use Rattle.entity_model.specs.declared.event.Event.{Event}
use Rattle.entity_model.specs.declared.id.EntityId.{EntityId}
use Rattle.entity_model.specs.declared.unfit.Unfit.{Unfit}
use Rattle.entity_model.specs.Event.{event_cmp, event_cmp_total, event_cmp_same}
use Rattle.entity_state.specs.declared.entry.Cause.{Cause}
use Rattle.entity_state.specs.declared.entry.Cause.TheVariants.{Failed}
use Rattle.delivery.specs.declared.Delivery.{Delivery}
use Rattle.delivery.specs.declared.Delivery.TheVariants.{Event as Told, Watermark, Mapping}
use Rattle.entity_model.specs.declared.mapping.MappingVersion.{MappingVersion}
use Rattle.reorder_buffer.specs.Watermarks.{is_due}
use Rattle.reorder_buffer.specs.Buffered.{answer_to, first_due}
use Rattle.sorted_sets.specs.Rising.{has, IsRising}
use Rattle.sorted_sets.proofs.Bools.{clash, equal, or_none, or_true}
use Rattle.sorted_sets.proofs.Rising.{has-append}
use Rattle.sorted_sets.proofs.FirstPassing.{has-found, IsRising-remove_key}
use Rattle.replay_model.specs.Records.{Bytes}
use Rattle.replay_model.specs.Play.{Replies, Fetch, fetches, fetches_to_end}
use Rattle.replay_model.specs.Replies.{GivesDocument, Judgement, judged, reply_there, source_replies, failed_events}
use Rattle.replay_model.specs.ReplayState.{ReplayState, nothing_delivered_within, after_event, after_mark, after_end, after_applying, after_due, after_next, delivered, following, fetches_delivered, fetches_for, fetches_due}
use Rattle.replay_model.specs.Transcript.{Question, for_triples, for_bindings, asking}
use Rattle.replay_model.specs.Explained.{is_applied, AgreeOnApplied, revision_wanted, is_fetching, IsHonest, Explained, ExplainedAfter, ExplainedToEnd}
use Rattle.replay_model.proofs.Applied.{applied-end, applied-event, applied-mark, applied-next, following_rises, waiting_not_applied}
use Rattle.replay_model.proofs.FetchCounts.{fetches_due-none, fetches_due-some, fetches-delivered, fetches-end}
use Rattle.replay_model.proofs.Fetching.{apply-same, failed_of, failed_by, failed-applying, failed-taken, has-failed_by, failed_of-there}
use Rattle.replay_model.proofs.Following.{following-delivered, following-end, following-rests, after_due-none, after_due-some}

-- the replies before the first delivery: those of the source, where contents are told
abbrev start_replies : Judgement → Option (ℕ → Option Bytes) → Replies
start_replies unfit None e r = Err Failed
start_replies unfit (Some contents) e r = source_replies unfit contents [] e r

-- the replies of a source give documents
there_fits : (unfit : Judgement) (x : EntityId) (there : Option Bytes) → GivesDocument unfit x (reply_there unfit x there)
there_fits unfit x None = tt
there_fits unfit x (Some bytes) = by (unfit x bytes) refl
  where
    by : (why : Option Unfit) → unfit x bytes ≡ why → GivesDocument unfit x (judged why bytes)
    by None is = is
    by (Some why) is = tt

source_fits : (unfit : Judgement) (contents : ℕ → Option Bytes) (failed : List Event) (e : Event) (r : ℕ) → GivesDocument unfit e.entity (source_replies unfit contents failed e r)
source_fits unfit contents failed e r = by (has event_cmp e failed)
  where
    by : (b : Bool) → GivesDocument unfit e.entity (cond b (Err Failed) (reply_there unfit e.entity (contents r)))
    by true = tt
    by false = there_fits unfit e.entity (contents r)

start_fits : (unfit : Judgement) (known : Option (ℕ → Option Bytes)) (e : Event) (r : ℕ) → GivesDocument unfit e.entity (start_replies unfit known e r)
start_fits unfit None e r = tt
start_fits unfit (Some contents) e r = source_fits unfit contents [] e r

-- a question changes nothing, and fetches nothing
asking-delivered : (replies : Replies) (w : ReplayState) (q : Question) → delivered replies w (asking q) ≡ w
asking-delivered replies w (for_triples pattern) = refl
asking-delivered replies w (for_bindings shapes) = refl

asking-fetches : (replies : Replies) (w : ReplayState) (q : Question) → fetches_delivered replies w (asking q) ≡ []
asking-fetches replies w (for_triples pattern) = refl
asking-fetches replies w (for_bindings shapes) = refl

module _ (unfit : Judgement) (known : Option (ℕ → Option Bytes)) where
  -- before the first delivery
  pub Explained-start : (hz : Option ℕ) → ExplainedAfter hz unfit known [] 0 (nothing_delivered_within hz)
  Explained-start hz = record {
    replies = start_replies unfit known;
    rises = tt;
    leads = λ others agree. refl;
    counts = λ others agree. refl;
    honest = λ contents is q r. ap (λ given. start_replies unfit given q r) is;
    fit = start_fits unfit known;
    failed_applied = λ q h. clash h refl;
  }

  module _ (play_of : Replies → ReplayState) (fetches_of : Replies → List Fetch) (made : ℕ) (w : ReplayState) (x : Explained unfit known play_of fetches_of made w) (none : first_due w.buffer ≡ None) where
    -- where no event is due, the state is the play's, and the fetches are made
    pub Explained-rests : (others : Replies) → AgreeOnApplied w x.replies others → w ≡ play_of others
    Explained-rests others agree = sym (after_due-none others w none) ∙ x.leads others agree

    pub Explained-made : (others : Replies) → AgreeOnApplied w x.replies others → made ≡ length (fetches_of others)
    Explained-made others agree =
        let left : length (fetches_due others w) ≡ 0 = ap length (fetches_due-none others w none) in
        omega (arith, x.counts others agree)

    -- the play with some replies
    pub Explained-is : w ≡ play_of x.replies
    Explained-is = Explained-rests x.replies (λ q r h. refl)

    pub Explained-fetches : made ≡ length (fetches_of x.replies)
    Explained-fetches = Explained-made x.replies (λ q r h. refl)

    -- where the contents are told, the play with the source's replies
    pub Explained-source : (contents : ℕ → Option Bytes) → known ≡ Some contents → w ≡ play_of (source_replies unfit contents (failed_events w.played.side))
    Explained-source contents is = Explained-rests (source_replies unfit contents (failed_events w.played.side)) (λ q r h. sym (x.honest contents is q r))

    pub Explained-source_fetches : (contents : ℕ → Option Bytes) → known ≡ Some contents → made ≡ length (fetches_of (source_replies unfit contents (failed_events w.played.side)))
    Explained-source_fetches contents is = Explained-made (source_replies unfit contents (failed_events w.played.side)) (λ q r h. sym (x.honest contents is q r))

  module _ (hz : Option ℕ) (ds : List Delivery) (made : ℕ) (w : ReplayState) (x : ExplainedAfter hz unfit known ds made w) (none : first_due w.buffer ≡ None) where
    following_others : (others : Replies) → AgreeOnApplied w x.replies others → w ≡ following hz others ds
    following_others = Explained-rests (λ replies. following hz replies ds) (λ replies. fetches hz replies ds) made w x none

    made_before : (others : Replies) → AgreeOnApplied w x.replies others → made ≡ length (fetches hz others ds)
    made_before = Explained-made (λ replies. following hz replies ds) (λ replies. fetches hz replies ds) made w x none

    following_itself : w ≡ following hz x.replies ds
    following_itself = following_others x.replies (λ q r h. refl)

    -- an event is taken
    pub Explained-event : (e : Event) → ExplainedAfter hz unfit known (ds ++ Told e ∷ []) made (after_event w e)
    Explained-event e =
        let is : after_event w e ≡ following hz x.replies (ds ++ Told e ∷ []) = ap (λ v. after_event v e) following_itself ∙ sym (following-delivered hz x.replies ds (Told e)) in
        let not_closed : w.buffer.closed ≡ false = ap (λ (v : ReplayState). v.buffer.closed) following_itself in
        let failed = failed-taken w.played.side (answer_to w.buffer e) e in
        let before : (others : Replies) → AgreeOnApplied (after_event w e) x.replies others → AgreeOnApplied w x.replies others = λ others agree q r h. agree q r (applied-event w e q not_closed ∙ h) in
        let same : (others : Replies) → AgreeOnApplied (after_event w e) x.replies others → after_event w e ≡ following hz others (ds ++ Told e ∷ []) = λ others agree. ap (λ v. after_event v e) (following_others others (before others agree)) ∙ sym (following-delivered hz others ds (Told e)) in
        record {
          replies = x.replies;
          rises = subst (λ (v : ReplayState). IsRising event_cmp v.buffer.waiting) (sym is) (following_rises hz x.replies (ds ++ Told e ∷ []));
          leads = λ others agree. ap (after_due others) (same others agree) ∙ after_due-none others (following hz others (ds ++ Told e ∷ [])) (following-rests hz others (ds ++ Told e ∷ []));
          counts = λ others agree.
              let left : length (fetches_due others (after_event w e)) ≡ 0 = ap (λ v. length (fetches_due others v)) (same others agree) ∙ ap length (fetches_due-none others (following hz others (ds ++ Told e ∷ [])) (following-rests hz others (ds ++ Told e ∷ []))) in
              let all : length (fetches hz others (ds ++ Told e ∷ [])) ≡ length (fetches hz others ds) = ap length (fetches-delivered hz others ds (Told e) ∙ append-nil (fetches hz others ds)) in
              omega (arith, made_before others (before others agree));
          honest = λ contents given q r. x.honest contents given q r ∙ ap (λ fs. source_replies unfit contents fs q r) (sym failed);
          fit = x.fit;
          failed_applied = λ q h. applied-event w e q not_closed ∙ x.failed_applied q (ap (has event_cmp q) (sym failed) ∙ h);
        }

    -- the replies stay
    pub event_replies : (e : Event) → (Explained-event e).replies ≡ x.replies
    unfolding Explained-event
    event_replies e = refl

    -- and no event is due after it
    pub Explained-event_rests : (e : Event) → first_due (after_event w e).buffer ≡ None
    Explained-event_rests e =
        ap (λ (v : ReplayState). first_due v.buffer) (ap (λ v. after_event v e) following_itself ∙ sym (following-delivered hz x.replies ds (Told e)))
        ∙ following-rests hz x.replies (ds ++ Told e ∷ [])

    -- a watermark is taken
    pub Explained-mark : (m : ℤ) → ExplainedAfter hz unfit known (ds ++ Watermark m ∷ []) made (after_mark w m)
    Explained-mark m =
        let before : (others : Replies) → AgreeOnApplied (after_mark w m) x.replies others → AgreeOnApplied w x.replies others = λ others agree q r h. agree q r (applied-mark w m q h) in
        record {
          replies = x.replies;
          rises = x.rises;
          leads = λ others agree. ap (λ v. after_due others (after_mark v m)) (following_others others (before others agree)) ∙ sym (following-delivered hz others ds (Watermark m));
          counts = λ others agree.
              let now : length (fetches_due others (after_mark w m)) ≡ length (fetches_due others (after_mark (following hz others ds) m)) = ap (λ v. length (fetches_due others (after_mark v m))) (following_others others (before others agree)) in
              let all : length (fetches hz others (ds ++ Watermark m ∷ [])) ≡ length (fetches hz others ds) + length (fetches_due others (after_mark (following hz others ds) m)) = ap length (fetches-delivered hz others ds (Watermark m)) ∙ length-append (fetches hz others ds) (fetches_due others (after_mark (following hz others ds) m)) in
              omega (arith, made_before others (before others agree));
          honest = x.honest;
          fit = x.fit;
          failed_applied = λ q h. applied-mark w m q (x.failed_applied q h);
        }

    -- the replies stay
    pub mark_replies : (m : ℤ) → (Explained-mark m).replies ≡ x.replies
    unfolding Explained-mark
    mark_replies m = refl

    -- a question is asked, which changes nothing
    pub Explained-ask : (q : Question) → ExplainedAfter hz unfit known (ds ++ asking q ∷ []) made w
    Explained-ask q = record {
      replies = x.replies;
      rises = x.rises;
      leads = λ others agree. x.leads others agree ∙ sym (following-delivered hz others ds (asking q) ∙ asking-delivered others (following hz others ds) q);
      counts = λ others agree.
          let all : length (fetches hz others (ds ++ asking q ∷ [])) ≡ length (fetches hz others ds) =
          ap length (fetches-delivered hz others ds (asking q) ∙ ap (λ l. fetches hz others ds ++ l) (asking-fetches others (following hz others ds) q) ∙ append-nil (fetches hz others ds)) in
          omega (arith, x.counts others agree);
      honest = x.honest;
      fit = x.fit;
      failed_applied = x.failed_applied;
    }

    -- the replies stay
    pub ask_replies : (q : Question) → (Explained-ask q).replies ≡ x.replies
    unfolding Explained-ask
    ask_replies q = refl

    -- another version of the mapping comes into force, which changes nothing of what is played
    pub Explained-mapping : (v : MappingVersion) → ExplainedAfter hz unfit known (ds ++ Mapping v ∷ []) made w
    Explained-mapping v = record {
      replies = x.replies;
      rises = x.rises;
      leads = λ others agree. x.leads others agree ∙ sym (following-delivered hz others ds (Mapping v));
      counts = λ others agree.
          let all : length (fetches hz others (ds ++ Mapping v ∷ [])) ≡ length (fetches hz others ds) = ap length (fetches-delivered hz others ds (Mapping v) ∙ append-nil (fetches hz others ds)) in
          omega (arith, x.counts others agree);
      honest = x.honest;
      fit = x.fit;
      failed_applied = x.failed_applied;
    }

    -- the replies stay
    pub mapping_replies : (v : MappingVersion) → (Explained-mapping v).replies ≡ x.replies
    unfolding Explained-mapping
    mapping_replies v = refl

    -- the end is taken
    pub Explained-end : ExplainedToEnd hz unfit known ds made (after_end w)
    Explained-end =
        let before : (others : Replies) → AgreeOnApplied (after_end w) x.replies others → AgreeOnApplied w x.replies others = λ others agree q r h. agree q r (applied-end w q h) in
        record {
          replies = x.replies;
          rises = x.rises;
          leads = λ others agree. ap (λ v. after_due others (after_end v)) (following_others others (before others agree)) ∙ sym (following-end hz others ds);
          counts = λ others agree.
              let now : length (fetches_due others (after_end w)) ≡ length (fetches_due others (after_end (following hz others ds))) = ap (λ v. length (fetches_due others (after_end v))) (following_others others (before others agree)) in
              let all : length (fetches_to_end hz others ds) ≡ length (fetches hz others ds) + length (fetches_due others (after_end (following hz others ds))) = ap length (fetches-end hz others ds) ∙ length-append (fetches hz others ds) (fetches_due others (after_end (following hz others ds))) in
              omega (arith, made_before others (before others agree));
          honest = x.honest;
          fit = x.fit;
          failed_applied = λ q h. applied-end w q (x.failed_applied q h);
        }

    -- the replies stay
    pub end_replies : Explained-end.replies ≡ x.replies
    unfolding Explained-end
    end_replies = refl

-- ---- one due event is applied

-- the replies, with those to one event changed
abbrev pub replied : Replies → Event → (ℕ → Result Bytes Cause) → Replies
replied replies e now q r = cond (eq_by_cmp event_cmp q e) (now r) (replies q r)

itself : (e : Event) → eq_by_cmp event_cmp e e ≡ true
itself e = ap is_eq (tied_itself event_cmp_total e)

-- how many fetches the application of an event makes
abbrev pub fetches_counted : Bool → ℕ
fetches_counted fetching = cond fetching 1 0

length-fetches_for : (w : ReplayState) (e : Event) → length (fetches_for w (Some e)) ≡ fetches_counted (is_fetching w e)
length-fetches_for w e = by (is_fetching w e)
  where
    by : (b : Bool) → length {A = Fetch} (cond b (record { event = e; revision = revision_wanted w e } ∷ []) []) ≡ fetches_counted b
    by true = refl
    by false = refl

length-fetches_due : (replies : Replies) (w : ReplayState) (e : Event) → first_due w.buffer ≡ Some e → length (fetches_due replies w) ≡ fetches_counted (is_fetching w e) + length (fetches_due replies (after_applying replies w (Some e)))
length-fetches_due replies w e some =
    ap length (fetches_due-some replies w e some)
    ∙ length-append (fetches_for w (Some e)) (fetches_due replies (after_applying replies w (Some e)))
    ∙ ap (λ n. n + length (fetches_due replies (after_applying replies w (Some e)))) (length-fetches_for w e)

-- the state after the event is applied with this reply
abbrev pub next_by : ReplayState → Event → Result Bytes Cause → ReplayState
next_by w e reply = after_applying (λ q r. reply) w (Some e)

-- the replies to the event: those of the source, where contents are told
abbrev now_replied : Judgement → Option (ℕ → Option Bytes) → List Event → Event → Result Bytes Cause → ℕ → Result Bytes Cause
now_replied unfit None failed e reply r = reply
now_replied unfit (Some contents) failed e reply r = source_replies unfit contents failed e r

now_fits : (unfit : Judgement) (known : Option (ℕ → Option Bytes)) (failed : List Event) (e : Event) (reply : Result Bytes Cause) (r : ℕ) → GivesDocument unfit e.entity reply → GivesDocument unfit e.entity (now_replied unfit known failed e reply r)
now_fits unfit None failed e reply r fits = fits
now_fits unfit (Some contents) failed e reply r fits = source_fits unfit contents failed e r

-- an honest reply is the source's, after the failed events have this event if its fetch failed
honest_is : (unfit : Judgement) (contents : ℕ → Option Bytes) (failed : List Event) (e : Event) (r : ℕ) (reply : Result Bytes Cause) → has event_cmp e failed ≡ false → IsHonest unfit contents e r reply → source_replies unfit contents (failed ++ failed_of e reply) e r ≡ reply
honest_is unfit contents failed e r reply fresh honest =
    ⊎_elim
    (λ is. ap (λ b. cond b (Err Failed) (reply_there unfit e.entity (contents r))) (ap (λ p. has event_cmp e (failed ++ failed_of e p)) is ∙ has-append event_cmp e failed (e ∷ []) ∙ or_true (has event_cmp e failed) _ (ap (λ b. b || false) (itself e))) ∙ sym is)
    (λ is. ap (λ b. cond b (Err Failed) (reply_there unfit e.entity (contents r))) (ap (λ p. has event_cmp e (failed ++ failed_of e p)) is ∙ ap (λ l. has event_cmp e (failed ++ l)) (failed_of-there unfit e (contents r)) ∙ ap (has event_cmp e) (append-nil failed) ∙ fresh) ∙ sym is)
    honest

module _ (unfit : Judgement) (known : Option (ℕ → Option Bytes)) (play_of : Replies → ReplayState) (fetches_of : Replies → List Fetch) (made : ℕ) (w : ReplayState) (e : Event) (reply : Result Bytes Cause) where
  fetched : (given : Option (ℕ → Option Bytes)) → has event_cmp e (failed_events w.played.side) ≡ false → (fetching : Bool) → fetching ≡ true
      → ((contents : ℕ → Option Bytes) → given ≡ Some contents → IsHonest unfit contents e (revision_wanted w e) reply)
      → now_replied unfit given (failed_events w.played.side ++ failed_by fetching e reply) e reply (revision_wanted w e) ≡ reply
  fetched None fresh fetching is honest = refl
  fetched (Some contents) fresh false is honest = clash is refl
  fetched (Some contents) fresh true is honest = honest_is unfit contents (failed_events w.played.side) e (revision_wanted w e) reply fresh (honest contents refl)

  -- the replies after the event is applied
  abbrev replies_next : Replies → Replies
  replies_next replies = replied replies e (now_replied unfit known (failed_events (next_by w e reply).played.side) e reply)

  told_now : (given : Option (ℕ → Option Bytes)) (contents : ℕ → Option Bytes) (failed : List Event) (r : ℕ) → given ≡ Some contents → now_replied unfit given failed e reply r ≡ source_replies unfit contents failed e r
  told_now given contents failed r is = ap (λ k. now_replied unfit k failed e reply r) is

  -- the state after the event is explained too; replies that agree with its replies agree with those before, and lead to it
  pub record Next (x : Explained unfit known play_of fetches_of made w) : Type 0 where
    pub explained : Explained unfit known play_of fetches_of (made + fetches_counted (is_fetching w e)) (next_by w e reply)
    pub agree_before : (others : Replies) → AgreeOnApplied (next_by w e reply) explained.replies others → AgreeOnApplied w x.replies others
    pub is_next : (others : Replies) → AgreeOnApplied (next_by w e reply) explained.replies others → next_by w e reply ≡ after_next others w

  -- one due event is applied, with any reply where contents aren't told, and an honest one where they are
  pub Explained-next : (x : Explained unfit known play_of fetches_of made w) → first_due w.buffer ≡ Some e
      → ((contents : ℕ → Option Bytes) → known ≡ Some contents → is_fetching w e ≡ true → IsHonest unfit contents e (revision_wanted w e) reply)
      → GivesDocument unfit e.entity reply
      → Next x
  Explained-next x some honest fits =
      let there : has event_cmp e w.buffer.waiting ≡ true = has-found (is_due w.buffer.closed w.buffer.mark) event_cmp_total e w.buffer.waiting some in
      let not_yet : is_applied w e ≡ false = waiting_not_applied w e there in
      let fresh : has event_cmp e (failed_events w.played.side) ≡ false = false_from_ne_true (has event_cmp e (failed_events w.played.side)) (λ h. clash (x.failed_applied e h) not_yet) in
      let failed : failed_events (next_by w e reply).played.side ≡ failed_events w.played.side ++ failed_by (is_fetching w e) e reply = failed-applying (λ q r. reply) w e in
      let applied : (q : Event) → is_applied (next_by w e reply) q ≡ (eq_by_cmp event_cmp q e || is_applied w q) = λ q. applied-next (λ q r. reply) w e q x.rises some in
      let other : (q : Event) → is_applied w q ≡ true → eq_by_cmp event_cmp q e ≡ false = λ q h. false_from_ne_true (eq_by_cmp event_cmp q e) (λ tie. clash (ap (is_applied w) (sym (event_cmp_same q e (equal _ tie))) ∙ h) not_yet) in
      let before : (others : Replies) → AgreeOnApplied (next_by w e reply) (replies_next x.replies) others → AgreeOnApplied w x.replies others = λ others agree q r h.
      agree q r (applied q ∙ or_true (eq_by_cmp event_cmp q e) _ h)
      ∙ ap (λ b. cond b (now_replied unfit known (failed_events (next_by w e reply).played.side) e reply r) (x.replies q r)) (other q h) in
      let now : (others : Replies) → AgreeOnApplied (next_by w e reply) (replies_next x.replies) others → is_fetching w e ≡ true → others e (revision_wanted w e) ≡ reply = λ others agree fetching.
      agree e (revision_wanted w e) (applied e ∙ ap (λ b. b || is_applied w e) (itself e))
      ∙ ap (λ b. cond b (now_replied unfit known (failed_events (next_by w e reply).played.side) e reply (revision_wanted w e)) (x.replies e (revision_wanted w e))) (itself e)
      ∙ ap (λ fs. now_replied unfit known fs e reply (revision_wanted w e)) failed
      ∙ fetched known fresh (is_fetching w e) fetching (λ contents is. honest contents is fetching) in
      let explained : Explained unfit known play_of fetches_of (made + fetches_counted (is_fetching w e)) (next_by w e reply) = record {
        replies = replies_next x.replies;
        rises = IsRising-remove_key (is_due w.buffer.closed w.buffer.mark) event_cmp w.buffer.waiting x.rises;
        leads = λ others agree.
            ap (after_due others) (apply-same (λ q r. reply) others w e (now others agree))
            ∙ after_due-some others w e some
            ∙ x.leads others (before others agree);
        counts = λ others agree.
            let same : length (fetches_due others (next_by w e reply)) ≡ length (fetches_due others (after_applying others w (Some e))) = ap (λ v. length (fetches_due others v)) (apply-same (λ q r. reply) others w e (now others agree)) in
            let all : length (fetches_due others w) ≡ fetches_counted (is_fetching w e) + length (fetches_due others (after_applying others w (Some e))) = length-fetches_due others w e some in
            omega (arith, x.counts others (before others agree));
        honest = λ contents is q r. from_source contents is q r x failed (eq_by_cmp event_cmp q e) refl;
        fit = λ q r. still_fits q r x fits (eq_by_cmp event_cmp q e) refl;
        failed_applied = λ q h. applied q ∙ from_failed q x failed (eq_by_cmp event_cmp q e) refl h;
      } in
      record {
        explained = explained;
        agree_before = before;
        is_next = λ others agree. apply-same (λ q r. reply) others w e (now others agree) ∙ ap (after_applying others w) (sym some);
      }
    where
      from_failed : (q : Event) (x : Explained unfit known play_of fetches_of made w) → failed_events (next_by w e reply).played.side ≡ failed_events w.played.side ++ failed_by (is_fetching w e) e reply → (t : Bool) → eq_by_cmp event_cmp q e ≡ t → has event_cmp q (failed_events (next_by w e reply).played.side) ≡ true → (t || is_applied w q) ≡ true
      from_failed q x failed true tie h = refl
      from_failed q x failed false tie h = x.failed_applied q (sym (ap (has event_cmp q) failed ∙ has-append event_cmp q (failed_events w.played.side) (failed_by (is_fetching w e) e reply) ∙ ap (λ b. has event_cmp q (failed_events w.played.side) || b) (has-failed_by q e (is_fetching w e) reply tie) ∙ or_none _) ∙ h)

      still_fits : (q : Event) (r : ℕ) (x : Explained unfit known play_of fetches_of made w) → GivesDocument unfit e.entity reply → (t : Bool) → eq_by_cmp event_cmp q e ≡ t →
          GivesDocument unfit q.entity (cond t (now_replied unfit known (failed_events (next_by w e reply).played.side) e reply r) (x.replies q r))
      still_fits q r x fits true tie =
          let Fits : Event → Type 0 = λ v. GivesDocument unfit v.entity (now_replied unfit known (failed_events (next_by w e reply).played.side) e reply r) in
          subst Fits (sym (event_cmp_same q e (equal _ tie))) (now_fits unfit known (failed_events (next_by w e reply).played.side) e reply r fits)
      still_fits q r x fits false tie = x.fit q r

      from_source : (contents : ℕ → Option Bytes) → known ≡ Some contents → (q : Event) (r : ℕ) (x : Explained unfit known play_of fetches_of made w) → failed_events (next_by w e reply).played.side ≡ failed_events w.played.side ++ failed_by (is_fetching w e) e reply → (t : Bool) → eq_by_cmp event_cmp q e ≡ t
          → replies_next x.replies q r ≡ source_replies unfit contents (failed_events (next_by w e reply).played.side) q r
      from_source contents is q r x failed true tie =
          ap (λ b. cond b (now_replied unfit known (failed_events (next_by w e reply).played.side) e reply r) (x.replies q r)) tie
          ∙ told_now known contents (failed_events (next_by w e reply).played.side) r is
          ∙ ap (λ y. source_replies unfit contents (failed_events (next_by w e reply).played.side) y r) (sym (event_cmp_same q e (equal _ tie)))
      from_source contents is q r x failed false tie =
          ap (λ b. cond b (now_replied unfit known (failed_events (next_by w e reply).played.side) e reply r) (x.replies q r)) tie
          ∙ x.honest contents is q r
          ∙ ap (λ b. cond b (Err Failed) (reply_there unfit q.entity (contents r))) (sym (ap (has event_cmp q) failed ∙ has-append event_cmp q (failed_events w.played.side) (failed_by (is_fetching w e) e reply) ∙ ap (λ b. has event_cmp q (failed_events w.played.side) || b) (has-failed_by q e (is_fetching w e) reply tie) ∙ or_none _))
