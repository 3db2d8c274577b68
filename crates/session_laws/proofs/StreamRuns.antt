-- The steps of two runs are those of one: a reply counts where the mark reaches its event.
use Rattle.std.proofs.Common.{◌≡◌, refl, sym, ◌∙◌, ap, ℕ, ◌+◌, ℤ, Bool, true, false, cond, List, [], ◌∷◌, ◌++◌, append_assoc, append-nil, length, length-append, filter, flat_map, Option, arith}
use Rattle.std.proofs.{lemmas.List.Concat.flat_map-append, lemmas.List.Elements.filter-append}
use Rattle.rdf_term.specs.Order.{triple_cmp}
use Rattle.sorted_sets.proofs.{Filtering.filter_swap, Filtering.sorted-filter, Pushes.by_pushes}
use Rattle.delivery.specs.declared.Delivery.{Delivery}
use Rattle.delivery.specs.declared.Delivery.TheVariants.{Event as Told, Watermark, Ask, Mapping, Match}
use Rattle.entity_model.specs.{declared.event.Event.Event, declared.mapping.MappingVersion.MappingVersion}
use Rattle.entity_model.specs.Event.{event_cmp_same, event_cmp_total}
use Rattle.reorder_buffer.specs.Watermarks.{greater, is_due, reached}
use Rattle.replay_model.specs.{Acceptance.accepted, Acceptance.mark, Acceptance.version_in_force, Fate.in_order}
use Rattle.replay_model.specs.{Play.Played, Play.Replies, Play.apply, Play.play, ReplayState.after_end, ReplayState.following, Union.union}
use Rattle.replay_model.proofs.{Deliveries.mark-watermark, Following.newly_due-end, Following.waits}
use Rattle.replay_parts.specs.Checkpoint.{Checkpoint, advanced_by, checkpoint, replies_of_runs}
use Rattle.replay_parts.proofs.TwoRuns.{AgreeReached, AgreeWhere, apply-alike, both_first, both_second, checkpoint-two, checkpoint-waiting, checkpoint_first, following-reached, reached-push, waits_earlier}
use Rattle.fetched_pages.specs.Meaning.{meaning}
use Rattle.replica.specs.Record.{record_text}
use Rattle.patch_stream.specs.Stream.{Step, changes, is_change, numbered_from, step, steps_applied, steps_due, steps_of_play, steps_to_end, stream_text}
use Rattle.patch_stream.proofs.Streams.{numbered-append}
use Rattle.run_model.specs.Course.{along, steps_of_delivery, stream_text_from}
use Rattle.run_model.proofs.{Along.along-push, FromNothing.steps_grow}

module _ (others replies : Replies) where
  -- the steps of events that pass a test at which the replies agree
  steps_applied-alike : (version : MappingVersion) (test : Event → Bool) → AgreeWhere test others replies → (es : List Event) (p : Played) → steps_applied version others p (filter test es) ≡ steps_applied version replies p (filter test es)
  steps_applied-alike version test agree [] p = refl
  steps_applied-alike version test agree (e ∷ es) p = by (test e) refl (steps_applied-alike version test agree es)
    where
      by : (b : Bool) → test e ≡ b → ((p : Played) → steps_applied version others p (filter test es) ≡ steps_applied version replies p (filter test es))
          → steps_applied version others p (cond b (e ∷ filter test es) (filter test es)) ≡ steps_applied version replies p (cond b (e ∷ filter test es) (filter test es))
      by true is rest =
          let same : apply others p e ≡ apply replies p e = apply-alike others replies p e (λ r. agree e r is) in
          (λ i. step (union triple_cmp (meaning version) p.records) (union triple_cmp (meaning version) (same i).records) ∷ steps_applied version others (same i) (filter test es))
          ∙ ap (λ l. step (union triple_cmp (meaning version) p.records) (union triple_cmp (meaning version) (apply replies p e).records) ∷ l) (rest (apply replies p e))
      by false is rest = rest p

  module _ (h : Option ℕ) where
    -- up to a mark
    steps-delivered_reached : (ds : List Delivery) (d : Delivery) → AgreeReached (ds ++ d ∷ []) others replies → steps_of_delivery others (checkpoint h replies ds) d ≡ steps_of_delivery replies (checkpoint h replies ds) d
    steps-delivered_reached ds (Told e) agree = refl
    steps-delivered_reached ds (Ask q) agree = refl
    steps-delivered_reached ds (Mapping v) agree = refl
    steps-delivered_reached ds (Match q) agree = refl
    steps-delivered_reached ds (Watermark w) agree =
        steps_applied-alike (version_in_force ds) (is_due false (greater (mark ds) w)) (λ e r due. agree e r (ap (λ m. reached m e.time) (mark-watermark ds w) ∙ due))
        (following h replies ds).buffer.waiting (following h replies ds).played

    steps-reached : (ds : List Delivery) → AgreeReached ds others replies → steps_of_play h others ds ≡ steps_of_play h replies ds
    steps-reached = by_pushes (λ ds. AgreeReached ds others replies → steps_of_play h others ds ≡ steps_of_play h replies ds) (λ agree. refl)
        (λ ds d before agree.
        let earlier : AgreeReached ds others replies = λ e r is. agree e r (reached-push ds d e is) in
        steps_grow h others ds d
        ∙ (λ i. before earlier i ++ (ap (λ w. steps_of_delivery others (record (checkpoint h replies ds) { state = w }) d) (following-reached h others replies ds earlier) ∙ steps-delivered_reached ds d agree) i)
        ∙ sym (steps_grow h replies ds d))

    -- after a mark: what waits is applied alike
    steps-due_waiting : (ds : List Delivery) → AgreeWhere (waits (mark ds)) others replies → (closed : Bool) (m : Option ℤ) →
        let waiting = filter (is_due closed m) (in_order (filter (waits (mark ds)) (accepted h ds))) in
        steps_applied (version_in_force ds) others (play h others ds) waiting ≡ steps_applied (version_in_force ds) replies (play h others ds) waiting
    steps-due_waiting ds agree closed m =
        let waiting : filter (is_due closed m) (in_order (filter (waits (mark ds)) (accepted h ds))) ≡ filter (waits (mark ds)) (filter (is_due closed m) (in_order (accepted h ds))) =
        ap (filter (is_due closed m)) (sorted-filter event_cmp_total event_cmp_same (waits (mark ds)) (accepted h ds))
        ∙ filter_swap (is_due closed m) (waits (mark ds)) (in_order (accepted h ds)) in
        ap (steps_applied (version_in_force ds) others (play h others ds)) waiting
        ∙ steps_applied-alike (version_in_force ds) (waits (mark ds)) agree (filter (is_due closed m) (in_order (accepted h ds))) (play h others ds)
        ∙ sym (ap (steps_applied (version_in_force ds) replies (play h others ds)) waiting)

    steps-delivered_waiting : (ds : List Delivery) (d : Delivery) → AgreeWhere (waits (mark ds)) others replies → steps_of_delivery others (checkpoint h others ds) d ≡ steps_of_delivery replies (checkpoint h others ds) d
    steps-delivered_waiting ds (Told e) agree = refl
    steps-delivered_waiting ds (Ask q) agree = refl
    steps-delivered_waiting ds (Mapping v) agree = refl
    steps-delivered_waiting ds (Match q) agree = refl
    steps-delivered_waiting ds (Watermark w) agree = steps-due_waiting ds agree false (greater (mark ds) w)

    steps-waiting : (a : List Delivery) → AgreeWhere (waits (mark a)) others replies → (b : List Delivery) → steps_of_play h others (a ++ b) ≡ steps_of_play h others a ++ along steps_of_delivery replies (checkpoint h others a) b
    steps-waiting a agree = by_pushes (λ b. steps_of_play h others (a ++ b) ≡ steps_of_play h others a ++ along steps_of_delivery replies (checkpoint h others a) b)
        (ap (steps_of_play h others) (append-nil a) ∙ sym (append-nil (steps_of_play h others a)))
        (λ b d before.
        ap (steps_of_play h others) (sym (append_assoc a b (d ∷ [])))
        ∙ steps_grow h others (a ++ b) d
        ∙ (λ i. before i
        ++ (steps-delivered_waiting (a ++ b) d (λ e r is. agree e r (waits_earlier h others replies a b e is)) ∙ ap (λ c. steps_of_delivery replies c d) (checkpoint-waiting h others replies a agree b)) i)
        ∙ append_assoc (steps_of_play h others a) (along steps_of_delivery replies (checkpoint h others a) b) (steps_of_delivery replies (advanced_by replies (checkpoint h others a) b) d)
        ∙ ap (λ l. steps_of_play h others a ++ l) (sym (along-push steps_of_delivery replies (checkpoint h others a) b d)))

-- ---- both

module _ (h : Option ℕ) (first second : Replies) (a b : List Delivery) where
  abbrev both : Replies
  both = replies_of_runs (mark a) first second

  -- where the first run stands, the second's steps go on
  abbrev stands : Checkpoint
  stands = checkpoint h first a

  pub steps-two : steps_of_play h both (a ++ b) ≡ steps_of_play h first a ++ along steps_of_delivery second stands b
  steps-two =
      steps-waiting both second h a (both_second h first second a) b
      ∙ (λ i. steps-reached both first h a (both_first h first second a) i ++ along steps_of_delivery second (checkpoint_first h first second a i) b)

  pub steps_to_end-two : steps_to_end h both (a ++ b)
      ≡ steps_of_play h first a ++ (along steps_of_delivery second stands b ++ steps_due (advanced_by second stands b).version second (after_end (advanced_by second stands b).state))
  steps_to_end-two =
      ap (λ es. steps_of_play h both (a ++ b) ++ steps_applied (version_in_force (a ++ b)) both (play h both (a ++ b)) es) (newly_due-end h (a ++ b))
      ∙ (λ i. steps-two i
      ++ (steps-due_waiting both second h (a ++ b) (λ e r is. both_second h first second a e r (waits_earlier h both second a b e is)) true (mark (a ++ b))
      ∙ ap (λ (c : Checkpoint). steps_due c.version second (after_end c.state)) (checkpoint-two h first second a b)) i)
      ∙ append_assoc (steps_of_play h first a) (along steps_of_delivery second stands b) _

-- ---- their text

-- the stream of more steps is that of the first, and then that of the others, numbered on
pub stream-append : (xs ys : List Step) → stream_text (xs ++ ys) ≡ stream_text xs ++ stream_text_from (changes xs) ys
stream-append xs ys =
    let number : 1 + changes xs ≡ changes xs + 1 = omega arith in
    ap (λ l. flat_map record_text (numbered_from 1 l)) (filter-append is_change xs ys)
    ∙ ap (flat_map record_text) (numbered-append 1 (filter is_change xs) (filter is_change ys))
    ∙ flat_map-append record_text (numbered_from 1 (filter is_change xs)) (numbered_from (1 + changes xs) (filter is_change ys))
    ∙ ap (λ n. stream_text xs ++ flat_map record_text (numbered_from n (filter is_change ys))) number

pub changes-append : (xs ys : List Step) → changes (xs ++ ys) ≡ changes xs + changes ys
changes-append xs ys = ap length (filter-append is_change xs ys) ∙ length-append (filter is_change xs) (filter is_change ys)
