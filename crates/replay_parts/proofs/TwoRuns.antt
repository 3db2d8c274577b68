-- Two runs, the second from the checkpoint of the first, are one run: a reply counts where the mark reaches its event.
use Rattle.std.proofs.Common.{◌≡◌, ℕ, ℤ, Bool, true, false, not, cond, List, [], ◌∷◌, ◌++◌, Option, filter, refl, sym, ◌∙◌, ap, append_assoc, append-nil}
use Rattle.std.proofs.lemmas.List.Sums.{fold_push}
use Rattle.rdf_term.specs.declared.triple.Triple.{Triple}
use Rattle.entity_model.specs.declared.event.Event.{Event}
use Rattle.entity_model.specs.Event.{event_cmp_total, event_cmp_same}
use Rattle.delivery.specs.declared.Delivery.{Delivery}
use Rattle.delivery.specs.declared.Delivery.TheVariants.{Event as Told, Watermark, Ask, Mapping, Match}
use Rattle.entity_model.specs.declared.mapping.MappingVersion.{MappingVersion}
use Rattle.entity_state.specs.State.{state_after}
use Rattle.sorted_sets.proofs.Bools.{clash}
use Rattle.sorted_sets.proofs.Filtering.{filter_swap, sorted-filter}
use Rattle.sorted_sets.proofs.Pushes.{by_pushes}
use Rattle.reorder_buffer.specs.Watermarks.{greater, reached, is_due}
use Rattle.replay_model.specs.Acceptance.{mark, accepted, version_in_force}
use Rattle.replay_model.specs.Fate.{in_order}
use Rattle.replay_model.specs.Play.{Replies, Played, apply, apply_all, play, play_to_end}
use Rattle.replay_model.specs.Records.{record_of}
use Rattle.replay_model.specs.ReplayState.{after_mark, after_end, after_due, delivered, ended, following, following_to_end}
use Rattle.replay_model.specs.Transcript.{Sections, question_of, said, closing_text, transcript}
use Rattle.replay_model.specs.Union.{Meaning}
use Rattle.replay_model.proofs.Deliveries.{mark-kept, mark-watermark}
use Rattle.replay_model.proofs.Following.{waits, following-delivered, following-end}
use Rattle.replay_model.proofs.Printing.{said-push}
use Rattle.replay_model.proofs.Times.{reached-greater}
use Rattle.replay_parts.specs.Checkpoint.{Checkpoint, checkpoint, advanced, advanced_by, answer_at, said_from, closing_at, transcript_from, replies_of_runs}
use Rattle.replay_parts.proofs.GoingOn.{checkpoint-advanced, answer_at-said}

-- the replies are the same at events that pass a test
abbrev pub AgreeWhere : (Event → Bool) → Replies → Replies → Type 0
AgreeWhere test others replies = (e : Event) (r : ℕ) → test e ≡ true → others e r ≡ replies e r

module _ (others replies : Replies) where
  pub apply-alike : (p : Played) (e : Event) → ((r : ℕ) → others e r ≡ replies e r) → apply others p e ≡ apply replies p e
  apply-alike p e same = λ i. apply (λ q n. same (state_after (record_of p.records e.entity).state e).rev i) p e

  apply_all-alike : (test : Event → Bool) → AgreeWhere test others replies → (es : List Event) (p : Played) → apply_all others p (filter test es) ≡ apply_all replies p (filter test es)
  apply_all-alike test agree [] p = refl
  apply_all-alike test agree (e ∷ es) p = by (test e) refl (apply_all-alike test agree es)
    where
      by : (b : Bool) → test e ≡ b → ((p : Played) → apply_all others p (filter test es) ≡ apply_all replies p (filter test es))
          → apply_all others p (cond b (e ∷ filter test es) (filter test es)) ≡ apply_all replies p (cond b (e ∷ filter test es) (filter test es))
      by true is rest = ap (λ q. apply_all others q (filter test es)) (apply-alike p e (λ r. agree e r is)) ∙ rest (apply replies p e)
      by false is rest = rest p

-- ---- up to a mark

-- what the mark reached stays reached
pub reached-push : (ds : List Delivery) (d : Delivery) (e : Event) → reached (mark ds) e.time ≡ true → reached (mark (ds ++ d ∷ [])) e.time ≡ true
reached-push ds (Told q) e h = ap (λ m. reached m e.time) (mark-kept ds (Told q) refl) ∙ h
reached-push ds (Watermark w) e h = ap (λ m. reached m e.time) (mark-watermark ds w) ∙ reached-greater (mark ds) w e.time h
reached-push ds (Ask q) e h = ap (λ m. reached m e.time) (mark-kept ds (Ask q) refl) ∙ h
reached-push ds (Mapping v) e h = ap (λ m. reached m e.time) (mark-kept ds (Mapping v) refl) ∙ h
reached-push ds (Match q) e h = ap (λ m. reached m e.time) (mark-kept ds (Match q) refl) ∙ h

abbrev pub AgreeReached : List Delivery → Replies → Replies → Type 0
AgreeReached ds others replies = AgreeWhere (λ e. reached (mark ds) e.time) others replies

module _ (hz : Option ℕ) (others replies : Replies) where
  delivered-reached : (ds : List Delivery) (d : Delivery) → AgreeReached (ds ++ d ∷ []) others replies → delivered others (following hz replies ds) d ≡ delivered replies (following hz replies ds) d
  delivered-reached ds (Told e) agree = refl
  delivered-reached ds (Ask q) agree = refl
  delivered-reached ds (Mapping v) agree = refl
  delivered-reached ds (Match q) agree = refl
  delivered-reached ds (Watermark w) agree =
      let before = after_mark (following hz replies ds) w in
      let same = apply_all-alike others replies (is_due false (greater (mark ds) w)) (λ e r due. agree e r (ap (λ m. reached m e.time) (mark-watermark ds w) ∙ due)) before.buffer.waiting before.played in
      λ i. record { buffer = (after_due replies before).buffer; played = same i }

  pub following-reached : (ds : List Delivery) → AgreeReached ds others replies → following hz others ds ≡ following hz replies ds
  following-reached = by_pushes (λ ds. AgreeReached ds others replies → following hz others ds ≡ following hz replies ds) (λ agree. refl)
      (λ ds d before agree.
      following-delivered hz others ds d
      ∙ ap (λ w. delivered others w d) (before (λ e r h. agree e r (reached-push ds d e h)))
      ∙ delivered-reached ds d agree
      ∙ sym (following-delivered hz replies ds d))

  module _ (meaning : MappingVersion → Meaning Triple) where
    said-reached : (ds : List Delivery) → AgreeReached ds others replies → said meaning hz others ds ≡ said meaning hz replies ds
    said-reached = by_pushes (λ ds. AgreeReached ds others replies → said meaning hz others ds ≡ said meaning hz replies ds) (λ agree. refl)
        (λ ds d before agree.
        let earlier : AgreeReached ds others replies = λ e r h. agree e r (reached-push ds d e h) in
        said-push hz meaning others ds d
        ∙ (λ i. before earlier i ++ (answer_at-said meaning hz others ds (question_of d) ∙ ap (λ w. answer_at meaning (record (checkpoint hz replies ds) { state = w }) (question_of d)) (following-reached ds earlier) ∙ sym (answer_at-said meaning hz replies ds (question_of d))) i)
        ∙ sym (said-push hz meaning replies ds d))

  -- ---- after a mark

  -- what waits is applied alike
  due-waiting : (ds : List Delivery) → AgreeWhere (waits (mark ds)) others replies → (closed : Bool) (m : Option ℤ) → let waiting = filter (is_due closed m) (in_order (filter (waits (mark ds)) (accepted hz ds))) in apply_all others (play hz others ds) waiting ≡ apply_all replies (play hz others ds) waiting
  due-waiting ds agree closed m =
      let waiting : filter (is_due closed m) (in_order (filter (waits (mark ds)) (accepted hz ds))) ≡ filter (waits (mark ds)) (filter (is_due closed m) (in_order (accepted hz ds))) =
      ap (filter (is_due closed m)) (sorted-filter event_cmp_total event_cmp_same (waits (mark ds)) (accepted hz ds))
      ∙ filter_swap (is_due closed m) (waits (mark ds)) (in_order (accepted hz ds)) in
      ap (apply_all others (play hz others ds)) waiting
      ∙ apply_all-alike others replies (waits (mark ds)) agree (filter (is_due closed m) (in_order (accepted hz ds))) (play hz others ds)
      ∙ sym (ap (apply_all replies (play hz others ds)) waiting)

  delivered-waiting : (ds : List Delivery) (d : Delivery) → AgreeWhere (waits (mark ds)) others replies → delivered others (following hz others ds) d ≡ delivered replies (following hz others ds) d
  delivered-waiting ds (Told e) agree = refl
  delivered-waiting ds (Ask q) agree = refl
  delivered-waiting ds (Mapping v) agree = refl
  delivered-waiting ds (Match q) agree = refl
  delivered-waiting ds (Watermark w) agree = λ i. record { buffer = (after_due replies (after_mark (following hz others ds) w)).buffer; played = due-waiting ds agree false (greater (mark ds) w) i }

  ended-waiting : (ds : List Delivery) → AgreeWhere (waits (mark ds)) others replies → ended others (following hz others ds) ≡ ended replies (following hz others ds)
  ended-waiting ds agree = λ i. record { buffer = (after_due replies (after_end (following hz others ds))).buffer; played = due-waiting ds agree true (mark ds) i }

  -- what waits after more deliveries wasn't reached before
  pub waits_earlier : (a b : List Delivery) (e : Event) → waits (mark (a ++ b)) e ≡ true → waits (mark a) e ≡ true
  waits_earlier a b e h = by (reached (mark a) e.time) refl
    where
      later : reached (mark a) e.time ≡ true → (b : List Delivery) → reached (mark (a ++ b)) e.time ≡ true
      later r = by_pushes (λ b. reached (mark (a ++ b)) e.time ≡ true) (ap (λ l. reached (mark l) e.time) (append-nil a) ∙ r)
          (λ b d before. ap (λ l. reached (mark l) e.time) (sym (append_assoc a b (d ∷ []))) ∙ reached-push (a ++ b) d e before)

      by : (t : Bool) → reached (mark a) e.time ≡ t → not t ≡ true
      by false r = refl
      by true r = clash h (ap not (later r b))

  -- from a list of deliveries on, other replies lead where these lead, if they agree on what its mark didn't reach
  pub checkpoint-waiting : (a : List Delivery) → AgreeWhere (waits (mark a)) others replies → (b : List Delivery) → checkpoint hz others (a ++ b) ≡ advanced_by replies (checkpoint hz others a) b
  checkpoint-waiting a agree = by_pushes (λ b. checkpoint hz others (a ++ b) ≡ advanced_by replies (checkpoint hz others a) b) (ap (checkpoint hz others) (append-nil a))
      (λ b d before.
      ap (checkpoint hz others) (sym (append_assoc a b (d ∷ [])))
      ∙ checkpoint-advanced hz others (a ++ b) d
      ∙ ap (λ w. record (advanced replies (checkpoint hz others (a ++ b)) d) { state = w }) (delivered-waiting (a ++ b) d (λ e r h. agree e r (waits_earlier a b e h)))
      ∙ ap (λ c. advanced replies c d) before
      ∙ sym (fold_push (advanced replies) (checkpoint hz others a) b d))

  module _ (meaning : MappingVersion → Meaning Triple) where
    said_from-push : (c : Checkpoint) (b : List Delivery) (d : Delivery) → said_from meaning replies c (b ++ d ∷ []) ≡ said_from meaning replies c b ++ answer_at meaning (advanced_by replies c b) (question_of d)
    said_from-push c [] d = append-nil (answer_at meaning c (question_of d))
    said_from-push c (q ∷ b) d =
        ap (λ l. answer_at meaning c (question_of q) ++ l) (said_from-push (advanced replies c q) b d)
        ∙ sym (append_assoc (answer_at meaning c (question_of q)) (said_from meaning replies (advanced replies c q) b) (answer_at meaning (advanced_by replies (advanced replies c q) b) (question_of d)))

    said-waiting : (a : List Delivery) → AgreeWhere (waits (mark a)) others replies → (b : List Delivery) → said meaning hz others (a ++ b) ≡ said meaning hz others a ++ said_from meaning replies (checkpoint hz others a) b
    said-waiting a agree = by_pushes (λ b. said meaning hz others (a ++ b) ≡ said meaning hz others a ++ said_from meaning replies (checkpoint hz others a) b)
        (ap (said meaning hz others) (append-nil a) ∙ sym (append-nil (said meaning hz others a)))
        (λ b d before.
        ap (said meaning hz others) (sym (append_assoc a b (d ∷ [])))
        ∙ said-push hz meaning others (a ++ b) d
        ∙ (λ i. before i ++ (answer_at-said meaning hz others (a ++ b) (question_of d) ∙ ap (λ c. answer_at meaning c (question_of d)) (checkpoint-waiting a agree b)) i)
        ∙ append_assoc (said meaning hz others a) (said_from meaning replies (checkpoint hz others a) b) (answer_at meaning (advanced_by replies (checkpoint hz others a) b) (question_of d))
        ∙ ap (λ l. said meaning hz others a ++ l) (sym (said_from-push (checkpoint hz others a) b d)))

-- ---- both

module _ (hz : Option ℕ) (first second : Replies) (a : List Delivery) where
  abbrev pub both : Replies
  both = replies_of_runs (mark a) first second

  pub both_first : AgreeReached a both first
  both_first e r is = ap (λ b. cond b (first e r) (second e r)) is

  pub both_second : AgreeWhere (waits (mark a)) both second
  both_second e r is = by (reached (mark a) e.time) is
    where
      by : (b : Bool) → not b ≡ true → cond b (first e r) (second e r) ≡ second e r
      by true h = clash h refl
      by false h = refl

  pub checkpoint_first : checkpoint hz both a ≡ checkpoint hz first a
  checkpoint_first = ap (λ w. record (checkpoint hz first a) { state = w }) (following-reached hz both first a both_first)

  -- the second run goes on from the first one's checkpoint, and both are one run
  pub checkpoint-two : (b : List Delivery) → checkpoint hz both (a ++ b) ≡ advanced_by second (checkpoint hz first a) b
  checkpoint-two b = checkpoint-waiting hz both second a both_second b ∙ ap (λ c. advanced_by second c b) checkpoint_first

  pub following_to_end-two : (b : List Delivery) → following_to_end hz both (a ++ b) ≡ ended second (advanced_by second (checkpoint hz first a) b).state
  following_to_end-two b =
      following-end hz both (a ++ b)
      ∙ ended-waiting hz both second (a ++ b) (λ e r h. both_second e r (waits_earlier hz both second a b e h))
      ∙ ap (λ (c : Checkpoint). ended second c.state) (checkpoint-two b)

  module _ (meaning : MappingVersion → Meaning Triple) where
    pub said-two : (b : List Delivery) → said meaning hz both (a ++ b) ≡ said meaning hz first a ++ said_from meaning second (checkpoint hz first a) b
    said-two b =
        said-waiting hz both second meaning a both_second b
        ∙ (λ i. said-reached hz both first meaning a both_first i ++ said_from meaning second (checkpoint_first i) b)

    pub transcript-two : (sections : Sections) (b : List Delivery) → transcript meaning hz sections both (a ++ b) ≡ said meaning hz first a ++ transcript_from meaning sections second (checkpoint hz first a) b
    transcript-two sections b =
        let last = advanced_by second (checkpoint hz first a) b in
        (λ i. said-two b i ++ closing i)
        ∙ append_assoc (said meaning hz first a) (said_from meaning second (checkpoint hz first a) b) (closing_at meaning sections second last)
      where
        closing : closing_text meaning (version_in_force (a ++ b)) sections (play_to_end hz both (a ++ b)) ≡ closing_at meaning sections second (advanced_by second (checkpoint hz first a) b)
        closing = λ i. closing_text meaning (checkpoint-two b i).version sections (following_to_end-two b i).played
