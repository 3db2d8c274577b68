-- A run that begins where nothing was delivered: what its deliveries make from there on is what their play makes.
use Rattle.std.proofs.Common.{◌≡◌, refl, sym, ◌∙◌, ap, ℕ, Bool, true, false, List, [], ◌∷◌, ◌++◌, append_assoc, append-nil, Option, None, Some}
use Rattle.delivery.specs.declared.Delivery.{Delivery}
use Rattle.delivery.specs.declared.Delivery.TheVariants.{Event as Told, Watermark, Ask, Mapping, Match}
use Rattle.replay_model.specs.{Acceptance.version_in_force, Play.Replies, Play.fetches, Play.fetches_to_end, Play.play, Play.played}
use Rattle.replay_model.specs.ReplayState.{ReplayState, after_end, ended, fetches_due, following, following_to_end, nothing_delivered, nothing_delivered_within}
use Rattle.replay_model.specs.Transcript.{Question, answer_said, question_of, said}
use Rattle.replay_model.proofs.FetchCounts.{fetches-delivered, fetches-end}
use Rattle.replay_model.proofs.{Following.following-end, Following.newly_due-end, Following.newly_due-watermark, Printing.said-push}
use Rattle.replay_parts.specs.Checkpoint.{Checkpoint, advanced, checkpoint}
use Rattle.replay_parts.proofs.GoingOn.{checkpoint-advanced, checkpoint-append}
use Rattle.graph_routes.specs.declared.routes.Route.{Route}
use Rattle.fetched_pages.specs.Meaning.{meaning}
use Rattle.patch_stream.specs.Stream.{Step, steps_applied, steps_due, steps_of_play, steps_to_end, stream_text}
use Rattle.patch_stream.proofs.Streams.{steps-push}
use Rattle.snapshot.specs.declared.counts.Counts.{Counts}
use Rattle.run_model.specs.Course.{along, fetches_of_delivery, state_along, steps_of_delivery, stream_text_from, version_since, answer_by, answer_of_delivery, said_by, course_ended, course_to_end, led_to, version_at}
use Rattle.run_model.specs.{Moment.Beginning, Moment.IsFirst, Moment.horizon_at, Moment.standing, OneRun.said_from_start}
use Rattle.run_model.proofs.Along.{version-along}

-- a world to which nothing was delivered
pub still_nothing : (w : ReplayState) → w ≡ nothing_delivered → w ≡ nothing_delivered_within w.buffer.horizon
still_nothing w is = is ∙ ap (λ (s : ReplayState). nothing_delivered_within s.buffer.horizon) (sym is)

-- where a run stands whose horizon this is
first_standing : (start : Beginning) → IsFirst start → (replies : Replies) → standing start ≡ checkpoint (horizon_at start) replies []
first_standing start first replies = λ i. record { state = first.world i; version = first.mapping i; asked = (first.numbered i).asks; matched = (first.numbered i).matches }

pub led_first : (start : Beginning) → IsFirst start → (replies : Replies) (ds : List Delivery) → led_to ds start replies ≡ following (horizon_at start) replies ds
led_first start first replies ds =
    ap (λ c. state_along replies c ds) (first_standing start first replies) ∙ sym (ap (λ (c : Checkpoint). c.state) (checkpoint-append (horizon_at start) replies [] ds))

pub ended_first : (start : Beginning) → IsFirst start → (replies : Replies) (ds : List Delivery) → ended replies (led_to ds start replies) ≡ following_to_end (horizon_at start) replies ds
ended_first start first replies ds = ap (ended replies) (led_first start first replies ds) ∙ sym (following-end (horizon_at start) replies ds)

pub version_first : (start : Beginning) → IsFirst start → (replies : Replies) (ds : List Delivery) → version_at ds start ≡ version_in_force ds
version_first start first replies ds =
    ap (λ v. version_since v ds) first.mapping
    ∙ sym (version-along replies (checkpoint (horizon_at start) replies []) ds)
    ∙ sym (ap (λ (c : Checkpoint). c.version) (checkpoint-append (horizon_at start) replies [] ds))

-- what was played where the play of a first run leads
pub state_played : (routes : Option (List Route)) (closed : Bool) (ds : List Delivery) (start : Beginning) → IsFirst start → (replies : Replies) → ((course_ended routes closed ds start).state replies).played ≡ played (horizon_at start) closed replies ds
state_played routes true ds start first replies = ap (λ (w : ReplayState). w.played) (ended_first start first replies ds)
state_played routes false ds start first replies = ap (λ (w : ReplayState). w.played) (led_first start first replies ds)

-- ---- what the deliveries make

-- a list that grows with each delivery by what that one makes at the checkpoint before it grows so from any checkpoint on
module _ {A : Type 0} (h : Option ℕ) (replies : Replies) (made : Replies → Checkpoint → Delivery → List A) (f : List Delivery → List A)
    (grows : (ds : List Delivery) (d : Delivery) → f (ds ++ d ∷ []) ≡ f ds ++ made replies (checkpoint h replies ds) d) where
  pub grown : (a b : List Delivery) → f (a ++ b) ≡ f a ++ along made replies (checkpoint h replies a) b
  grown a [] = ap f (append-nil a) ∙ sym (append-nil (f a))
  grown a (d ∷ b) =
      ap f (sym (append_assoc a (d ∷ []) b))
      ∙ grown (a ++ d ∷ []) b
      ∙ ap (λ l. l ++ along made replies (checkpoint h replies (a ++ d ∷ [])) b) (grows a d)
      ∙ ap (λ c. (f a ++ made replies (checkpoint h replies a) d) ++ along made replies c b) (checkpoint-advanced h replies a d)
      ∙ append_assoc (f a) (made replies (checkpoint h replies a) d) (along made replies (advanced replies (checkpoint h replies a) d) b)

  -- and from the first
  grown_first : (start : Beginning) → IsFirst start → horizon_at start ≡ h → f [] ≡ [] → (ds : List Delivery) → along made replies (standing start) ds ≡ f ds
  grown_first start first same none ds =
      ap (λ c. along made replies c ds) (first_standing start first replies ∙ ap (λ hz. checkpoint hz replies []) same)
      ∙ sym (grown [] ds ∙ ap (λ l. l ++ along made replies (checkpoint h replies []) ds) none)

-- a play grows so
fetches_grow : (h : Option ℕ) (replies : Replies) (ds : List Delivery) (d : Delivery) → fetches h replies (ds ++ d ∷ []) ≡ fetches h replies ds ++ fetches_of_delivery replies (checkpoint h replies ds) d
fetches_grow h replies ds d = fetches-delivered h replies ds d

pub steps_grow : (h : Option ℕ) (replies : Replies) (ds : List Delivery) (d : Delivery) → steps_of_play h replies (ds ++ d ∷ []) ≡ steps_of_play h replies ds ++ steps_of_delivery replies (checkpoint h replies ds) d
steps_grow h replies ds (Told e) = steps-push h replies ds (Told e)
steps_grow h replies ds (Watermark m) = steps-push h replies ds (Watermark m) ∙ ap (λ es. steps_of_play h replies ds ++ steps_applied (version_in_force ds) replies (play h replies ds) es) (newly_due-watermark h ds m)
steps_grow h replies ds (Ask q) = steps-push h replies ds (Ask q)
steps_grow h replies ds (Match q) = steps-push h replies ds (Match q)
steps_grow h replies ds (Mapping v) = steps-push h replies ds (Mapping v)

answer_grows : (h : Option ℕ) (replies : Replies) (ds : List Delivery) (question : Option Question) → answer_said meaning h replies ds question ≡ answer_by None (checkpoint h replies ds) question
answer_grows h replies ds None = refl
answer_grows h replies ds (Some question) = refl

said_grows : (h : Option ℕ) (replies : Replies) (ds : List Delivery) (d : Delivery) → said meaning h replies (ds ++ d ∷ []) ≡ said meaning h replies ds ++ answer_of_delivery None replies (checkpoint h replies ds) d
said_grows h replies ds d = said-push h meaning replies ds d ∙ ap (λ l. said meaning h replies ds ++ l) (answer_grows h replies ds (question_of d))

module _ (start : Beginning) (first : IsFirst start) (replies : Replies) (ds : List Delivery) where
  pub fetches_first : along fetches_of_delivery replies (standing start) ds ≡ fetches (horizon_at start) replies ds
  fetches_first = grown_first (horizon_at start) replies fetches_of_delivery (fetches (horizon_at start) replies) (fetches_grow (horizon_at start) replies) start first refl refl ds

  pub steps_first : along steps_of_delivery replies (standing start) ds ≡ steps_of_play (horizon_at start) replies ds
  steps_first = grown_first (horizon_at start) replies steps_of_delivery (steps_of_play (horizon_at start) replies) (steps_grow (horizon_at start) replies) start first refl refl ds

  pub said_first : said_by None replies (standing start) ds ≡ said meaning (horizon_at start) replies ds
  said_first = grown_first (horizon_at start) replies (answer_of_delivery None) (said meaning (horizon_at start) replies) (said_grows (horizon_at start) replies) start first refl refl ds

  pub said_by_first : (routes : Option (List Route)) → said_by routes replies (standing start) ds ≡ said_from_start routes (horizon_at start) replies ds
  said_by_first routes = ap (λ c. said_by routes replies c ds) (first_standing start first replies)

  -- with the end of the input
  pub fetches_end_first : (routes : Option (List Route)) → (course_to_end routes ds start).fetched replies ≡ fetches_to_end (horizon_at start) replies ds
  fetches_end_first routes = (λ i. fetches_first i ++ fetches_due replies (after_end (led_first start first replies ds i))) ∙ sym (fetches-end (horizon_at start) replies ds)

  pub steps_end_first : (routes : Option (List Route)) → (course_to_end routes ds start).steps replies ≡ steps_to_end (horizon_at start) replies ds
  steps_end_first routes =
      (λ i. steps_first i ++ steps_due (version_first start first replies ds i) replies (after_end (led_first start first replies ds i)))
      ∙ sym (ap (λ es. steps_of_play (horizon_at start) replies ds ++ steps_applied (version_in_force ds) replies (play (horizon_at start) replies ds) es) (newly_due-end (horizon_at start) ds))

-- the stream of a first run is numbered from 1 on
pub stream_first : (start : Beginning) → IsFirst start → (steps : List Step) → stream_text_from start.numbered.patches steps ≡ stream_text steps
stream_first start first steps = ap (λ (n : Counts). stream_text_from n.patches steps) first.numbered
