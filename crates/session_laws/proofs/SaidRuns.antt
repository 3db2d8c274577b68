-- What is said at the deliveries of two runs, the second from the checkpoint of the first, is what one replay says at all of them.
use Rattle.std.proofs.Common.{◌≡◌, refl, sym, ◌∙◌, ap, ℕ, List, [], ◌∷◌, ◌++◌, append_assoc, append-nil, Option}
use Rattle.sorted_sets.proofs.Pushes.{by_pushes}
use Rattle.delivery.specs.declared.Delivery.{Delivery}
use Rattle.replay_model.specs.{Acceptance.mark, Play.Replies, Transcript.question_of}
use Rattle.replay_model.proofs.Following.{waits}
use Rattle.replay_parts.specs.Checkpoint.{advanced_by, checkpoint, checkpoint_at_start}
use Rattle.replay_parts.proofs.GoingOn.{checkpoint-append}
use Rattle.replay_parts.proofs.TwoRuns.{AgreeReached, AgreeWhere, both, both_first, both_second, checkpoint-waiting, checkpoint_first, following-reached, reached-push}
use Rattle.graph_routes.specs.declared.routes.Route.{Route}
use Rattle.run_model.specs.{Course.answer_by, Course.answer_of_delivery, Course.said_by, OneRun.said_from_start}
use Rattle.run_model.proofs.Along.{along-push}

module _ (routes : Option (List Route)) (h : Option ℕ) where
  -- one delivery more adds its answer
  said_start-push : (replies : Replies) (ds : List Delivery) (d : Delivery) → said_from_start routes h replies (ds ++ d ∷ []) ≡ said_from_start routes h replies ds ++ answer_by routes (checkpoint h replies ds) (question_of d)
  said_start-push replies ds d =
      along-push (answer_of_delivery routes) replies (checkpoint_at_start h) ds d
      ∙ ap (λ c. said_from_start routes h replies ds ++ answer_by routes c (question_of d)) (sym (checkpoint-append h replies [] ds))

  -- replies that agree on what the mark reached say the same
  said_start-reached : (others replies : Replies) (ds : List Delivery) → AgreeReached ds others replies → said_from_start routes h others ds ≡ said_from_start routes h replies ds
  said_start-reached others replies = by_pushes (λ ds. AgreeReached ds others replies → said_from_start routes h others ds ≡ said_from_start routes h replies ds) (λ agree. refl)
      (λ ds d before agree.
      let earlier : AgreeReached ds others replies = λ e r there. agree e r (reached-push ds d e there) in
      said_start-push others ds d
      ∙ (λ i. before earlier i ++ answer_by routes (record (checkpoint h replies ds) { state = following-reached h others replies ds earlier i }) (question_of d))
      ∙ sym (said_start-push replies ds d))

  -- from these deliveries on, other replies say what these say, if they agree on what the mark didn't reach
  said_start-waiting : (others replies : Replies) (a : List Delivery) → AgreeWhere (waits (mark a)) others replies → (b : List Delivery)
      → said_from_start routes h others (a ++ b) ≡ said_from_start routes h others a ++ said_by routes replies (checkpoint h others a) b
  said_start-waiting others replies a agree = by_pushes (λ b. said_from_start routes h others (a ++ b) ≡ said_from_start routes h others a ++ said_by routes replies (checkpoint h others a) b)
      (ap (said_from_start routes h others) (append-nil a) ∙ sym (append-nil (said_from_start routes h others a)))
      (λ b d before.
      ap (said_from_start routes h others) (sym (append_assoc a b (d ∷ [])))
      ∙ said_start-push others (a ++ b) d
      ∙ (λ i. before i ++ answer_by routes (checkpoint-waiting h others replies a agree b i) (question_of d))
      ∙ append_assoc (said_from_start routes h others a) (said_by routes replies (checkpoint h others a) b) (answer_by routes (advanced_by replies (checkpoint h others a) b) (question_of d))
      ∙ ap (λ l. said_from_start routes h others a ++ l) (sym (along-push (answer_of_delivery routes) replies (checkpoint h others a) b d)))

  -- both
  pub said_start-two : (first second : Replies) (a b : List Delivery) → said_from_start routes h (both h first second a) (a ++ b) ≡ said_from_start routes h first a ++ said_by routes second (checkpoint h first a) b
  said_start-two first second a b =
      said_start-waiting (both h first second a) second a (both_second h first second a) b
      ∙ (λ i. said_start-reached (both h first second a) first a (both_first h first second a) i ++ said_by routes second (checkpoint_first h first second a i) b)
