-- Definitions for the laws on runs without failures: a count that stands still, documents that are there, the triples of an entity, and the
-- steps of a run.
use Rattle.std.specs.Prelude.{◌≡◌, ◌⊎◌, ℕ, ◌-◌, ◌^◌, ◌<◌, Bool, true, false, IsSome, cond, List, [], Option, is_ok}
use Rattle.entity_model.specs.{declared.id.EntityId.EntityId, declared.event.Event.Event}
use Rattle.entity_state.specs.{declared.state.State.State, State.is_kept}
use Rattle.replay_model.specs.{Records.Bytes, Replies.Judgement, Replies.reply_there, Union.Meaning}
use Rattle.drill_replay.specs.Told.{keeps_page, triples_there}
use Rattle.patch_stream.specs.Stream.{Step}
use Rattle.arguments.specs.Options.{Choices, closes}
use Rattle.run_model.specs.{Headline.Ending, Headline.course_of, Moment.Moment, Moment.Run, Moment.start_of}

-- a run of these choices saves its world, at the end or on the way
abbrev pub IsSaving : Choices → Type 0
IsSaving choices = (closes choices ≡ false) ⊎ IsSome choices.every

-- a counter stayed the same and isn't saturated
pub record IsStill (before now : ℕ) : Type 0 where
  pub same : now ≡ before
  pub below : now < 2 ^ 64 - 1

-- whether a document of the entity is there at the revision
abbrev pub has_document : Judgement → (ℕ → Option Bytes) → EntityId → ℕ → Bool
has_document unfit contents x r = is_ok (reply_there unfit x (contents r))

-- where the event may say that its page is there, a document is there at its revision
abbrev pub FindsDocument : Judgement → (ℕ → Option Bytes) → Event → Type 0
FindsDocument unfit contents e = keeps_page e.kind ≡ true → has_document unfit contents e.entity e.rev ≡ true

-- the triples of an entity in a state: those of what is there at its revision if the page is kept, and none otherwise
abbrev pub triples_in : {Triple : Type 0} → Meaning Triple → (ℕ → Option Bytes) → EntityId → State → List Triple
triples_in meaning contents x s = cond (is_kept s.mode) (triples_there meaning contents x s.rev) []

-- the steps of a run that ended with Ok: those of its play, with the end of the deliveries if the input ends them. If changes are reported,
-- the output has their records
abbrev pub steps_made : (run : Run) (before now : Moment) → Ending run before now → List Step
steps_made run before now ending = (course_of run ending.replayed.deliveries (start_of run before)).steps ending.replayed.replay.played.replies
