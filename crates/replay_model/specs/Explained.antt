-- When the state of a replay that fetches from a source is that of a play, and what a play over told contents replies.
use Rattle.std.specs.Prelude.{◌≡◌, ℕ, ◌+◌, length, List, Bool, true, not, ◌&&◌, ◌⊎◌, Option, Some, Result, Err}
use Rattle.sorted_sets.specs.Rising.{has, IsRising}
use Rattle.entity_model.specs.declared.event.Event.{Event}
use Rattle.entity_model.specs.Event.{event_cmp}
use Rattle.entity_state.specs.declared.entry.Cause.{Cause}
use Rattle.entity_state.specs.declared.entry.Cause.TheVariants.{Failed}
use Rattle.entity_state.specs.State.{state_after}
use Rattle.entity_state.specs.Record.{held_revision, wants}
use Rattle.reorder_buffer.specs.Watermarks.{is_due}
use Rattle.replay_model.specs.Play.{Replies, Fetch, fetches, fetches_to_end}
use Rattle.replay_model.specs.Records.{Bytes, record_of}
use Rattle.replay_model.specs.Replies.{GivesDocument, Judgement, reply_there, source_replies, failed_events}
use Rattle.delivery.specs.declared.Delivery.{Delivery}
use Rattle.replay_model.specs.ReplayState.{ReplayState, after_due, fetches_due, following, following_to_end}

-- whether what is replied to the event is settled: it is due by the mark and doesn't wait
abbrev pub is_applied : ReplayState → Event → Bool
is_applied w e = is_due w.buffer.closed w.buffer.mark e && not (has event_cmp e w.buffer.waiting)

-- others reply as these do to each event whose replies are settled
abbrev pub AgreeOnApplied : ReplayState → Replies → Replies → Type 0
AgreeOnApplied w replies others = (e : Event) (r : ℕ) → is_applied w e ≡ true → others e r ≡ replies e r

-- the revision that the application of an event would fetch
abbrev pub revision_wanted : ReplayState → Event → ℕ
revision_wanted w e = (state_after (record_of w.played.records e.entity).state e).rev

-- whether the application of an event fetches
abbrev pub is_fetching : ReplayState → Event → Bool
is_fetching w e = wants (state_after (record_of w.played.records e.entity).state e) (held_revision (record_of w.played.records e.entity).held)

-- a reply that a source with these contents may give to the fetch for an event: the fetch failed, or this is what is there
abbrev pub IsHonest : Judgement → (ℕ → Option Bytes) → Event → ℕ → Result Bytes Cause → Type 0
IsHonest unfit contents e r reply = (reply ≡ Err Failed) ⊎ (reply ≡ reply_there unfit e.entity (contents r))

-- the state leads, when all due events are applied, to that of a play with some replies
pub record Explained (unfit : Judgement) (known : Option (ℕ → Option Bytes)) (play_of : Replies → ReplayState) (fetches_of : Replies → List Fetch) (made : ℕ) (w : ReplayState) : Type 0 where
  -- the replies
  pub replies : Replies
  -- the waiting events are in order
  pub rises : IsRising event_cmp w.buffer.waiting
  -- the state leads to the play's, whatever is replied to events that wait or come later
  pub leads : (others : Replies) → AgreeOnApplied w replies others → after_due others w ≡ play_of others
  -- the fetches made so far, with those still to be made, are as many as the play's
  pub counts : (others : Replies) → AgreeOnApplied w replies others → made + length (fetches_due others w) ≡ length (fetches_of others)
  -- if the contents are told, the replies are those of the contents and of the failed events that the side output names
  pub honest : (contents : ℕ → Option Bytes) → known ≡ Some contents → (e : Event) (r : ℕ) →
      replies e r ≡ source_replies unfit contents (failed_events w.played.side) e r
  -- each reply that gives bytes gives a document
  pub fit : (e : Event) (r : ℕ) → GivesDocument unfit e.entity (replies e r)
  -- fetches failed only for applied events
  pub failed_applied : (e : Event) → has event_cmp e (failed_events w.played.side) ≡ true → is_applied w e ≡ true

-- explained by the play of a list of deliveries with this horizon
abbrev pub ExplainedAfter : Option ℕ → Judgement → Option (ℕ → Option Bytes) → List Delivery → ℕ → ReplayState → Type 0
ExplainedAfter h unfit known ds made w = Explained unfit known (λ replies. following h replies ds) (λ replies. fetches h replies ds) made w

-- explained by the play of a list of deliveries and the end of the input
abbrev pub ExplainedToEnd : Option ℕ → Judgement → Option (ℕ → Option Bytes) → List Delivery → ℕ → ReplayState → Type 0
ExplainedToEnd h unfit known ds made w = Explained unfit known (λ replies. following_to_end h replies ds) (λ replies. fetches_to_end h replies ds) made w
