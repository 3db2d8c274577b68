-- The application of one due event.
use Rattle.std.specs.Prelude.{◌≡◌, ℕ, cond, List, Option, None, Some, Result, Ok, Err, ⊤}
use Rattle.entity_model.specs.declared.event.Event.{Event}
use Rattle.entity_state.specs.{declared.record.Held.Held, declared.state.Mode.Mode, declared.state.State.State}
use Rattle.entity_state.specs.{declared.record.Record.Record, State.state_after, State.is_deleted, Record.held_revision, Record.wants}
use Rattle.entity_state.specs.declared.entry.Cause.{Cause}
use Rattle.revisions.specs.Revisions.{Contents, counted}
use Rattle.reorder_buffer.specs.Buffered.{first_due, after_dropping}
use Rattle.replay_model.specs.{Records.Bytes, Records.record_of, Play.apply, ReplayState.ReplayState}
pub use Rattle.fetched_pages.specs.Reply.{IsReply}
use Rattle.fetched_pages.specs.Reply.{ShowsReply}
use Rattle.term_pool.specs.declared.fault.PoolFault.{PoolFault}
use Rattle.term_pool.specs.declared.fault.PoolFault.TheVariants.{Full as StoreFull, OutOfMemory as StoreOutOfMemory}
use Rattle.world.specs.{declared.applied.AppliedEvent.AppliedEvent, declared.applied.Outcome.Outcome, declared.applied.WorldFault.WorldFault}
use Rattle.world.specs.declared.applied.WorldFault.TheVariants.{Full, OutOfMemory}
use Rattle.world.specs.declared.applied.Outcome.TheVariants.{Same, Stored, Dropped, Sided}

-- what a fetch's reply leads to
abbrev pub outcome_of_reply : Result Bytes Cause → Outcome
outcome_of_reply (Ok bytes) = Stored
outcome_of_reply (Err cause) = Sided cause

-- what an event leads to, by the state after it and what was held
abbrev pub outcome_of : State → Option ℕ → Result Bytes Cause → Outcome
outcome_of s held reply = cond (wants s held) (outcome_of_reply reply) (cond (is_deleted s.mode) Dropped Same)

-- what is held if nothing was fetched: nothing of a page that was deleted, and what was held otherwise
abbrev pub unless_deleted : Mode → Option (Held Bytes) → Option (Held Bytes)
unless_deleted mode held = cond (is_deleted mode) None held

-- what an event leads to where nothing was fetched
abbrev pub unfetched_outcome : Mode → Outcome
unfetched_outcome mode = cond (is_deleted mode) Dropped Same

-- what an event leads to, by the record before it
abbrev pub outcome_after : Record Bytes → Event → Result Bytes Cause → Outcome
outcome_after r e reply = outcome_of (state_after r.state e) (held_revision r.held) reply

-- the least due event was applied, with this reply to its fetch if it made one
pub record Applies (known : Option Contents) (folder : List ℕ) (old new : ReplayState) (applied : AppliedEvent) : Type 0 where
  pub due : first_due old.buffer ≡ Some applied.event
  pub reply : Result Bytes Cause
  pub is_reply : IsReply known folder applied.event.entity (state_after (record_of old.played.records applied.event.entity).state applied.event).rev reply
  pub new_is : new ≡ record { buffer = after_dropping old.buffer; played = apply (λ e r. reply) old.played applied.event }
  pub outcome : applied.outcome ≡ outcome_after (record_of old.played.records applied.event.entity) applied.event reply

-- the counts that show an outcome: nothing was found, or the call failed
abbrev pub IsShown : Outcome → ℕ → ℕ → ℕ → ℕ → Type 0
IsShown Same misses misses_now faults faults_now = ⊤
IsShown Stored misses misses_now faults faults_now = ⊤
IsShown Dropped misses misses_now faults faults_now = ⊤
IsShown (Sided cause) misses misses_now faults faults_now = ShowsReply (Err cause) misses misses_now faults faults_now

-- the count of calls after the event: one more where its outcome shows a fetch
abbrev pub calls_after : Outcome → ℕ → ℕ
calls_after Same calls = calls
calls_after Stored calls = counted calls
calls_after Dropped calls = calls
calls_after (Sided cause) calls = counted calls

-- what a fault of the store is to a world
abbrev pub fault_of_store : PoolFault → WorldFault
fault_of_store StoreFull = Full
fault_of_store StoreOutOfMemory = OutOfMemory
