-- Where there is no room for the terms of a page.
use Rattle.std.specs.Prelude.{◌≡◌, ℕ, true, ◌<◌, List, Option, None, Some, Result, Ok}
use Rattle.entity_model.specs.{declared.id.EntityId.EntityId, declared.event.Event.Event, declared.mapping.MappingVersion.MappingVersion}
use Rattle.entity_state.specs.{Standing.standing_after, Standing.standing_of, Standing.standing_wants, State.state_after}
use Rattle.reorder_buffer.specs.Buffered.{first_due}
use Rattle.revisions.specs.Revisions.{Contents}
use Rattle.entity_state.specs.declared.entry.Cause.{Cause}
use Rattle.entity_state.specs.declared.record.Held.{Held}
use Rattle.replay_model.specs.{Records.Bytes, Records.record_of, Versions.meaning_by}
use Rattle.fetched_pages.specs.{Reply.IsReply, Meaning.meaning}
use Rattle.world.specs.{Held.HeldState, Held.needs_in, Limit.needs, WorldState.WorldState, WorldState.next_stale}

-- how many distinct terms the stored triples of a world have together with those that are stored of what x is to hold, mapped by the version in force
abbrev pub needs_now : WorldState → EntityId → Option (Held Bytes) → ℕ
needs_now w x held = needs w.limit.lean (meaning_by meaning w.by_two) (meaning w.mapping) w.replay.played.records x held

-- the same of the page of an entity, if there is one, which is mapped by the version in force then
abbrev pub needs_at : WorldState → Option EntityId → ℕ
needs_at w None = 0
needs_at w (Some x) = needs_now w x (record_of w.replay.played.records x).held

-- the same of the page of the least stale entity
abbrev pub needs_anew : WorldState → ℕ
needs_anew w = needs_at w (next_stale w)

-- the reply is a page of a revision of x for which there is no room, mapped by this version
pub record Overfills (old : HeldState) (mapping : MappingVersion) (x : EntityId) (rev : ℕ) (reply : Result Bytes Cause) : Type 0 where
  pub bytes : Bytes
  pub is : reply ≡ Ok bytes
  pub over : old.limit.terms < needs_in old mapping x (Some (record { revision = rev; content = bytes }))

-- the least due event wants a page that a source may give, and for which there is no room
pub record IsOverfull (known : Option Contents) (folder : List ℕ) (old : WorldState) : Type 0 where
  pub event : Event
  pub due : first_due old.replay.buffer ≡ Some event
  pub wanted : standing_wants (standing_after (standing_of (record_of old.replay.played.records event.entity)) event) ≡ true
  pub bytes : Bytes
  pub is_reply : IsReply known folder event.entity (state_after (record_of old.replay.played.records event.entity).state event).rev (Ok bytes)
  pub over : old.limit.terms < needs_now old event.entity (Some (record { revision = (state_after (record_of old.replay.played.records event.entity).state event).rev; content = bytes }))
