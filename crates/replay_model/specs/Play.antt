-- The replay of a list of deliveries, with a horizon or none, where each fetch gives what a function of the applied event and the
-- revision says.
use Rattle.std.specs.Prelude.{ℕ, Bool, false, true, not, cond, List, [], ◌∷◌, ◌++◌, Option, None, Some, Result, Ok, Err, fold, filter, flat_map, max, min, ◌+◌, ◌-◌, ◌^◌}
use Rattle.std.specs.FinMap as map
use Rattle.entity_model.specs.declared.event.Event.{Event}
use Rattle.entity_state.specs.declared.state.State.{State}
use Rattle.entity_state.specs.declared.record.Held.{Held}
use Rattle.entity_state.specs.declared.record.Record.{Record}
use Rattle.entity_state.specs.State.{state_after, is_deleted}
use Rattle.entity_state.specs.Record.{held_revision, wants}
use Rattle.entity_state.specs.Standing.{reconciled_after}
use Rattle.entity_state.specs.declared.entry.Cause.{Cause}
use Rattle.entity_state.specs.declared.entry.Entry.{Entry}
use Rattle.entity_state.specs.declared.entry.Entry.TheVariants.{Late, Revision}
use Rattle.delivery.specs.declared.Delivery.{Delivery}
use Rattle.delivery.specs.declared.Delivery.TheVariants.{Event as Told, Watermark, Ask, Mapping, Match}
use Rattle.reorder_buffer.specs.Watermarks.{is_due}
use Rattle.replay_model.specs.Acceptance.{Arrival, arrivals, mark, is_late, due}
use Rattle.replay_model.specs.Fate.{in_order}
use Rattle.replay_model.specs.Records.{Bytes, Records, record_of}

-- what the fetch that the application of an event makes of a revision gives: a document's bytes, or the cause of an entry
abbrev pub Replies : Type 0
Replies = Event → ℕ → Result Bytes Cause

-- the records and the side output
pub record Played : Type 0 where
  pub records : Records
  pub side : List Entry

-- nothing was played
abbrev pub nothing_played : Played
nothing_played = record { records = map.empty; side = [] }

-- what is held after a fetch of a revision
abbrev pub held_after_fetch : ℕ → Result Bytes Cause → Option (Held Bytes) → Option (Held Bytes)
held_after_fetch r (Ok bytes) held = Some (record { revision = r; content = bytes })
held_after_fetch r (Err cause) held = held

-- what is held in a new state: what a fetch gives if the state wants one, nothing if the page was deleted, and what was held otherwise
abbrev pub held_after : State → Result Bytes Cause → Option (Held Bytes) → Option (Held Bytes)
held_after s reply held = cond (wants s (held_revision held)) (held_after_fetch s.rev reply held) (cond (is_deleted s.mode) None held)

-- the record of the event's entity after the event is applied
abbrev pub record_after : Replies → Event → Record Bytes → Record Bytes
record_after replies e r = record {
  state = state_after r.state e;
  held = held_after (state_after r.state e) (replies e (state_after r.state e).rev) r.held;
  reconciled = reconciled_after r.reconciled e;
}

-- the entry of a fetch that gave no document
abbrev pub entry_of : Event → ℕ → Result Bytes Cause → List Entry
entry_of e r (Ok bytes) = []
entry_of e r (Err cause) = Revision e r cause ∷ []

-- the entries that the application of the event makes
abbrev pub entries_after : Replies → Event → Record Bytes → List Entry
entries_after replies e r =
    cond (wants (state_after r.state e) (held_revision r.held))
    (entry_of e (state_after r.state e).rev (replies e (state_after r.state e).rev)) []

-- the records after the event is applied
abbrev pub records_after : Replies → Records → Event → Records
records_after replies records e = map.insert records e.entity (record_after replies e (record_of records e.entity))

-- one event is applied
abbrev pub apply : Replies → Played → Event → Played
apply replies p e = record {
  records = records_after replies p.records e;
  side = p.side ++ entries_after replies e (record_of p.records e.entity);
}

-- the events are applied, one after the other
abbrev pub apply_all : Replies → Played → List Event → Played
apply_all replies p es = fold (apply replies) p es

-- the events that are due after some deliveries and weren't due before, in the order in which they are applied
abbrev pub newly_due : Option ℕ → List Delivery → Bool → List Delivery → List Event
newly_due h before closed after = in_order (filter (λ e. not (is_due false (mark before) e)) (due h closed after))

-- what a delivery does: an event that is late is named in the side output, and a watermark applies what is due now; a question and
-- another version of the mapping do nothing, since all that is held is mapped by the version in force
abbrev pub happens : Option ℕ → Replies → List Delivery → Delivery → Played → Played
happens h replies before (Told e) p = record { records = p.records; side = p.side ++ cond (is_late h before e) (Late e ∷ []) [] }
happens h replies before (Watermark w) p = apply_all replies p (newly_due h before false (before ++ Watermark w ∷ []))
happens h replies before (Ask q) p = p
happens h replies before (Mapping v) p = p
happens h replies before (Match q) p = p

-- the replay of the deliveries
abbrev pub play : Option ℕ → Replies → List Delivery → Played
play h replies ds = fold (λ p (a : Arrival). happens h replies a.before a.delivery p) nothing_played (arrivals ds)

-- the replay of the deliveries and of the end of the input, which applies all that waits
abbrev pub play_to_end : Option ℕ → Replies → List Delivery → Played
play_to_end h replies ds = apply_all replies (play h replies ds) (newly_due h ds true ds)

-- the replay, perhaps with the end of the input
abbrev pub played : Option ℕ → Bool → Replies → List Delivery → Played
played h false replies ds = play h replies ds
played h true replies ds = play_to_end h replies ds

-- a fetch: the event whose application makes it, and the revision that it asks for
pub record Fetch : Type 0 where
  pub event : Event
  pub revision : ℕ

-- the fetches that the application of an event makes, at most one
abbrev pub fetches_of : Event → Record Bytes → List Fetch
fetches_of e r = cond (wants (state_after r.state e) (held_revision r.held)) (record { event = e; revision = (state_after r.state e).rev } ∷ []) []

-- the fetches that events make, applied one after the other
abbrev pub fetches_of_all : Replies → Played → List Event → List Fetch
fetches_of_all replies p [] = []
fetches_of_all replies p (e ∷ es) = fetches_of e (record_of p.records e.entity) ++ fetches_of_all replies (apply replies p e) es

-- the fetches that a delivery makes
abbrev pub fetches_at : Option ℕ → Replies → Arrival → List Fetch
fetches_at h replies a = fetches_by a.delivery
  where
    fetches_by : Delivery → List Fetch
    fetches_by (Watermark w) = fetches_of_all replies (play h replies a.before) (newly_due h a.before false (a.before ++ a.delivery ∷ []))
    fetches_by _ = []

-- the fetches of the replay, in the order in which they are made
abbrev pub fetches : Option ℕ → Replies → List Delivery → List Fetch
fetches h replies ds = flat_map (fetches_at h replies) (arrivals ds)

-- the fetches of the replay and of the end of the input
abbrev pub fetches_to_end : Option ℕ → Replies → List Delivery → List Fetch
fetches_to_end h replies ds = fetches h replies ds ++ fetches_of_all replies (play h replies ds) (newly_due h ds true ds)

-- a counter of 64 bits that rose n times, and saturates
abbrev pub risen_by : ℕ → ℕ → ℕ
risen_by n count = max count (min (count + n) (2 ^ 64 - 1))
