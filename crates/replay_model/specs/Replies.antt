-- What a source of revisions with known contents replies.
use Rattle.std.specs.Prelude.{◌≡◌, ℕ, true, cond, List, Option, None, Some, Result, Ok, Err, filter_map}
use Rattle.sorted_sets.specs.Rising.{has}
use Rattle.entity_model.specs.declared.id.EntityId.{EntityId}
use Rattle.entity_model.specs.declared.event.Event.{Event}
use Rattle.entity_model.specs.declared.unfit.Unfit.{Unfit}
use Rattle.entity_model.specs.Event.{event_cmp}
use Rattle.entity_state.specs.declared.record.Held.{Held}
use Rattle.entity_state.specs.declared.entry.Cause.{Cause}
use Rattle.entity_state.specs.declared.entry.Cause.TheVariants.{Missing, Failed, Unfit as NoDocument}
use Rattle.entity_state.specs.declared.entry.Entry.{Entry}
use Rattle.entity_state.specs.declared.entry.Entry.TheVariants.{Late, Revision}
use Rattle.replay_model.specs.Records.{Bytes}
use Rattle.replay_model.specs.Play.{Replies}

-- why bytes are no document of an entity, or nothing where they are one
abbrev pub Judgement : Type 0
Judgement = EntityId → Bytes → Option Unfit

-- the bytes, if they are a document
abbrev pub judged : Option Unfit → Bytes → Result Bytes Cause
judged None bytes = Ok bytes
judged (Some unfit) bytes = Err (NoDocument unfit)

-- what is there, as a reply to a fetch for the entity
abbrev pub reply_there : Judgement → EntityId → Option Bytes → Result Bytes Cause
reply_there unfit x None = Err Missing
reply_there unfit x (Some bytes) = judged (unfit x bytes) bytes

-- the replies of a source with these bytes at each revision, where the fetches of the events in the list failed
abbrev pub source_replies : Judgement → (ℕ → Option Bytes) → List Event → Replies
source_replies unfit contents failed e r = cond (has event_cmp e failed) (Err Failed) (reply_there unfit e.entity (contents r))

-- the event of an entry whose fetch failed
abbrev pub failed_event : Entry → Option Event
failed_event (Revision e r Failed) = Some e
failed_event _ = None

-- the events whose fetches failed, as the side output names them
abbrev pub failed_events : List Entry → List Event
failed_events side = filter_map failed_event side

-- the event of an entry that names a missing revision
abbrev pub missing_event : Entry → Option Event
missing_event (Revision e r Missing) = Some e
missing_event _ = None

-- the events for which nothing was there to fetch, as the side output names them
abbrev pub missing_events : List Entry → List Event
missing_events side = filter_map missing_event side

-- what is held is a document of the entity
abbrev pub HoldsDocument : Judgement → EntityId → Option (Held Bytes) → Type 0
HoldsDocument unfit x None = Unit {0}
HoldsDocument unfit x (Some h) = unfit x h.content ≡ None

-- a reply that gives bytes gives a document of the entity
abbrev pub GivesDocument : Judgement → EntityId → Result Bytes Cause → Type 0
GivesDocument unfit x (Ok bytes) = unfit x bytes ≡ None
GivesDocument unfit x (Err cause) = Unit {0}

-- what is held is a document of the entity, and what the source has at its revision
abbrev pub HoldsWhatIsThere : Judgement → (ℕ → Option Bytes) → EntityId → Option (Held Bytes) → Type 0
HoldsWhatIsThere unfit contents x None = Unit {0}
HoldsWhatIsThere unfit contents x (Some h) = (contents h.revision ≡ Some h.content) × (unfit x h.content ≡ None)

-- bytes are there that are no document of the entity, for this reason
abbrev pub HasUnfit : Judgement → EntityId → Unfit → Option Bytes → Type 0
HasUnfit unfit x why None = ⊥
HasUnfit unfit x why (Some bytes) = unfit x bytes ≡ Some why

-- an entry says of a revision what is so: nothing is there, no document is there, or the fetch failed
abbrev pub TellsWhatIsThere : Judgement → (ℕ → Option Bytes) → List Event → Entry → Type 0
TellsWhatIsThere unfit contents failed (Late e) = Unit {0}
TellsWhatIsThere unfit contents failed (Revision e r Missing) = contents r ≡ None
TellsWhatIsThere unfit contents failed (Revision e r Failed) = has event_cmp e failed ≡ true
TellsWhatIsThere unfit contents failed (Revision e r (NoDocument why)) = HasUnfit unfit e.entity why (contents r)
