-- The JSON value of each line of a snapshot. The members of an object stand in the order of their keys.
use Rattle.std.specs.Prelude.{ℕ, ℤ, ◌==◌, Bool, true, false, List, codes, Option, Some, None}
use Rattle.std.specs.List.{list_any}
use Rattle.serde_json.specs.Data.{Data, null, number, string, object, Members, no_members, member, unsigned}
use Rattle.serde_json.specs.Find.{of_integer}
use Rattle.wq_io.specs.Lines.{line_feed}
use Rattle.entity_model.specs.{declared.id.EntityId.EntityId, declared.event.Event.Event, EntityId.id_text}
use Rattle.entity_state.specs.{declared.record.Held.Held, declared.record.Record.Record}
use Rattle.entity_state.specs.{declared.entry.Entry.Entry, declared.entry.Entry.TheVariants.Late, declared.entry.Entry.TheVariants.Revision}
use Rattle.replay_model.specs.{Records.Bytes, Transcript.kind_word, Transcript.cause_word}
use Rattle.snapshot.specs.{declared.line.Head.Head, declared.line.Line.Line}
use Rattle.snapshot.specs.declared.line.Line.TheVariants.{Head as Begins, Remembered, Entity, Side, End}
use Rattle.snapshot.specs.Words.{mode_word, version_number}

-- the value, and null where there is none
abbrev pub if_some : {A : Type 0} → (A → Data) → Option A → Data
if_some f None = null
if_some f (Some a) = f a

abbrev pub nat_data : ℕ → Data
nat_data n = number (unsigned n)

abbrev pub int_data : ℤ → Data
int_data z = number (of_integer z)

-- the members of an event
abbrev pub event_members : Event → Members
event_members e =
    member (codes "entity") (string (id_text e.entity))
    (member (codes "kind") (string (kind_word e.kind))
    (member (codes "micros") (int_data e.time)
    (member (codes "rev") (nat_data e.rev) no_members)))

abbrev pub event_data : Event → Data
event_data e = object (event_members e)

abbrev pub has_line_feed : List ℕ → Bool
has_line_feed bytes = list_any (λ b. b == line_feed) bytes

-- the members of what is held: the page is a string where it has a line feed, and else it stands behind the record (LineText)
abbrev pub held_members : Bool → Held Bytes → Members
held_members true h = member (codes "page") (string h.content) (member (codes "rev") (nat_data h.revision) no_members)
held_members false h = member (codes "rev") (nat_data h.revision) no_members

abbrev pub held_data : Held Bytes → Data
held_data h = object (held_members (has_line_feed h.content) h)

abbrev pub head_members : Head → Members
head_members h =
    member (codes "asks") (nat_data h.counts.asks)
    (member (codes "horizon") (if_some nat_data h.horizon)
    (member (codes "lines") (nat_data h.counts.lines)
    (member (codes "mapping") (nat_data (version_number h.mapping))
    (member (codes "mark") (if_some int_data h.mark)
    (member (codes "matches") (nat_data h.counts.matches)
    (member (codes "patches") (nat_data h.counts.patches)
    (member (codes "snapshot") (nat_data 3) no_members)))))))

abbrev pub record_members : EntityId → Record Bytes → Members
record_members x r =
    member (codes "entity") (string (id_text x))
    (member (codes "held") (if_some held_data r.held)
    (member (codes "reconciled") (if_some event_data r.reconciled)
    (member (codes "rev") (nat_data r.state.rev)
    (member (codes "state") (string (mode_word r.state.mode)) no_members))))

-- the word of an entry and its event, and then the others
abbrev pub told_members : List ℕ → Event → Members → Members
told_members word e others = member (codes "entry") (string word) (member (codes "event") (event_data e) others)

abbrev pub entry_members : Entry → Members
entry_members (Late e) = told_members (codes "late") e no_members
entry_members (Revision e r cause) = told_members (cause_word cause) e (member (codes "rev") (nat_data r) no_members)

-- the members of a line, but for a page that stands behind a record
abbrev pub line_members : Line → Members
line_members (Begins h) = head_members h
line_members (Remembered e) = event_members e
line_members (Entity x r) = record_members x r
line_members (Side entry) = entry_members entry
line_members (End n) = member (codes "end") (nat_data n) no_members

-- the value of a line, but for a page that stands behind a record
abbrev pub line_data : Line → Data
line_data line = object (line_members line)
