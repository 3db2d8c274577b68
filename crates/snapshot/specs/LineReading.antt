-- Which line of a snapshot a JSON value is, where a page may stand behind it. Other keys are passed over, and of a key that is repeated
-- the last value counts.
use Rattle.std.specs.Prelude.{ℕ, ℤ, ◌||◌, Bool, List, codes, Option, Some, None, option_map, option_and_then, is_some, nat_eq, if◌then◌else◌}
use Rattle.std.specs.Str.{bytes_eq}
use Rattle.serde_json.specs.{Data.Data, Find.get, Find.as_null, Find.as_number, Find.as_str, Find.as_u64, Find.as_i64}
use Rattle.entity_model.specs.{declared.id.EntityId.EntityId, declared.event.Event.Event, IdOf.id_of}
use Rattle.entity_state.specs.{declared.record.Held.Held, declared.record.Record.Record, declared.state.State.State}
use Rattle.entity_state.specs.{declared.entry.Entry.Entry, declared.entry.Entry.TheVariants.Late, declared.entry.Entry.TheVariants.Revision}
use Rattle.replay_model.specs.Records.{Bytes}
use Rattle.snapshot.specs.{declared.counts.Counts.Counts, declared.line.Head.Head, declared.line.Line.Line}
use Rattle.snapshot.specs.declared.line.Line.TheVariants.{Head as Begins, Remembered, Entity, Side, End}
use Rattle.snapshot.specs.Words.{kind_named, cause_named, mode_named, version_numbered}

abbrev pub nat_in : Data → Option ℕ
nat_in d = option_and_then as_u64 (as_number d)

abbrev pub int_in : Data → Option ℤ
int_in d = option_and_then as_i64 (as_number d)

-- none for null, and what was read otherwise
abbrev pub or_null : {A : Type 0} → Option A → Data → Option (Option A)
or_null read d = if is_some (as_null d) then Some None else option_map Some read

-- none for null, and what f reads otherwise
abbrev pub if_there : {A : Type 0} → (Data → Option A) → Data → Option (Option A)
if_there f d = or_null (f d) d

-- what f reads at a key
abbrev pub at_key : {A : Type 0} → (Data → Option A) → List ℕ → Data → Option A
at_key f key d = option_and_then f (get key d)

abbrev pub id_in : Data → Option EntityId
id_in d = option_and_then id_of (as_str d)

-- the event that an object is
abbrev pub event_in : Data → Option Event
event_in d =
    option_and_then (λ entity.
    option_and_then (λ kind.
    option_and_then (λ time.
    option_map (λ rev. record { entity = entity; time = time; rev = rev; kind = kind })
    (at_key nat_in (codes "rev") d))
    (at_key int_in (codes "micros") d))
    (option_and_then kind_named (at_key as_str (codes "kind") d)))
    (at_key id_in (codes "entity") d)

-- the page of an object by the value of its key `page`: that string, or the page behind, where there is no such key
abbrev pub page_in : Option Bytes → Option Data → Option Bytes
page_in None own = option_and_then as_str own
page_in (Some page) None = Some page
page_in (Some page) (Some own) = None

abbrev pub held_in : Option Bytes → Data → Option (Held Bytes)
held_in behind d =
    option_and_then (λ revision.
    option_map (λ page. record { revision = revision; content = page })
    (page_in behind (get (codes "page") d)))
    (at_key nat_in (codes "rev") d)

-- what is held: null says that nothing is, where no page stands behind
abbrev pub held_or_null : Option Bytes → Data → Option (Option (Held Bytes))
held_or_null None d = if_there (held_in None) d
held_or_null (Some page) d = option_map Some (held_in (Some page) d)

-- whether files of the format with this number are read: in one of format 1 each page is a string
abbrev pub is_format : ℕ → Bool
is_format number = nat_eq number 1 || (nat_eq number 2 || nat_eq number 3)

-- the number of a format that is read
abbrev pub format_in : Data → Option ℕ
format_in d = option_and_then (λ number. if is_format number then Some number else None) (nat_in d)

-- how many lines were taken: format 3 says it, and before it none are counted
abbrev pub lines_taken_in : Data → ℕ → Option ℕ
lines_taken_in d format = if nat_eq format 3 then at_key nat_in (codes "lines") d else Some 0

-- the counts of a head in a file of this format
abbrev pub counts_in : Data → ℕ → Option Counts
counts_in d format =
    option_and_then (λ asks.
    option_and_then (λ matches.
    option_and_then (λ patches.
    option_map (λ taken. record { asks = asks; matches = matches; patches = patches; lines = taken })
    (lines_taken_in d format))
    (at_key nat_in (codes "patches") d))
    (at_key nat_in (codes "matches") d))
    (at_key nat_in (codes "asks") d)

-- the head of an object, with the number of its format
abbrev pub head_in : Data → Data → Option Head
head_in d format =
    option_and_then (λ number.
    option_and_then (λ mark.
    option_and_then (λ horizon.
    option_and_then (λ mapping.
    option_map (λ counts. record { mark = mark; horizon = horizon; mapping = mapping; counts = counts })
    (counts_in d number))
    (option_and_then version_numbered (at_key nat_in (codes "mapping") d)))
    (at_key (if_there nat_in) (codes "horizon") d))
    (at_key (if_there int_in) (codes "mark") d))
    (format_in format)

abbrev pub state_in : Data → Data → Option State
state_in d word =
    option_and_then (λ mode.
    option_map (λ rev. record { mode = mode; rev = rev })
    (at_key nat_in (codes "rev") d))
    (option_and_then mode_named (as_str word))

abbrev pub record_in : Option Bytes → Data → Data → Option (Record Bytes)
record_in behind d word =
    option_and_then (λ state.
    option_and_then (λ reconciled.
    option_map (λ held. record { state = state; held = held; reconciled = reconciled })
    (at_key (held_or_null behind) (codes "held") d))
    (at_key (if_there event_in) (codes "reconciled") d))
    (state_in d word)

-- the entry of a revision with that word
abbrev pub revision_in : Data → List ℕ → Option Entry
revision_in d word =
    option_and_then (λ cause.
    option_and_then (λ event.
    option_map (λ rev. Revision event rev cause)
    (at_key nat_in (codes "rev") d))
    (at_key event_in (codes "event") d))
    (cause_named word)

abbrev pub entry_in : Data → List ℕ → Option Entry
entry_in d word =
    if bytes_eq word (codes "late") then option_map Late (at_key event_in (codes "event") d)
    else revision_in d word

abbrev pub entity_in : Option Bytes → Data → Data → Option Line
entity_in behind d word = option_and_then (λ x. option_map (λ r. Entity x r) (record_in behind d word)) (at_key id_in (codes "entity") d)

abbrev pub side_in : Data → Data → Option Line
side_in d word = option_map Side (option_and_then (entry_in d) (as_str word))

-- the line of an object by the values of its keys `snapshot`, `kind`, `state`, `entry` and `end`, of which it has exactly one; a page
-- stands behind records alone
abbrev pub by_form : Option Bytes → Data → Option Data → Option Data → Option Data → Option Data → Option Data → Option Line
by_form behind d None None (Some word) None None = entity_in behind d word
by_form None d (Some format) None None None None = option_map Begins (head_in d format)
by_form None d None (Some kind) None None None = option_map Remembered (event_in d)
by_form None d None None None (Some word) None = side_in d word
by_form None d None None None None (Some lines) = option_map End (nat_in lines)
by_form behind d _ _ _ _ _ = None

-- the line that a JSON value is, with the page that stands behind it, if one does
abbrev pub line_in : Option Bytes → Data → Option Line
line_in behind d =
    by_form behind d (get (codes "snapshot") d) (get (codes "kind") d) (get (codes "state") d) (get (codes "entry") d) (get (codes "end") d)
