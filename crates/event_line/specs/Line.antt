-- What one line of an event file delivers, or the first cause for which it delivers nothing.
use Rattle.std.specs.Prelude.{◌≡◌, ℕ, nat_eq, nat_lt, if◌then◌else◌, List, codes, Option, Some, None, option_map, option_and_then, Result, Ok, Err, ℤ}
use Rattle.std.specs.Str.{is_utf8, bytes_eq}
use Rattle.serde_json.specs.Data.{Data, Items, no_items, item}
use Rattle.serde_json.specs.Find.{get, as_str, as_number, as_u64, as_array}
use Rattle.serde_json.specs.Read.{read}
use Rattle.rdf_term.specs.declared.term.Term.{Term}
use Rattle.rdf_term.specs.declared.pattern.Pattern.{Pattern}
use Rattle.term_reading.specs.Reader.{read as term_of}
use Rattle.entity_model.specs.declared.id.EntityId.{EntityId}
use Rattle.entity_model.specs.declared.event.Event.{Event}
use Rattle.entity_model.specs.declared.event.Kind.{Kind}
use Rattle.entity_model.specs.declared.event.Kind.TheVariants.{Edit, Delete, Undelete, ReconcileDeleted, ReconcileKept}
use Rattle.entity_model.specs.IdOf.{id_of}
use Rattle.delivery.specs.declared.Delivery.{Delivery}
use Rattle.delivery.specs.declared.Delivery.TheVariants.{Event as Told, Watermark, Ask, Mapping, Match}
use Rattle.entity_model.specs.declared.mapping.MappingVersion.{MappingVersion}
use Rattle.entity_model.specs.declared.mapping.MappingVersion.TheVariants.{One, Two}
use Rattle.event_line.specs.declared.faults.LineCause.{LineCause}
use Rattle.event_line.specs.declared.faults.LineCause.TheVariants.{NotJson, NoForm, Kind as BadKind, Entity, Rev, Time, Mode, Pattern as BadPattern, Mapping as BadMapping, Match as BadMatch}
use Rattle.event_line.specs.declared.faults.DeliveryFault.{DeliveryFault}
use Rattle.event_line.specs.declared.faults.DeliveryFault.TheVariants.{Bad, OutOfMemory}
use Rattle.event_line.specs.declared.line.KindName.{KindName}
use Rattle.event_line.specs.declared.line.KindName.TheVariants.{Edit as EditName, Delete as DeleteName, Undelete as UndeleteName, Reconcile}
use Rattle.event_line.specs.Query.{query_in}
use Rattle.event_line.specs.Time.{time_of}

-- the JSON value of a line, where it is UTF-8 and `serde_json` reads a value
abbrev pub data_of : List ℕ → Option Data
data_of line = if is_utf8 line then read line else None

-- the text at a key of an object, where there is one
abbrev pub text_at : List ℕ → Data → Option (List ℕ)
text_at key json = option_and_then as_str (get key json)

-- the name of a kind
abbrev pub kind_named : List ℕ → Option KindName
kind_named text =
    if bytes_eq text (codes "edit") then Some EditName
    else (if bytes_eq text (codes "delete") then Some DeleteName
    else (if bytes_eq text (codes "undelete") then Some UndeleteName
    else (if bytes_eq text (codes "reconcile") then Some Reconcile
    else None)))

-- what `kind` says
abbrev pub kind_name : Data → Option KindName
kind_name json = option_and_then kind_named (text_at (codes "kind") json)

-- what `entity` says: the text of an id
abbrev pub entity_of : Data → Option EntityId
entity_of json = option_and_then id_of (text_at (codes "entity") json)

-- revisions are numbered from 1
abbrev pub from_one : ℕ → Option ℕ
from_one n = if nat_lt 0 n then Some n else None

-- what `rev` says: a number in digits alone, from 1 and below 2^64
abbrev pub rev_of : Data → Option ℕ
rev_of json = option_and_then from_one (option_and_then as_u64 (option_and_then as_number (get (codes "rev") json)))

-- the time at a key
abbrev pub time_at : List ℕ → Data → Option ℤ
time_at key json = option_and_then time_of (text_at key json)

-- the kind of a reconciliation with that mode
abbrev pub mode_named : List ℕ → Option Kind
mode_named text =
    if bytes_eq text (codes "kept") then Some ReconcileKept
    else (if bytes_eq text (codes "deleted") then Some ReconcileDeleted
    else None)

-- the kind with that name; a reconciliation's is told by `mode`, which no other kind reads
abbrev pub whole_kind : Data → KindName → Option Kind
whole_kind json EditName = Some Edit
whole_kind json DeleteName = Some Delete
whole_kind json UndeleteName = Some Undelete
whole_kind json Reconcile = option_and_then mode_named (text_at (codes "mode") json)

-- what comes next if a value is there, and the cause otherwise
abbrev pub else_cause : {A B : Type 0} → LineCause → Option A → (A → Result B LineCause) → Result B LineCause
else_cause cause None next = Err cause
else_cause cause (Some a) next = next a

-- the event that an object with `kind` is, or the first cause in the order of kind, entity, revision, time and mode
abbrev pub event_in : Data → Result Event LineCause
event_in json =
    else_cause BadKind (kind_name json) (λ name.
    else_cause Entity (entity_of json) (λ entity.
    else_cause Rev (rev_of json) (λ rev.
    else_cause Time (time_at (codes "time") json) (λ time.
    else_cause Mode (whole_kind json name) (λ kind.
    Ok (record { entity = entity; time = time; rev = rev; kind = kind }))))))

-- the event of an object, delivered
abbrev pub delivered : Result Event LineCause → Result Delivery LineCause
delivered (Ok event) = Ok (Told event)
delivered (Err cause) = Err cause

-- the watermark that an object with `watermark` is, or the cause
abbrev pub watermark_in : Data → Result Delivery LineCause
watermark_in json = else_cause Time (time_at (codes "watermark") json) (λ time. Ok (Watermark time))

-- what a text wants at its place: `?` leaves the place free, and any other text is that of a term in N-Triples
abbrev pub term_wanted_by : List ℕ → Option (Option Term)
term_wanted_by text = if bytes_eq text (codes "?") then Some None else option_map Some (term_of text)

-- what a value wants at its place; only a text wants anything
abbrev pub wanted_in : Data → Option (Option Term)
wanted_in json = option_and_then term_wanted_by (as_str json)

-- the pattern of three values, for subject, predicate and object
abbrev pub pattern_with : Data → Data → Data → Option Pattern
pattern_with s p o =
    option_and_then (λ subject.
    option_and_then (λ predicate.
    option_map (λ object. record { subject = subject; predicate = predicate; object = object })
    (wanted_in o)) (wanted_in p)) (wanted_in s)

-- the pattern of a list, which has exactly three values
abbrev pub pattern_in : Items → Option Pattern
pattern_in (item s (item p (item o no_items))) = pattern_with s p o
pattern_in _ = None

-- the pattern that the value of `ask` is; only a list is one
abbrev pub pattern_of : Data → Option Pattern
pattern_of ask = option_and_then pattern_in (as_array ask)

-- the question with that value of `ask`, or the cause
abbrev pub ask_in : Data → Result Delivery LineCause
ask_in ask = else_cause BadPattern (pattern_of ask) (λ pattern. Ok (Ask pattern))

-- the version with that number
abbrev pub version_numbered : ℕ → Option MappingVersion
version_numbered n = if nat_eq n 1 then Some One else (if nat_eq n 2 then Some Two else None)

-- the version that the value of `mapping` names: only a number in digits alone names one
abbrev pub version_of : Data → Option MappingVersion
version_of mapping = option_and_then version_numbered (option_and_then as_u64 (as_number mapping))

-- the change to the version that the value of `mapping` names, or the cause
abbrev pub mapping_in : Data → Result Delivery LineCause
mapping_in mapping = else_cause BadMapping (version_of mapping) (λ version. Ok (Mapping version))

-- the question of several patterns with that value of `match`, or the cause
abbrev pub match_in : Data → Result Delivery LineCause
match_in json = else_cause BadMatch (query_in json) (λ shapes. Ok (Match shapes))

-- what an object delivers by the values of its keys `kind`, `watermark`, `ask`, `mapping` and `match`, of which it has exactly one
abbrev pub by_form : Data → Option Data → Option Data → Option Data → Option Data → Option Data → Result Delivery LineCause
by_form json (Some kind) None None None None = delivered (event_in json)
by_form json None (Some watermark) None None None = watermark_in json
by_form json None None (Some ask) None None = ask_in ask
by_form json None None None (Some mapping) None = mapping_in mapping
by_form json None None None None (Some shapes) = match_in shapes
by_form json _ _ _ _ _ = Err NoForm

-- what a JSON value delivers; only an object has keys
abbrev pub delivery_in : Data → Result Delivery LineCause
delivery_in json =
    by_form json (get (codes "kind") json) (get (codes "watermark") json) (get (codes "ask") json) (get (codes "mapping") json) (get (codes "match") json)

-- what a line delivers, or the first cause for which it delivers nothing
abbrev pub delivery_of : List ℕ → Result Delivery LineCause
delivery_of line = else_cause NotJson (data_of line) delivery_in

-- the answer to a line; it may be that a request for memory was refused
abbrev pub Answers : List ℕ → Result Delivery DeliveryFault → Type 0
Answers line (Ok delivery) = delivery_of line ≡ Ok delivery
Answers line (Err (Bad cause)) = delivery_of line ≡ Err cause
Answers line (Err OutOfMemory) = Unit {0}

-- the answer to what a part of a line is; it may be that a request for memory was refused
abbrev pub AnswersPart : {A : Type 0} → Result A LineCause → Result A DeliveryFault → Type 0
AnswersPart part (Ok value) = part ≡ Ok value
AnswersPart part (Err (Bad cause)) = part ≡ Err cause
AnswersPart part (Err OutOfMemory) = Unit {0}
