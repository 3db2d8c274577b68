-- What a replay, with a horizon or none, prints: an answer at each delivery that is a question, and the closing sections. What is held then
-- means what it means by the version of the mapping in force.
use Rattle.std.specs.Prelude.{ℕ, ◌+◌, Bool, true, false, cond, List, [], ◌++◌, Option, None, Some, filter_map, flat_map, length, decimal, codes}
use Rattle.std.specs.FinMap as map
use Rattle.std.specs.Fmt.{signed_decimal}
use Rattle.rdf_term.specs.declared.pattern.Pattern.{Pattern}
use Rattle.rdf_term.specs.declared.term.Term.{Term}
use Rattle.rdf_term.specs.declared.triple.Triple.{Triple}
use Rattle.rdf_term.specs.Order.{triple_cmp}
use Rattle.rdf_term.specs.Text.{term_text, triple_text}
use Rattle.rdf_term.specs.Pattern.{rows}
use Rattle.delivery.specs.declared.query.Shape.{Shape}
use Rattle.delivery.specs.Bindings.{bindings}
use Rattle.entity_model.specs.declared.id.EntityId.{EntityId}
use Rattle.entity_model.specs.declared.event.Event.{Event}
use Rattle.entity_model.specs.declared.event.Kind.{Kind}
use Rattle.entity_model.specs.declared.event.Kind.TheVariants.{Edit, Delete, Undelete, ReconcileDeleted, ReconcileKept}
use Rattle.entity_model.specs.declared.unfit.Unfit.{Unfit}
use Rattle.entity_model.specs.declared.unfit.Unfit.TheVariants.{Large, Deep, NotJson, Shape as BadShape, Foreign}
use Rattle.entity_model.specs.EntityId.{id_text}
use Rattle.entity_state.specs.declared.state.Mode.{Mode}
use Rattle.entity_state.specs.declared.state.Mode.TheVariants.{Unknown, Kept, Deleted}
use Rattle.entity_state.specs.declared.state.State.{State}
use Rattle.entity_state.specs.declared.entry.Cause.{Cause}
use Rattle.entity_state.specs.declared.entry.Cause.TheVariants.{Missing, Failed, Unfit as NoDocument}
use Rattle.entity_state.specs.declared.entry.Entry.{Entry}
use Rattle.entity_state.specs.declared.entry.Entry.TheVariants.{Late, Revision}
use Rattle.delivery.specs.declared.Delivery.{Delivery}
use Rattle.delivery.specs.declared.Delivery.TheVariants.{Ask, Match}
use Rattle.entity_model.specs.declared.mapping.MappingVersion.{MappingVersion}
use Rattle.replay_model.specs.Acceptance.{Arrival, arrivals, version_in_force}
use Rattle.replay_model.specs.Entries.{is_open_in}
use Rattle.entity_state.specs.Entry.{entity_of}
use Rattle.replay_model.specs.Play.{Replies, Played, play, play_to_end}
use Rattle.replay_model.specs.Records.{Records}
use Rattle.replay_model.specs.Union.{Meaning, union}

-- which sections are printed after the end
pub record Sections : Type 0 where
  pub export : Bool
  pub state : Bool
  pub side : Bool

-- the line `# export: <count> triples`
unfoldable pub export_head : ℕ → List ℕ
export_head count = codes "# export: " ++ decimal count ++ codes " triples\n"

-- the section of an export: its head, and the line of each triple
abbrev pub export_section : List Triple → List ℕ
export_section triples = export_head (length triples) ++ flat_map triple_text triples

-- the line `# ask <n>: <count> triples`
unfoldable pub ask_head : ℕ → ℕ → List ℕ
ask_head n count = codes "# ask " ++ decimal n ++ codes ": " ++ decimal count ++ codes " triples\n"

-- the answer to the n-th ask: its head, and the line of each triple
abbrev pub ask_section : ℕ → List Triple → List ℕ
ask_section n triples = ask_head n (length triples) ++ flat_map triple_text triples

-- the line `# match <n>: <count> rows`
unfoldable pub match_head : ℕ → ℕ → List ℕ
match_head n count = codes "# match " ++ decimal n ++ codes ": " ++ decimal count ++ codes " rows\n"

-- a term behind a space
abbrev pub spaced_term : Term → List ℕ
spaced_term term = codes " " ++ term_text term

-- the line of a binding: `# row`, and each of its terms behind a space
unfoldable pub binding_text : List Term → List ℕ
binding_text terms = codes "# row" ++ flat_map spaced_term terms ++ codes "\n"

-- the answer to the n-th match: its head, and the line of each binding
abbrev pub match_section : ℕ → List (List Term) → List ℕ
match_section n found = match_head n (length found) ++ flat_map binding_text found

-- a question: for the triples that agree with a pattern, or for the bindings of a query
pub data Question : Type 0 where
  for_triples : Pattern → Question
  for_bindings : List Shape → Question

-- the delivery that a question is
abbrev pub asking : Question → Delivery
asking (for_triples pattern) = Ask pattern
asking (for_bindings shapes) = Match shapes

-- the question that a delivery is, if it is one
abbrev pub question_of : Delivery → Option Question
question_of (Ask pattern) = Some (for_triples pattern)
question_of (Match shapes) = Some (for_bindings shapes)
question_of _ = None

-- the pattern that a delivery asks for
abbrev pub pattern_of : Delivery → Option Pattern
pattern_of (Ask pattern) = Some pattern
pattern_of _ = None

-- the shapes of the query that a delivery has
abbrev pub shapes_of : Delivery → Option (List Shape)
shapes_of (Match shapes) = Some shapes
shapes_of _ = None

-- how many asks were delivered
abbrev pub asks : List Delivery → ℕ
asks ds = length (filter_map pattern_of ds)

-- how many matches were delivered, which are counted by themselves
abbrev pub matches : List Delivery → ℕ
matches ds = length (filter_map shapes_of ds)

-- the answer to a question over these triples, where so many asks and so many matches were answered before it
abbrev pub answer_section : ℕ → ℕ → List Triple → Question → List ℕ
answer_section asked matched triples (for_triples pattern) = ask_section (asked + 1) (rows triples pattern)
answer_section asked matched triples (for_bindings shapes) = match_section (matched + 1) (bindings triples shapes)

-- the line `# state <id> <word> <revision>`
unfoldable pub stated_line : EntityId → List ℕ → ℕ → List ℕ
stated_line x word rev = codes "# state " ++ id_text x ++ codes " " ++ word ++ codes " " ++ decimal rev ++ codes "\n"

-- the line of a state: that of the word `kept` or `deleted`; none where no event says which it is
unfoldable pub mode_line : EntityId → Mode → ℕ → List ℕ
mode_line x Unknown rev = []
mode_line x Kept rev = stated_line x (codes "kept") rev
mode_line x Deleted rev = stated_line x (codes "deleted") rev

-- the line of an entity's state
abbrev pub state_line : EntityId → State → List ℕ
state_line x s = mode_line x s.mode s.rev

-- the section of the states: the line of each entity with a record, in rising order of the ids
abbrev pub state_section : Records → List ℕ
state_section records = flat_map (λ entry. state_line entry.0 entry.1.state) (map.entries records)

-- the word for an entry that is open, and for one that isn't
unfoldable pub open_word : Bool → List ℕ
open_word true = codes "open"
open_word false = codes "closed"

-- the word for a kind of event
unfoldable pub kind_word : Kind → List ℕ
kind_word Edit = codes "edit"
kind_word Delete = codes "delete"
kind_word Undelete = codes "undelete"
kind_word ReconcileDeleted = codes "reconcile-deleted"
kind_word ReconcileKept = codes "reconcile-kept"

-- the word for why bytes are no document
unfoldable pub unfit_word : Unfit → List ℕ
unfit_word Large = codes "unfit-large"
unfit_word Deep = codes "unfit-deep"
unfit_word NotJson = codes "unfit-notjson"
unfit_word BadShape = codes "unfit-shape"
unfit_word Foreign = codes "unfit-foreign"

-- the word for why a revision isn't held
unfoldable pub cause_word : Cause → List ℕ
cause_word Missing = codes "missing"
cause_word Failed = codes "failed"
cause_word (NoDocument unfit) = unfit_word unfit

-- the words for an event: `<kind> <revision> <time>`, with the time in microseconds since 1970-01-01T00:00:00Z
unfoldable pub event_words : Event → List ℕ
event_words e = kind_word e.kind ++ codes " " ++ decimal e.rev ++ codes " " ++ signed_decimal e.time

-- the word for what an entry tells of: `late`, or why a revision isn't held
unfoldable pub entry_word : Entry → List ℕ
entry_word (Late e) = codes "late"
entry_word (Revision e r cause) = cause_word cause

-- the words for what an entry names: an event, or a revision
unfoldable pub entry_words : Entry → List ℕ
entry_words (Late e) = event_words e
entry_words (Revision e r cause) = decimal r

-- the line `# side <word> <open> <id> <words>`
unfoldable pub side_line : List ℕ → List ℕ → List ℕ → List ℕ → List ℕ
side_line word stands id words = codes "# side " ++ word ++ codes " " ++ stands ++ codes " " ++ id ++ codes " " ++ words ++ codes "\n"

-- the line of an entry: `# side late <open> <id> <kind> <revision> <time>` or `# side <cause> <open> <id> <revision>`
abbrev pub entry_line : Bool → Entry → List ℕ
entry_line stands entry = side_line (entry_word entry) (open_word stands) (id_text (entity_of entry)) (entry_words entry)

-- the section of the side output: the line of each entry, in the order in which they were made
abbrev pub side_section : Records → List Entry → List ℕ
side_section records side = flat_map (λ entry. entry_line (is_open_in records entry) entry) side

module _ (meaning : MappingVersion → Meaning Triple) where
  -- the answer to a question, after the deliveries before it
  abbrev pub answer_said : Option ℕ → Replies → List Delivery → Option Question → List ℕ
  answer_said h replies before None = []
  answer_said h replies before (Some question) =
      answer_section (asks before) (matches before)
      (union triple_cmp (meaning (version_in_force before)) (play h replies before).records) question

  -- what is printed at a delivery: the answer, if it is a question
  abbrev pub said_at : Option ℕ → Replies → Arrival → List ℕ
  said_at h replies a = answer_said h replies a.before (question_of a.delivery)

  -- what is printed at the deliveries
  abbrev pub said : Option ℕ → Replies → List Delivery → List ℕ
  said h replies ds = flat_map (said_at h replies) (arrivals ds)

  -- what is printed after the end, where this version is in force
  abbrev pub closing_text : MappingVersion → Sections → Played → List ℕ
  closing_text version sections p =
      cond sections.export (export_section (union triple_cmp (meaning version) p.records)) []
      ++ cond sections.state (state_section p.records) []
      ++ cond sections.side (side_section p.records p.side) []

  -- all that is printed
  abbrev pub transcript : Option ℕ → Sections → Replies → List Delivery → List ℕ
  transcript h sections replies ds = said h replies ds ++ closing_text (version_in_force ds) sections (play_to_end h replies ds)
