-- What deliveries make, one after the other; how questions are answered; and plays, and which bytes an output has then.
use Rattle.std.specs.Prelude.{ℕ, Bool, true, false, List, ◌++◌, Option, ◌+◌, [], None, Some, ◌∷◌, fold, filter, flat_map}
use Rattle.std.specs.Option.{option_to_list}
use Rattle.wq_io.specs.Streams.{after_known}
use Rattle.delivery.specs.declared.Delivery.{Delivery}
use Rattle.delivery.specs.declared.Delivery.TheVariants.{Event as Told, Watermark, Ask, Mapping, Match}
use Rattle.entity_model.specs.declared.mapping.MappingVersion.{MappingVersion}
use Rattle.replay_model.specs.Play.{Fetch, Replies, Played}
use Rattle.replay_model.specs.ReplayState.{ReplayState, after_end, ended, fetches_due, after_mark, fetches_delivered}
use Rattle.replay_model.specs.Transcript.{Sections, Question, answer_section, closing_text, for_bindings, for_triples, question_of}
use Rattle.replay_model.specs.{Records.Records, Union.Meaning, Union.union, Versions.meaning_by, Versions.all_by}
use Rattle.graph_routes.specs.declared.routes.Route.{Route}
use Rattle.patch_stream.specs.Stream.{Step, steps_due, is_change, numbered_from, steps_anew}
use Rattle.run_model.specs.{Moment.Beginning, Moment.standing, Remapping.needed_of_delivery, Remapping.needed_by_due, Remapping.Mapped, Remapping.Need}
use Rattle.rdf_term.specs.{declared.triple.Triple.Triple, Order.triple_cmp, Pattern.rows}
use Rattle.subgraph.specs.{Laws.routed_union, Sections.graph_answers, Sections.graph_sections}
use Rattle.fetched_pages.specs.Meaning.{meaning}
use Rattle.replay_parts.specs.Closing.{closing_of}
use Rattle.world.specs.Routed.{routing_by}
use Rattle.replay_parts.specs.Checkpoint.{Checkpoint, advanced, advanced_by, version_after}
use Rattle.replica.specs.Record.{record_text}

-- what each delivery makes, from a checkpoint on
abbrev pub along : {A : Type 0} → (Replies → Checkpoint → Delivery → List A) → Replies → Checkpoint → List Delivery → List A
along made replies c [] = []
along made replies c (d ∷ ds) = made replies c d ++ along made replies (advanced replies c d) ds

-- the state after these deliveries
abbrev pub state_along : Replies → Checkpoint → List Delivery → ReplayState
state_along replies c ds = (advanced_by replies c ds).state

-- the version of the mapping that is in force after these deliveries, where this one was
abbrev pub version_since : MappingVersion → List Delivery → MappingVersion
version_since version ds = fold version_after version ds

-- the fetches of a delivery
abbrev pub fetches_of_delivery : Replies → Checkpoint → Delivery → List Fetch
fetches_of_delivery replies c d = fetches_delivered replies c.state d

-- the steps of a delivery: a watermark applies what it makes due, by the version in force, and a line that brings a version maps by it all
-- that is held, which is mapped by the version in force before
abbrev pub steps_of_delivery : Replies → Checkpoint → Delivery → List Step
steps_of_delivery replies c (Told e) = []
steps_of_delivery replies c (Watermark m) = steps_due c.version replies (after_mark c.state m)
steps_of_delivery replies c (Ask q) = []
steps_of_delivery replies c (Match q) = []
steps_of_delivery replies c (Mapping v) = steps_anew v c.state.played.records (all_by c.version c.state.played.records)

-- the texts of the records of steps, behind so many records
abbrev pub stream_text_from : ℕ → List Step → List ℕ
stream_text_from told steps = flat_map record_text (numbered_from (told + 1) (filter is_change steps))

-- ---- answers

-- the answer to a question over these triples of each graph, where so many asks were answered before it: each graph answers an ask, and a
-- match is passed over
abbrev pub answer_of_graphs : List Route → ℕ → (ℕ → List Triple) → Question → List ℕ
answer_of_graphs routes asked triples (for_triples pattern) = graph_answers routes (asked + 1) (λ graph. rows (triples graph) pattern)
answer_of_graphs routes asked triples (for_bindings shapes) = []

-- the answer to a question behind so many asks and so many matches, where this is what the pages mean that are held: that of all pages
-- together, or that of each graph
abbrev pub answer_text : Option (List Route) → ℕ → ℕ → Meaning Triple → Records → Question → List ℕ
answer_text None asked matched m records question = answer_section asked matched (union triple_cmp m records) question
answer_text (Some known) asked matched m records question = answer_of_graphs known asked (λ graph. routed_union (routing_by known) m records graph) question

-- the same where pages are mapped by these versions
abbrev pub answer_held : Option (List Route) → ℕ → ℕ → Mapped → Records → Question → List ℕ
answer_held routes asked matched mapped records question = answer_text routes asked matched (meaning_by meaning mapped.by_two) records question

-- the answer to a question that is asked at a checkpoint, if one is
abbrev pub answer_by : Option (List Route) → Checkpoint → Option Question → List ℕ
answer_by routes c None = []
answer_by routes c (Some question) = answer_text routes c.asked c.matched (meaning c.version) c.state.played.records question

-- the answer to a delivery, if it asks
abbrev pub answer_of_delivery : Option (List Route) → Replies → Checkpoint → Delivery → List ℕ
answer_of_delivery routes replies c d = answer_by routes c (question_of d)

-- what is said at the deliveries, from a checkpoint on
abbrev pub said_by : Option (List Route) → Replies → Checkpoint → List Delivery → List ℕ
said_by routes replies c ds = along (answer_of_delivery routes) replies c ds

-- what is printed after the end, where this version is in force: the sections that are asked for, or the triples of each graph
abbrev pub closing_by : Option (List Route) → MappingVersion → Sections → Played → List ℕ
closing_by None version sections p = closing_text meaning version sections p
closing_by (Some known) version sections p = graph_sections known (λ graph. routed_union (routing_by known) (meaning version) p.records graph)

-- the same of what is held, where this is what its pages mean
abbrev pub closing_held : Option (List Route) → Meaning Triple → Sections → Played → List ℕ
closing_held None m sections p = closing_of (union triple_cmp m p.records) sections p
closing_held (Some known) m sections p = graph_sections known (λ graph. routed_union (routing_by known) m p.records graph)

-- ---- plays

-- a play, by the replies to its fetches: where it leads, what it fetches, for how many terms it needs room one time after the other, its
-- steps, and which bytes the output has then where questions are answered; the version of the mapping that is in force there, and whether
-- the deliveries end there
pub record Course : Type 0 where
  pub state : Replies → ReplayState
  pub fetched : Replies → List Fetch
  pub needed : Replies → List Need
  pub steps : Replies → List Step
  pub bytes : Replies → Option (List ℕ)
  pub version : MappingVersion
  pub closed : Bool

-- the bytes of an output behind what a play with these replies says at the deliveries
abbrev pub said_behind : Option (List Route) → List Delivery → Beginning → Replies → Option (List ℕ)
said_behind routes ds start replies = after_known start.output.bytes (said_by routes replies (standing start) ds)

-- where a play with these replies leads, from a stage on
abbrev pub led_to : List Delivery → Beginning → Replies → ReplayState
led_to ds start replies = state_along replies (standing start) ds

-- the version of the mapping that is in force after these deliveries, from a stage on
abbrev pub version_at : List Delivery → Beginning → MappingVersion
version_at ds start = version_since start.mapped.version ds

-- the play of these deliveries
abbrev pub course_after : Option (List Route) → List Delivery → Beginning → Course
course_after routes ds start = record {
  state = led_to ds start;
  fetched = λ replies. along fetches_of_delivery replies (standing start) ds;
  needed = λ replies. along needed_of_delivery replies (standing start) ds;
  steps = λ replies. along steps_of_delivery replies (standing start) ds;
  bytes = said_behind routes ds start;
  version = version_at ds start;
  closed = false;
}

-- the play of these deliveries and perhaps one more, which says nothing yet
abbrev pub course_begun : Option (List Route) → List Delivery → Option Delivery → Beginning → Course
course_begun routes ds last start = record (course_after routes (ds ++ option_to_list last) start) { bytes = said_behind routes ds start }

-- the play of these deliveries, after which these pages were remapped
abbrev pub course_remapping : Option (List Route) → List Step → List Delivery → Beginning → Course
course_remapping routes pages ds start = record (course_after routes ds start) { steps = λ replies. along steps_of_delivery replies (standing start) ds ++ pages }

-- the play of these deliveries and the end of the input, which applies all that waits
abbrev pub course_to_end : Option (List Route) → List Delivery → Beginning → Course
course_to_end routes ds start = record {
  state = λ replies. ended replies (led_to ds start replies);
  fetched = λ replies. along fetches_of_delivery replies (standing start) ds ++ fetches_due replies (after_end (led_to ds start replies));
  needed = λ replies. along needed_of_delivery replies (standing start) ds ++ needed_by_due (version_at ds start) replies (after_end (led_to ds start replies));
  steps = λ replies. along steps_of_delivery replies (standing start) ds ++ steps_due (version_at ds start) replies (after_end (led_to ds start replies));
  bytes = said_behind routes ds start;
  version = version_at ds start;
  closed = true;
}

-- the play of these deliveries, and of the end of the input where it is that of the deliveries
abbrev pub course_ended : Option (List Route) → Bool → List Delivery → Beginning → Course
course_ended routes closed ds start = record (by closed) { bytes = said_behind routes ds start; version = version_at ds start; closed = closed }
  where
    by : Bool → Course
    by false = course_after routes ds start
    by true = course_to_end routes ds start

-- what a play with these replies says at the deliveries, and then in these sections, or of each graph
abbrev pub all_said : Option (List Route) → Bool → Sections → List Delivery → Beginning → Replies → List ℕ
all_said routes closed sections ds start replies =
    said_by routes replies (standing start) ds ++ closing_by routes (version_at ds start) sections ((course_ended routes closed ds start).state replies).played

-- the same play, and these sections, or those of the graphs
abbrev pub course_printed : Option (List Route) → Bool → Sections → List Delivery → Beginning → Course
course_printed routes closed sections ds start = record (course_ended routes closed ds start) {
  bytes = λ replies. after_known start.output.bytes (all_said routes closed sections ds start replies);
}
