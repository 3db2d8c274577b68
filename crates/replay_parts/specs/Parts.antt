-- The deliveries split by entity: what goes to a part, what is a part's in the replay of them all, and what the parts give together.
use Rattle.std.specs.Prelude.{◌≡◌, ℕ, ◌+◌, Bool, false, true, cond, ◌%◌, ◌==◌, List, [], ◌++◌, Option, None, Some, filter, flat_map, count_by, map as mapped}
use Rattle.std.specs.List.{range_with_len}
use Rattle.std.specs.FinMap as map
use Rattle.std.specs.declared.cmp.Ordering.{Ordering}
use Rattle.sorted_sets.specs.Rising.{Each, sorted}
use Rattle.rdf_term.specs.declared.pattern.Pattern.{Pattern}
use Rattle.rdf_term.specs.declared.triple.Triple.{Triple}
use Rattle.rdf_term.specs.Order.{triple_cmp}
use Rattle.rdf_term.specs.Pattern.{rows}
use Rattle.delivery.specs.Bindings.{bindings}
use Rattle.entity_model.specs.declared.id.EntityId.{EntityId}
use Rattle.entity_model.specs.declared.event.Event.{Event}
use Rattle.delivery.specs.declared.Delivery.{Delivery}
use Rattle.delivery.specs.declared.Delivery.TheVariants.{Event as Told, Watermark, Ask, Mapping, Match}
use Rattle.entity_model.specs.declared.mapping.MappingVersion.{MappingVersion}
use Rattle.entity_state.specs.declared.entry.Entry.{Entry}
use Rattle.entity_state.specs.Entry.{entity_of}
use Rattle.replay_model.specs.Acceptance.{Arrival, arrivals, version_in_force}
use Rattle.replay_model.specs.Play.{Replies, Played, Fetch, played}
use Rattle.replay_model.specs.Records.{Records}
use Rattle.replay_model.specs.ReplayState.{ReplayState}
use Rattle.replay_model.specs.Transcript.{Question, for_triples, for_bindings, Sections, ask_section, asks, export_section, match_section, matches, question_of, side_section, state_section}
use Rattle.replay_model.specs.Union.{Meaning, union}

-- whether a delivery goes to the part that contains these entities: an event goes to the part of its entity, and all else to every part
abbrev pub is_routed : (EntityId → Bool) → Delivery → Bool
is_routed contains (Told e) = contains e.entity
is_routed contains (Watermark w) = true
is_routed contains (Ask q) = true
is_routed contains (Mapping v) = true
is_routed contains (Match q) = true

-- the deliveries that go to the part, in their order
abbrev pub routed : (EntityId → Bool) → List Delivery → List Delivery
routed contains ds = filter (is_routed contains) ds

-- the part of a list of events
abbrev pub part_of_events : (EntityId → Bool) → List Event → List Event
part_of_events contains es = filter (λ (e : Event). contains e.entity) es

-- the part of a side output
abbrev pub part_of_side : (EntityId → Bool) → List Entry → List Entry
part_of_side contains side = filter (λ entry. contains (entity_of entry)) side

-- the part of a list of fetches
abbrev pub part_of_fetches : (EntityId → Bool) → List Fetch → List Fetch
part_of_fetches contains fetches = filter (λ (f : Fetch). contains f.event.entity) fetches

-- the part of the records
abbrev pub part_of_records : (EntityId → Bool) → Records → Records
part_of_records contains records = map.retain_keys records contains

-- the part of what was played
abbrev pub part_of_played : (EntityId → Bool) → Played → Played
part_of_played contains p = record { records = part_of_records contains p.records; side = part_of_side contains p.side }

-- the part of a state: its events, records and entries; the mark and the horizon are those of the whole
abbrev pub part_of_state : (EntityId → Bool) → ReplayState → ReplayState
part_of_state contains w = record {
  buffer = record w.buffer { kept = part_of_events contains w.buffer.kept; waiting = part_of_events contains w.buffer.waiting };
  played = part_of_played contains w.played;
}

-- a part's own replies are the whole's at the events of its entities
abbrev pub AgreeOnPart : (EntityId → Bool) → Replies → Replies → Type 0
AgreeOnPart contains own replies = (e : Event) (r : ℕ) → contains e.entity ≡ true → own e r ≡ replies e r

-- a part: the entities that it contains, and what is replied to its fetches
pub record Part : Type 0 where
  pub contains : EntityId → Bool
  pub replies : Replies

-- each entity is in exactly one part, and each part's replies are the whole's at its entities
pub record IsPartition (replies : Replies) (parts : List Part) : Type 0 where
  pub one_each : (x : EntityId) → count_by (λ (part : Part). part.contains x) parts ≡ 1
  pub agree : Each (λ (part : Part). AgreeOnPart part.contains part.replies replies) parts

-- whether an entity is in the part with this number
abbrev pub is_in_part : (EntityId → ℕ) → ℕ → EntityId → Bool
is_in_part number k x = number x == k

-- the replies of the whole, where each part has its own
abbrev pub replies_of_parts : (EntityId → ℕ) → (ℕ → Replies) → Replies
replies_of_parts number replies_to e r = replies_to (number e.entity) e r

-- the parts with the numbers below this count
abbrev pub numbered_parts : (EntityId → ℕ) → (ℕ → Replies) → ℕ → List Part
numbered_parts number replies_to count = mapped (λ k. record { contains = is_in_part number k; replies = replies_to k }) (range_with_len 0 count)

-- the parts that the numbers of entities give modulo the count of parts
abbrev pub parts_modulo : ℕ → Replies → List Part
parts_modulo count replies = numbered_parts (λ (x : EntityId). x.number % count) (λ k. replies) count

-- what the parts give, merged: in rising order, each element once
abbrev pub merged : {P Triple : Type 0} → (Triple → Triple → Ordering) → (P → List Triple) → List P → List Triple
merged order given parts = sorted order (flat_map given parts)

-- the records of all parts, put together
abbrev pub records_together : Option ℕ → Bool → List Part → List Delivery → Records
records_together h closed parts ds = map.from_entries (flat_map (λ (part : Part). map.entries (played h closed part.replies (routed part.contains ds)).records) parts)

module _ (meaning : MappingVersion → Meaning Triple) where
  -- the triples of all that a replay holds, perhaps after the end of the input, by the version of the mapping in force
  abbrev pub union_played : Option ℕ → Bool → Replies → List Delivery → List Triple
  union_played h closed replies ds = union triple_cmp (meaning (version_in_force ds)) (played h closed replies ds).records

  -- the rows that answer a question after these deliveries
  abbrev pub rows_played : Option ℕ → Replies → List Delivery → Pattern → List Triple
  rows_played h replies ds pattern = rows (union_played h false replies ds) pattern

  -- the triples of all parts, merged
  abbrev pub union_together : Option ℕ → Bool → List Part → List Delivery → List Triple
  union_together h closed parts ds = merged triple_cmp (λ (part : Part). union_played h closed part.replies (routed part.contains ds)) parts

  -- the rows with which all parts answer a question, merged
  abbrev pub rows_together : Option ℕ → List Part → List Delivery → Pattern → List Triple
  rows_together h parts ds pattern = merged triple_cmp (λ (part : Part). rows_played h part.replies (routed part.contains ds) pattern) parts

  -- the answer to an ask that is made of the parts' rows: they are merged and counted again. The answer to a match is made of the parts'
  -- triples, and not of their answers: the shapes of a binding may be triples of different parts
  abbrev pub answered_together : Option ℕ → List Part → List Delivery → Option Question → List ℕ
  answered_together h parts before None = []
  answered_together h parts before (Some (for_triples pattern)) = ask_section (asks before + 1) (rows_together h parts before pattern)
  answered_together h parts before (Some (for_bindings shapes)) = match_section (matches before + 1) (bindings (union_together h false parts before) shapes)

  -- the answers to all questions
  abbrev pub said_together : Option ℕ → List Part → List Delivery → List ℕ
  said_together h parts ds = flat_map (λ (a : Arrival). answered_together h parts a.before (question_of a.delivery)) (arrivals ds)

  -- the sections after the end that are made of the parts': the triples merged and counted again, the states in the order of the ids, and
  -- the entries of one part after those of the other
  abbrev pub closing_together : Option ℕ → Sections → List Part → List Delivery → List ℕ
  closing_together h sections parts ds =
      cond sections.export (export_section (union_together h true parts ds)) []
      ++ cond sections.state (state_section (records_together h true parts ds)) []
      ++ cond sections.side (flat_map (λ (part : Part). side_section (played h true part.replies (routed part.contains ds)).records (played h true part.replies (routed part.contains ds)).side) parts) []
