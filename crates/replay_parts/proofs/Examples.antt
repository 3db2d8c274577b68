-- Small lists of deliveries, split and stopped, worked out by hand: a wrong definition fails here.
use Rattle.std.proofs.Common.{◌≡◌, ℕ, pos, Bool, true, false, not, cond, nat_eq, List, [], ◌∷◌, ◌++◌, None, Some, Ok, Err, count_by, refl}
use Rattle.std.specs.Prelude.{map as mapped}
use Rattle.std.specs.Ordering.{nat_cmp}
use Rattle.rdf_term.specs.declared.pattern.Pattern.{Pattern}
use Rattle.rdf_term.specs.declared.triple.Triple.{Triple}
use Rattle.delivery.specs.Bindings.{bindings}
use Rattle.entity_model.specs.declared.id.EntityId.{EntityId}
use Rattle.entity_model.specs.declared.id.IdKind.TheVariants.{Q}
use Rattle.entity_model.specs.declared.event.Event.{Event}
use Rattle.entity_model.specs.declared.event.Kind.TheVariants.{Edit}
use Rattle.delivery.specs.declared.Delivery.{Delivery}
use Rattle.delivery.specs.declared.Delivery.TheVariants.{Event as Told, Watermark, Ask, Mapping, Match}
use Rattle.entity_model.specs.declared.mapping.MappingVersion.{MappingVersion}
use Rattle.entity_model.specs.declared.mapping.MappingVersion.TheVariants.{One, Two}
use Rattle.entity_state.specs.declared.entry.Cause.TheVariants.{Missing}
use Rattle.entity_state.specs.declared.entry.Entry.TheVariants.{Late, Revision}
use Rattle.replay_model.specs.Acceptance.{mark, version_in_force, late, due}
use Rattle.replay_model.specs.Play.{Replies}
use Rattle.replay_model.specs.Transcript.{asks, ask_section, export_section, match_section, matches}
use Rattle.replay_model.specs.Union.{Meaning}
use Rattle.replay_parts.specs.Checkpoint.{checkpoint, checkpoint_at_start, advanced, advanced_by, fetches_from, replies_of_runs, version_after}
use Rattle.replay_parts.specs.Parts.{Part, closing_together, is_in_part, merged, numbered_parts, part_of_fetches, part_of_side, part_of_state, parts_modulo, replies_of_parts, routed, said_together}

-- an edit of the item with this number
abbrev edit : ℕ → ℕ → ℕ → Event
edit number r t = record { entity = record { kind = Q; number = number }; time = pos t; rev = r; kind = Edit }

-- each revision has its number as its one byte, and nothing is there
abbrev there : Replies
there e r = Ok (r ∷ [])

abbrev missing : Replies
missing e r = Err Missing

-- the question for all triples
abbrev all : Pattern
all = record { subject = None; predicate = None; object = None }

-- ---- item 1 by itself, and all others

abbrev is_first : EntityId → Bool
is_first x = nat_eq x.number 1

abbrev mixed : List Delivery
mixed = Told (edit 1 1 1) ∷ Told (edit 2 2 2) ∷ Mapping Two ∷ Watermark (pos 5) ∷ Told (edit 2 3 3) ∷ Told (edit 1 4 4) ∷ Ask all ∷ Told (edit 2 6 6) ∷ []

mixed-first : routed is_first mixed ≡ Told (edit 1 1 1) ∷ Mapping Two ∷ Watermark (pos 5) ∷ Told (edit 1 4 4) ∷ Ask all ∷ []
mixed-first = refl

mixed-others : routed (λ x. not (is_first x)) mixed ≡ Told (edit 2 2 2) ∷ Mapping Two ∷ Watermark (pos 5) ∷ Told (edit 2 3 3) ∷ Ask all ∷ Told (edit 2 6 6) ∷ []
mixed-others = refl

mixed-late : late None mixed ≡ edit 2 3 3 ∷ edit 1 4 4 ∷ []
mixed-late = refl

mixed-late_first : late None (routed is_first mixed) ≡ edit 1 4 4 ∷ []
mixed-late_first = refl

mixed-due_first : due None true (routed is_first mixed) ≡ edit 1 1 1 ∷ []
mixed-due_first = refl

mixed-mark : mark (routed is_first mixed) ≡ Some (pos 5)
mixed-mark = refl

mixed-version : version_in_force (routed is_first mixed) ≡ Two
mixed-version = refl

mixed-asks : asks (routed is_first mixed) ≡ 1
mixed-asks = refl

-- what waits for the other part isn't the first's, and the mark is everybody's
mixed-waits : (part_of_state is_first (checkpoint None there mixed).state).buffer.waiting ≡ []
mixed-waits = refl

mixed-mark_of_part : (part_of_state is_first (checkpoint None there mixed).state).buffer.mark ≡ Some (pos 5)
mixed-mark_of_part = refl

mixed-side : part_of_side is_first (Late (edit 2 3 3) ∷ Late (edit 1 4 4) ∷ Revision (edit 2 6 6) 6 Missing ∷ []) ≡ Late (edit 1 4 4) ∷ []
mixed-side = refl

mixed-fetches : part_of_fetches is_first (record { event = edit 1 1 1; revision = 1 } ∷ record { event = edit 2 2 2; revision = 2 } ∷ []) ≡ record { event = edit 1 1 1; revision = 1 } ∷ []
mixed-fetches = refl

-- ---- parts by the number of the item: 0, 1 and 2

abbrev number : EntityId → ℕ
number x = x.number

-- nothing is there for part 1
abbrev replies_to : ℕ → Replies
replies_to k = cond (nat_eq k 1) missing there

numbered-once : count_by (λ (part : Part). part.contains (edit 2 2 2).entity) (numbered_parts number replies_to 3) ≡ 1
numbered-once = refl

numbered-never : count_by (λ (part : Part). part.contains (edit 3 3 3).entity) (numbered_parts number replies_to 3) ≡ 0
numbered-never = refl

numbered-routed : routed (is_in_part number 2) mixed ≡ Told (edit 2 2 2) ∷ Mapping Two ∷ Watermark (pos 5) ∷ Told (edit 2 3 3) ∷ Ask all ∷ Told (edit 2 6 6) ∷ []
numbered-routed = refl

modulo-routed : mapped (λ (part : Part). routed part.contains (Told (edit 5 1 1) ∷ Told (edit 3 2 2) ∷ Watermark (pos 5) ∷ Told (edit 2 3 3) ∷ [])) (parts_modulo 3 there)
    ≡ (Told (edit 3 2 2) ∷ Watermark (pos 5) ∷ []) ∷ (Watermark (pos 5) ∷ []) ∷ (Told (edit 5 1 1) ∷ Watermark (pos 5) ∷ Told (edit 2 3 3) ∷ []) ∷ []
modulo-routed = refl

replied-first : replies_of_parts number replies_to (edit 1 4 4) 4 ≡ Err Missing
replied-first = refl

replied-second : replies_of_parts number replies_to (edit 2 6 6) 6 ≡ Ok (6 ∷ [])
replied-second = refl

-- ---- what is merged: an element of two parts comes once

merged-once : merged nat_cmp (λ part. part) ((5 ∷ 2 ∷ []) ∷ [] ∷ (3 ∷ 5 ∷ []) ∷ []) ≡ 2 ∷ 3 ∷ 5 ∷ []
merged-once = refl

-- two questions of no parts are answered by no rows, each under its number
abbrev nothing : MappingVersion → Meaning Triple
nothing v x r bytes = []

said-nothing : said_together nothing None [] (Ask all ∷ Watermark (pos 5) ∷ Ask all ∷ []) ≡ ask_section 1 [] ++ (ask_section 2 [] ++ [])
said-nothing = refl

-- matches are counted by themselves
said-matches : said_together nothing None [] (Match [] ∷ Ask all ∷ Match [] ∷ []) ≡ match_section 1 (bindings [] []) ++ (ask_section 1 [] ++ (match_section 2 (bindings [] []) ++ []))
said-matches = refl

closing-nothing : closing_together nothing None (record { export = true; state = false; side = true }) [] [] ≡ export_section [] ++ [] ++ []
closing-nothing = refl

-- ---- a stop

-- the last line of the mapping counts, and any other delivery leaves the version
version-brought : version_after Two (Mapping One) ≡ One
version-brought = refl

version-left : version_after Two (Watermark (pos 5)) ≡ Two
version-left = refl

-- two questions are behind it, version Two is in force, and the state knows nothing of either
stopped : advanced_by there (checkpoint_at_start None) (Mapping Two ∷ Ask all ∷ Watermark (pos 5) ∷ Told (edit 2 6 6) ∷ Told (edit 1 4 4) ∷ Ask all ∷ [])
    ≡ record { state = (checkpoint None there (Watermark (pos 5) ∷ Told (edit 1 4 4) ∷ Told (edit 2 6 6) ∷ [])).state; version = Two; asked = 2; matched = 0 }
stopped = refl

-- the late event is kept and doesn't wait
stopped-waits : (advanced_by there (checkpoint_at_start None) (Watermark (pos 5) ∷ Told (edit 2 6 6) ∷ Told (edit 1 4 4) ∷ [])).state.buffer.waiting ≡ edit 2 6 6 ∷ []
stopped-waits = refl

stopped-kept : (advanced_by there (checkpoint_at_start None) (Watermark (pos 5) ∷ Told (edit 2 6 6) ∷ Told (edit 1 4 4) ∷ [])).state.buffer.kept ≡ edit 1 4 4 ∷ edit 2 6 6 ∷ []
stopped-kept = refl

-- the next question is the third
asked-next : (advanced there (record (checkpoint_at_start None) { asked = 2 }) (Ask all)).asked ≡ 3
asked-next = refl

-- and a match leaves its number, and is counted
asked-match : (advanced there (record (checkpoint_at_start None) { asked = 2 }) (Match [])).asked ≡ 2
asked-match = refl

matched-next : (advanced there (record (checkpoint_at_start None) { matched = 2 }) (Match [])).matched ≡ 3
matched-next = refl

matched-part : matches (routed is_first (Match [] ∷ mixed)) ≡ 1
matched-part = refl

-- only a watermark fetches
fetches-none : fetches_from there (checkpoint_at_start None).state (Told (edit 2 6 6) ∷ Ask all ∷ Mapping Two ∷ []) ≡ []
fetches-none = refl

-- an event at the mark was replied to by the first run, and one after it is by the second
runs-first : replies_of_runs (Some (pos 5)) there missing (edit 1 5 5) 5 ≡ Ok (5 ∷ [])
runs-first = refl

runs-second : replies_of_runs (Some (pos 5)) there missing (edit 2 6 6) 6 ≡ Err Missing
runs-second = refl
