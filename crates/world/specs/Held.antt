-- What is held, whichever kind of holdings has it, and what a step tells of its change.
use Rattle.std.specs.Prelude.{ℕ, true, List, Option}
use Rattle.rdf_term.specs.{declared.triple.Triple.Triple, Order.triple_cmp}
use Rattle.entity_model.specs.{declared.id.EntityId.EntityId, declared.mapping.MappingVersion.MappingVersion}
use Rattle.entity_state.specs.declared.record.Held.{Held}
use Rattle.replay_model.specs.{Records.Bytes, Records.Records, Union.union, Versions.meaning_by}
use Rattle.fetched_pages.specs.Meaning.{meaning}
use Rattle.triple_store.specs.declared.telling.Telling.{Telling}
use Rattle.holders.specs.Changing.{Tells}
use Rattle.lean_holdings.specs.Changing.{IsChangeOf}
use Rattle.world.specs.Limit.{Limit, needs, whole}
use Rattle.world.specs.declared.applied.StepChange.{StepChange}
use Rattle.world.specs.declared.applied.StepChange.TheVariants.{Told, Parts}
use Rattle.world.specs.declared.held.WorldHoldings.{WorldHoldings}
use Rattle.world.specs.declared.held.WorldHoldings.TheVariants.{All, Lean}

-- the records of the entities, each with the bytes that its entity holds; how many terms there may be, and of which triples; and the entities
-- whose documents are mapped by version Two
pub record HeldState : Type 0 where
  pub records : Records
  pub limit : Limit
  pub by_two : List EntityId

-- what holdings of either kind hold
abbrev pub held_in : WorldHoldings → HeldState
held_in (All h) = record { records = h.records; limit = whole h.limit; by_two = h.by_two }
held_in (Lean lean) = record { records = lean.holdings.records; limit = record { terms = lean.holdings.limit; lean = true }; by_two = lean.holdings.by_two }

-- the triples of all that is held, each by the version that its entity's document is mapped by
abbrev pub held_triples : HeldState → List Triple
held_triples h = union triple_cmp (meaning_by meaning h.by_two) h.records

-- how many distinct terms the stored triples have together with those that are stored of what x is to hold, mapped by this version
abbrev pub needs_in : HeldState → MappingVersion → EntityId → Option (Held Bytes) → ℕ
needs_in h version x held = needs h.limit.lean (meaning_by meaning h.by_two) (meaning version) h.records x held

-- what is asked for is told of the triples of all that is held before a step and after it; of a lean world its change is told, in two parts
abbrev pub TellsChange : Telling → List Triple → List Triple → StepChange → Type 0
TellsChange telling before after (Told told) = Tells telling before after told
TellsChange telling before after (Parts parts) = IsChangeOf before after parts
