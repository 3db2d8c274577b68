-- How far a drill has come.
use Rattle.std.specs.Prelude.{◌≡◌, ◌⊎◌, ℕ, ◌+◌, ◌≤◌, List, [], ◌∷◌, ◌++◌, Option, None, Some, length}
use Rattle.entity_model.specs.declared.mapping.MappingVersion.TheVariants.{One}
use Rattle.delivery.specs.declared.Delivery.{Delivery}
use Rattle.delivery.specs.declared.Delivery.TheVariants.{Event as Told, Watermark, Ask, Mapping, Match}
use Rattle.reorder_buffer.specs.{Buffered.Buffered, Buffered.answer_to, declared.taken.Taken.Taken}
use Rattle.reorder_buffer.specs.declared.taken.Taken.TheVariants.{New, Repeat, Late}
use Rattle.replay_model.specs.Acceptance.{accepted, late}
use Rattle.replay_model.specs.ReplayState.{ReplayState, after_end, after_some, entered, following}
use Rattle.world.specs.WorldState.{WorldState}
use Rattle.drill_replay.specs.Drill.{drill}
use Rattle.drill_replay.specs.{declared.counts.DrillCounts.DrillCounts, Summary.replies_of}

-- these deliveries were counted
pub record Counted (ds : List Delivery) (counts : DrillCounts) : Type 0 where
  pub deliveries : counts.deliveries ≡ length ds
  pub accepted : counts.accepted ≡ length (accepted None ds)
  pub late : counts.late ≡ length (late None ds)

-- each count is at most this
abbrev pub HasFew : DrillCounts → ℕ → Type 0
HasFew counts most = (counts.deliveries ≤ most) × (counts.accepted ≤ most) × (counts.late ≤ most)

-- what the event of a delivery is, if it is one
abbrev pub answer_of : Buffered → Delivery → Option Taken
answer_of b (Told e) = Some (answer_to b e)
answer_of b (Watermark w) = None
answer_of b (Ask pattern) = None
answer_of b (Mapping version) = None
answer_of b (Match query) = None

-- the counts with one delivery more, whose event was this
abbrev pub with_answer : Option Taken → DrillCounts → DrillCounts
with_answer None c = record c { deliveries = c.deliveries + 1 }
with_answer (Some New) c = record c { deliveries = c.deliveries + 1; accepted = c.accepted + 1 }
with_answer (Some Late) c = record c { deliveries = c.deliveries + 1; late = c.late + 1 }
with_answer (Some Repeat) c = record c { deliveries = c.deliveries + 1 }

-- the world has taken the first deliveries
pub record StandsBetween (size : ℕ) (ds : List Delivery) (world : ReplayState) : Type 0 where
  pub before : List Delivery
  pub after : List Delivery
  pub all : ds ≡ before ++ after
  pub is : world ≡ following None (replies_of size) before

-- the world has taken the first deliveries, and has applied some of the events that the last of them made due
pub record StandsWithin (size : ℕ) (ds : List Delivery) (world : ReplayState) : Type 0 where
  pub before : List Delivery
  pub last : Delivery
  pub after : List Delivery
  pub all : ds ≡ before ++ last ∷ after
  pub steps : ℕ
  pub is : world ≡ after_some (replies_of size) steps (entered (following None (replies_of size) before) last)

-- the world has come to a part of these deliveries
abbrev pub IsPartOf : ℕ → List Delivery → ReplayState → Type 0
IsPartOf size ds world = StandsBetween size ds world ⊎ StandsWithin size ds world

-- the world has taken all deliveries and the end, and has applied some of the events that the end made due
pub record StandsAtEnd (size : ℕ) (world : ReplayState) : Type 0 where
  pub steps : ℕ
  pub is : world ≡ after_some (replies_of size) steps (after_end (following None (replies_of size) (drill size)))

-- the world of a first part of the drill: each due event was applied whole or not at all
abbrev pub HasBegun : ℕ → ReplayState → Type 0
HasBegun size world = IsPartOf size (drill size) world ⊎ StandsAtEnd size world

-- version One of the mapping is in force, and all that is held is mapped by it
abbrev pub IsByFirst : WorldState → Type 0
IsByFirst world = (world.mapping ≡ One) × (world.by_two ≡ [])
