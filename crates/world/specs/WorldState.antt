-- What contracts see of a world, and what becomes of the versions by which its documents are mapped.
use Rattle.std.specs.Prelude.{List, [], Option, None, Some}
use Rattle.rdf_term.specs.{declared.triple.Triple.Triple, Order.triple_cmp}
use Rattle.entity_model.specs.{declared.id.EntityId.EntityId, declared.mapping.MappingVersion.MappingVersion}
use Rattle.entity_model.specs.declared.mapping.MappingVersion.TheVariants.{One, Two}
use Rattle.entity_state.specs.declared.entry.Entry.{Entry}
use Rattle.replay_model.specs.{Play.Played, ReplayState.ReplayState}
use Rattle.replay_model.specs.Union.{union}
use Rattle.replay_model.specs.Versions.{meaning_by, with_version}
use Rattle.fetched_pages.specs.Meaning.{meaning}
use Rattle.holders.specs.Holding.{first_of, stale_by, version_in, with_version_of}
use Rattle.world.specs.{Held.HeldState, Limit.Limit}
use Rattle.world.specs.declared.applied.Outcome.{Outcome}
use Rattle.world.specs.declared.applied.Outcome.TheVariants.{Same, Stored, Dropped, Sided}

-- with the side output
abbrev pub played_of : HeldState → List Entry → Played
played_of held side = record { records = held.records; side = side }

-- the state of a replay; how many terms there may be, and of which triples; the version of the mapping in force; and the entities whose
-- documents are mapped by version Two
pub record WorldState : Type 0 where
  pub replay : ReplayState
  pub limit : Limit
  pub mapping : MappingVersion
  pub by_two : List EntityId

-- the triples of all that is held, each by the version that its entity's document is mapped by
abbrev pub stored_of : WorldState → List Triple
stored_of w = union triple_cmp (meaning_by meaning w.by_two) w.replay.played.records

-- the entities that hold by version Two after an application of an event of x by the version in force
abbrev pub by_two_after : Outcome → MappingVersion → EntityId → List EntityId → List EntityId
by_two_after Same mapping x by_two = by_two
by_two_after Stored mapping x by_two = with_version mapping x by_two
by_two_after Dropped mapping x by_two = with_version One x by_two
by_two_after (Sided cause) mapping x by_two = by_two

-- the version by which what x holds is mapped, if it holds a document
abbrev pub held_version : WorldState → EntityId → Option MappingVersion
held_version w x = version_in w.by_two w.replay.played.records x

-- the entities whose held version isn't the one in force, in rising order
abbrev pub stale : WorldState → List EntityId
stale w = stale_by w.mapping w.by_two w.replay.played.records

-- the least of them
abbrev pub next_stale : WorldState → Option EntityId
next_stale w = first_of (stale w)

-- the least of them, if there is one, holds by the version in force now
abbrev pub remapped : WorldState → WorldState
remapped w = record w { by_two = with_version_of w.mapping (next_stale w) w.by_two }
