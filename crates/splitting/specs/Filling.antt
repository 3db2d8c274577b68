-- Graphs that are filled with what a world holds.
use Rattle.std.specs.Prelude.{◌≡◌, cond, List, Option, None, Some}
use Rattle.std.specs.FinMap as map
use Rattle.sorted_sets.specs.Rising.{has}
use Rattle.entity_model.specs.{declared.id.EntityId.EntityId, EntityId.entity_cmp}
use Rattle.replay_model.specs.{Records.record_of, Versions.all_by, Versions.meaning_by}
use Rattle.graph_routes.specs.declared.routes.Route.{Route}
use Rattle.subgraph.specs.{Entries.Entries, Entries.Entry, Laws.entry_held}
use Rattle.fetched_pages.specs.Meaning.{meaning}
use Rattle.world.specs.{Limit.HasRoomBy, Routed.routing_by, WorldState.WorldState}

-- a world between two deliveries: every page is mapped by the version in force, and all that is held has room
pub record IsReadyFor (world : WorldState) : Type 0 where
  pub by_one : world.by_two ≡ all_by world.mapping world.replay.played.records
  pub room : HasRoomBy world.limit (meaning_by meaning world.by_two) world.replay.played.records

module _ (routes : List Route) (world : WorldState) where
  -- the entry of what an entity of the world holds
  abbrev pub entry_in : EntityId → Option Entry
  entry_in x = entry_held (routing_by routes) (meaning_by meaning world.by_two) x (record_of world.replay.played.records x).held

  -- each entry is that of what its entity holds
  abbrev pub AreAmong : Entries → Type 0
  AreAmong entries = (x : EntityId) (e : Entry) → map.get entries x ≡ Some e → entry_in x ≡ Some e

  -- these entities have the entries of what they hold, and no other has one
  abbrev pub HaveEntries : List EntityId → Entries → Type 0
  HaveEntries ids entries = (x : EntityId) → map.get entries x ≡ cond (has entity_cmp x ids) (entry_in x) None

-- the entries where this entity has this one, if it has one
abbrev pub with_entry : EntityId → Option Entry → Entries → Entries
with_entry x None entries = entries
with_entry x (Some e) entries = map.insert entries x e
