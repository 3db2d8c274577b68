-- By which versions of the mapping the pages that a world holds are mapped, how they are remapped, and for how many terms there must be room.
use Rattle.std.specs.Prelude.{◌≡◌, ⊤, ℕ, zero, suc, ◌<◌, Bool, List, Option, Some, ◌≤◌, cond, [], ◌∷◌, ◌++◌, Result, Ok, Err}
use Rattle.rdf_term.specs.{declared.triple.Triple.Triple, Order.triple_cmp}
use Rattle.entity_model.specs.{declared.id.EntityId.EntityId, declared.mapping.MappingVersion.MappingVersion, declared.event.Event.Event}
use Rattle.entity_state.specs.{declared.record.Held.Held, declared.record.Record.Record, Record.held_revision, Record.wants}
use Rattle.entity_state.specs.State.{state_after}
use Rattle.replay_model.specs.{Records.Bytes, Records.Records, Records.record_of, Union.Meaning, Union.union}
use Rattle.replay_model.specs.{Versions.all_by, Versions.meaning_by, Versions.with_version, Play.Played, Play.Replies, Play.apply}
use Rattle.replay_model.specs.ReplayState.{ReplayState, after_mark, due_now}
use Rattle.fetched_pages.specs.Meaning.{meaning}
use Rattle.holders.specs.Holding.{first_of, stale_by, with_version_of}
use Rattle.world.specs.{Limit.Limit, Limit.HasRoomBy, Limit.needs, WorldState.WorldState}
use Rattle.term_pool.specs.declared.fault.PoolFault.{PoolFault as StoreFault}
use Rattle.term_pool.specs.declared.fault.PoolFault.TheVariants.{Full, OutOfMemory}
use Rattle.sorted_sets.specs.Rising.{Each}
use Rattle.delivery.specs.declared.Delivery.{Delivery}
use Rattle.delivery.specs.declared.Delivery.TheVariants.{Event as Told, Watermark, Ask, Mapping, Match}
use Rattle.entity_state.specs.declared.entry.Cause.{Cause}
use Rattle.replay_parts.specs.Checkpoint.{Checkpoint}

-- the version of the mapping in force, and which entities hold a page that is mapped by the second version; all others hold by the
-- first
pub record Mapped : Type 0 where
  pub version : MappingVersion
  pub by_two : List EntityId

-- this version is in force, and every page that is held is mapped by it
abbrev pub mapped_by : MappingVersion → Records → Mapped
mapped_by version records = record { version = version; by_two = all_by version records }

-- the versions of a world
abbrev pub mapped_in : WorldState → Mapped
mapped_in world = record { version = world.mapping; by_two = world.by_two }

-- if all pages were mapped by the version in force, they still are
abbrev pub KeepsVersion : Mapped → Mapped → Records → Records → Type 0
KeepsVersion old new before now = (version : MappingVersion) → old ≡ mapped_by version before → new ≡ mapped_by version now

-- the triples of all that is held, each page by the version that it is mapped by
abbrev pub held_triples : Mapped → Records → List Triple
held_triples mapped records = union triple_cmp (meaning_by meaning mapped.by_two) records

-- what is stored of what a world holds has no more distinct terms than there may be
abbrev pub HoldsWithin : Limit → WorldState → Type 0
HoldsWithin limit world = HasRoomBy limit (meaning_by meaning world.by_two) world.replay.played.records

-- the stored triples have, together with those that are stored of a page by the version in force, more distinct terms than there may be
abbrev pub HasNoRoom : Limit → Records → Mapped → EntityId → ℕ → Bytes → Type 0
HasNoRoom limit records mapped x rev bytes =
    limit.terms < needs limit.lean (meaning_by meaning mapped.by_two) (meaning mapped.version) records x (Some (record { revision = rev; content = bytes }))

-- the least entity whose page isn't mapped by the version in force, if there is one
abbrev pub next_stale_in : Records → Mapped → Option EntityId
next_stale_in records mapped = first_of (stale_by mapped.version mapped.by_two records)

-- its page is mapped by the version in force now
abbrev pub remapped_in : Records → Mapped → Mapped
remapped_in records mapped = record { version = mapped.version; by_two = with_version_of mapped.version (next_stale_in records mapped) mapped.by_two }

-- so many pages are remapped, one after the other
abbrev pub remapped_some : ℕ → Records → Mapped → Mapped
remapped_some zero records mapped = mapped
remapped_some (suc n) records mapped = remapped_in records (remapped_some n records mapped)

-- the page of the least entity whose page isn't mapped by the version in force has no room by this version
pub record IsFullOfStale (limit : Limit) (records : Records) (mapped : Mapped) : Type 0 where
  pub entity : EntityId
  pub next : next_stale_in records mapped ≡ Some entity
  pub page : Held Bytes
  pub holds : (record_of records entity).held ≡ Some page
  pub over : HasNoRoom limit records mapped entity page.revision page.content

-- why this page isn't remapped
abbrev pub IsLeftStale : StoreFault → Limit → Records → Mapped → Type 0
IsLeftStale Full limit records mapped = IsFullOfStale limit records mapped
IsLeftStale OutOfMemory limit records mapped = ⊤

-- ---- for how many distinct terms there must be room as a play goes on

-- ---- room for what is needed

-- how many terms are needed: those of all triples, or, where this says so, of those that two pages may share
abbrev pub Need : Type 0
Need = Bool → ℕ

-- the terms of the stored triples, together with those that are stored of what x is to hold; pages that are held mean the first, and what x is
-- to hold means the second
abbrev pub need_of : Meaning Triple → Meaning Triple → Records → EntityId → Option (Held Bytes) → Need
need_of m n records x held = λ lean. needs lean m n records x held

-- there is room for each of these
abbrev pub HaveRoom : Limit → List Need → Type 0
HaveRoom limit needs = Each (λ (need : Need). need limit.lean ≤ limit.terms) needs

-- there is room for each of these but for those that are left, which are the last
pub record HaveRoomBefore (limit : Limit) (left needs : List Need) : Type 0 where
  pub met : List Need
  pub are : met ++ left ≡ needs
  pub have_room : HaveRoom limit met

-- ---- applications

-- for how many terms there must be room at the reply to the fetch of a revision of x: if it is a document, for the distinct terms of what
-- is stored of all that is held and of this document together, every page by this version; otherwise there is no need
abbrev pub needed_for : MappingVersion → Records → EntityId → ℕ → Result Bytes Cause → List Need
needed_for version records x r (Ok bytes) = need_of (meaning version) (meaning version) records x (Some (record { revision = r; content = bytes })) ∷ []
needed_for version records x r (Err cause) = []

-- at the application of an event to the record of its entity, which fetches at most once
abbrev pub needed_by : MappingVersion → Replies → Records → Event → Record Bytes → List Need
needed_by version replies records e r =
    cond (wants (state_after r.state e) (held_revision r.held)) (needed_for version records e.entity (state_after r.state e).rev (replies e (state_after r.state e).rev)) []

-- at events that are applied one after the other
abbrev pub needed_by_all : MappingVersion → Replies → Played → List Event → List Need
needed_by_all version replies p [] = []
needed_by_all version replies p (e ∷ es) = needed_by version replies p.records e (record_of p.records e.entity) ++ needed_by_all version replies (apply replies p e) es

-- at all due events
abbrev pub needed_by_due : MappingVersion → Replies → ReplayState → List Need
needed_by_due version replies w = needed_by_all version replies w.played (due_now w.buffer)

-- ---- remappings

-- for how many terms there must be room as the pages of these entities are remapped by this version, one after the other; the other list
-- names those that are by version Two: at each for the distinct terms of what is stored of all that is held, as it is mapped until then, and of
-- the page by this version
abbrev pub needed_by_pages : MappingVersion → Records → List EntityId → List EntityId → List Need
needed_by_pages version records by_two [] = []
needed_by_pages version records by_two (x ∷ xs) =
    need_of (meaning_by meaning by_two) (meaning version) records x (record_of records x).held ∷ needed_by_pages version records (with_version version x by_two) xs

-- at all pages that aren't mapped by the version in force, the least entity first
abbrev pub needed_anew : Records → Mapped → List Need
needed_anew records mapped = needed_by_pages mapped.version records mapped.by_two (stale_by mapped.version mapped.by_two records)

-- ---- a play

-- at a delivery: a watermark applies what it makes due, by the version in force, and a line that brings a version maps by it all that is
-- held, which is mapped by the version in force before
abbrev pub needed_of_delivery : Replies → Checkpoint → Delivery → List Need
needed_of_delivery replies c (Told e) = []
needed_of_delivery replies c (Watermark m) = needed_by_due c.version replies (after_mark c.state m)
needed_of_delivery replies c (Ask q) = []
needed_of_delivery replies c (Match q) = []
needed_of_delivery replies c (Mapping v) = needed_anew c.state.played.records (record { version = v; by_two = all_by c.version c.state.played.records })
