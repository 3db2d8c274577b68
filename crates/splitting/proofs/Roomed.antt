-- A graph has room where the world that it follows has it.
use Rattle.std.proofs.Common.{◌≡◌, ℕ, ◌≤◌, ◌||◌, false, List, ◌++◌, Option, None, Some, IfSome, refl, sym, ◌∙◌, ap, subst, arith}
use Rattle.sorted_sets.specs.Rising.{has, sorted}
use Rattle.sorted_sets.proofs.Rising.{has-append, has-sorted}
use Rattle.rdf_term.specs.{declared.triple.Triple.Triple, Order.triple_cmp, Order.triple_cmp-total}
use Rattle.entity_model.specs.{declared.id.EntityId.EntityId, declared.mapping.MappingVersion.MappingVersion}
use Rattle.entity_state.specs.declared.record.Held.{Held}
use Rattle.replay_model.specs.{Records.Bytes, Union.triples_held, Union.union, Versions.meaning_by}
use Rattle.graph_routes.specs.declared.routes.Route.{Route}
use Rattle.subgraph.specs.{Entries.Entries, Entries.graph_triples, Entries.terms_with, Split.graph_of}
use Rattle.subgraph.proofs.Routed.{fewer_terms, need_no_more_room}
use Rattle.world.specs.declared.applied.Outcome.{Outcome}
use Rattle.world.specs.declared.applied.Outcome.TheVariants.{Same, Stored, Dropped, Sided}
use Rattle.holders.specs.Roomed.{room_with}
use Rattle.holdings.specs.Mapped.{AreTriplesOf}
use Rattle.world.specs.{declared.applied.RoutedPage.RoutedPage, Limit.Limit, Limit.needs, Roomed.needs_anew, Roomed.needs_at, Roomed.needs_now}
use Rattle.world.specs.{Routed.GivesPage, Routed.routing_by, WorldState.WorldState, WorldState.next_stale}
use Rattle.fetched_pages.specs.Meaning.{meaning}
use Rattle.splitting.specs.Graphs.{AreEntriesOf, GraphsState, HasRoomAnewIn, HasRoomIn, MayFollow, MayHaveRoom, MayHaveRoomAnew, routes_of}
use Rattle.splitting.proofs.Following.{held_in, not_lean}

module _ (routes : List Route) (limit : ℕ) (entries : Entries) (world : WorldState) (follows : AreEntriesOf routes limit world entries) where
  -- the room that the world needs for the same triples in order, where one may stand there twice
  in_order : (graph : ℕ) (triples meant : List Triple) → sorted triple_cmp triples ≡ meant → room_with (meaning_by meaning world.by_two) world.replay.played.records meant ≤ limit → terms_with (graph_triples entries graph) triples ≤ limit
  in_order graph triples meant is room =
      let all = union triple_cmp (meaning_by meaning world.by_two) world.replay.played.records in
      let few = need_no_more_room (routing_by routes) (meaning_by meaning world.by_two) entries world.replay.played.records follows.split graph triples in
      let same = fewer_terms (all ++ triples) (all ++ meant) (λ t there.
      has-append triple_cmp t all meant
      ∙ ap (λ b. has triple_cmp t all || b) (ap (has triple_cmp t) (sym is) ∙ has-sorted triple_cmp-total t triples)
      ∙ sym (has-append triple_cmp t all triples)
      ∙ there) in
      omega (arith, few, same, room)

  -- the world isn't lean, so it needs for a page the room of all its triples
  of_all : (x : EntityId) (held : Option (Held Bytes)) → needs_now world x held ≤ world.limit.terms
      → room_with (meaning_by meaning world.by_two) world.replay.played.records (triples_held (meaning world.mapping) x held) ≤ limit
  of_all x held room =
      subst (λ (l : Limit). needs l.lean (meaning_by meaning world.by_two) (meaning world.mapping) world.replay.played.records x held ≤ l.terms) follows.limit_is room

  -- for the page that an application stored
  room_applied : (x : EntityId) (outcome : Outcome) (held : Option (Held Bytes)) (page : Option RoutedPage) → GivesPage routes world.mapping x outcome held page
      → (outcome ≡ Stored → needs_now world x held ≤ world.limit.terms) → HasRoomIn limit entries outcome page
  room_applied x Same held page given room = tt
  room_applied x Dropped held page given room = tt
  room_applied x (Sided cause) held page given room = tt
  room_applied x Stored None page never room = absurd never
  room_applied x Stored (Some h) None never room = absurd never
  room_applied x Stored (Some h) (Some page) given room = in_order page.graph page.triples _ given.triples_are.meant (of_all x (Some h) (room refl))

  -- for the remapped page
  room_remapped : (x : EntityId) (triples : List Triple) → next_stale world ≡ Some x → (world.limit.lean ≡ false → AreTriplesOf world.mapping x (held_in world x) triples)
      → needs_anew world ≤ world.limit.terms → (graph : Option ℕ) → HasRoomAnewIn limit entries graph triples
  room_remapped x triples next are room None = tt
  room_remapped x triples next are room (Some graph) =
      in_order graph triples _ (are (not_lean routes limit world entries follows)).meant (of_all x (held_in world x) (subst (λ o. needs_at world o ≤ world.limit.terms) next room))

-- graphs that follow a world before an application have room for the page that it stored, where the world had it
applied_in : (g : GraphsState) (entries : Option Entries) (before : WorldState) (x : EntityId) (outcome : Outcome) (held : Option (Held Bytes)) (page : Option RoutedPage) → IfSome entries (AreEntriesOf g.routes g.limit before)
    → GivesPage g.routes before.mapping x outcome held page → (outcome ≡ Stored → needs_now before x held ≤ before.limit.terms)
    → IfSome entries (λ (there : Entries). HasRoomIn g.limit there outcome page)
applied_in g None before x outcome held page follows given room = tt
applied_in g (Some entries) before x outcome held page follows given room = room_applied g.routes g.limit entries before follows x outcome held page given room

pub may_have_room : (graphs : Option GraphsState) (before : WorldState) (x : EntityId) (outcome : Outcome) (held : Option (Held Bytes)) (page : Option RoutedPage) → MayFollow graphs before
    → IfSome (routes_of graphs) (λ (routes : List Route). GivesPage routes before.mapping x outcome held page) → (outcome ≡ Stored → needs_now before x held ≤ before.limit.terms)
    → MayHaveRoom graphs outcome page
may_have_room None before x outcome held page follows given room = tt
may_have_room (Some g) before x outcome held page follows given room = applied_in g g.entries before x outcome held page follows given room

-- and for the remapped page
anew_in : (g : GraphsState) (entries : Option Entries) (before : WorldState) (x : EntityId) (triples : List Triple) → IfSome entries (AreEntriesOf g.routes g.limit before) → next_stale before ≡ Some x → (before.limit.lean ≡ false → AreTriplesOf before.mapping x (held_in before x) triples)
    → needs_anew before ≤ before.limit.terms → IfSome entries (λ (there : Entries). HasRoomAnewIn g.limit there (graph_of there x) triples)
anew_in g None before x triples follows next are room = tt
anew_in g (Some entries) before x triples follows next are room = room_remapped g.routes g.limit entries before follows x triples next are room (graph_of entries x)

pub may_have_room_anew : (graphs : Option GraphsState) (before : WorldState) (x : EntityId) (triples : List Triple) → MayFollow graphs before → next_stale before ≡ Some x → (before.limit.lean ≡ false → AreTriplesOf before.mapping x (held_in before x) triples)
    → needs_anew before ≤ before.limit.terms → MayHaveRoomAnew graphs x triples
may_have_room_anew None before x triples follows next are room = tt
may_have_room_anew (Some g) before x triples follows next are room = anew_in g g.entries before x triples follows next are room
