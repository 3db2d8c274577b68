-- The graph that a page is routed to, and what is given back of one that was stored or remapped.
use Rattle.std.specs.Prelude.{◌≡◌, ℕ, ⊤, List, Option, None, Some, Result, Ok, Err, option_map}
use Rattle.rdf_term.specs.declared.triple.Triple.{Triple}
use Rattle.entity_model.specs.{declared.id.EntityId.EntityId, declared.mapping.MappingVersion.MappingVersion}
use Rattle.entity_state.specs.declared.record.Held.{Held}
use Rattle.replay_model.specs.Records.{Bytes}
use Rattle.entity_state.specs.declared.entry.Cause.{Cause}
use Rattle.graph_routes.specs.declared.routes.Route.{Route}
use Rattle.world.specs.declared.applied.Outcome.{Outcome}
use Rattle.world.specs.declared.applied.Outcome.TheVariants.{Same, Stored, Dropped, Sided}
use Rattle.holdings.specs.Mapped.{AreTriplesOf}
use Rattle.world.specs.{declared.applied.RemappedStep.RemappedStep, declared.applied.RoutedPage.RoutedPage}
use Rattle.fetched_pages.specs.declared.fetching.FetchedPage.{FetchedPage}
use Rattle.fetched_pages.specs.declared.fetching.FetchedPage.TheVariants.{Whole, Changed, Parted, Differing}
use Rattle.fetched_pages.specs.Routing.{route_of_page}

-- the graph that the bytes of a revision of x are routed to by these routes
abbrev pub routing_by : List Route → EntityId → ℕ → Bytes → ℕ
routing_by routes x rev bytes = route_of_page routes x bytes

-- the triples of a page with the graph that it is routed to
abbrev pub with_route : Option ℕ → List Triple → Option RoutedPage
with_route graph triples = option_map (λ (g : ℕ). record { graph = g; triples = triples }) graph

-- the same of a page that was fetched
abbrev pub routed_page : FetchedPage → Option RoutedPage
routed_page (Whole page) = with_route page.graph page.triples
routed_page (Changed page) = None
routed_page (Parted page) = None
routed_page (Differing page) = None

-- the same of the page that a reply has
abbrev pub routed_by : Option (Result FetchedPage Cause) → Option RoutedPage
routed_by None = None
routed_by (Some (Ok page)) = routed_page page
routed_by (Some (Err cause)) = None

-- x holds this page: the graph that it is routed to, and its triples by this version
pub record IsRouted (routes : List Route) (version : MappingVersion) (x : EntityId) (h : Held Bytes) (page : RoutedPage) : Type 0 where
  pub graph : page.graph ≡ route_of_page routes x h.content
  pub triples_are : AreTriplesOf version x (Some h) page.triples

-- of an application that stored a page of x, by this version, the page that is held then is given back
abbrev pub GivesPage : List Route → MappingVersion → EntityId → Outcome → Option (Held Bytes) → Option RoutedPage → Type 0
GivesPage routes version x Stored None page = ⊥
GivesPage routes version x Stored (Some h) None = ⊥
GivesPage routes version x Stored (Some h) (Some page) = IsRouted routes version x h page
GivesPage routes version x Same held page = ⊤
GivesPage routes version x Dropped held page = ⊤
GivesPage routes version x (Sided cause) held page = ⊤

-- the entity whose page was remapped, if one was
abbrev pub entity_of : Option RemappedStep → Option EntityId
entity_of None = None
entity_of (Some remapping) = Some remapping.entity
