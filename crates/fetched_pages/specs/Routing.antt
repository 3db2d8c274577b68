-- The graph that a page is routed to.
use Rattle.std.specs.Prelude.{◌≡◌, ℕ, ⊤, List, Option, None, Some, Result, Ok, Err, length, option_map}
use Rattle.entity_json.specs.Document.{document_of}
use Rattle.entity_model.specs.{declared.document.Document.Document, declared.id.EntityId.EntityId}
use Rattle.replay_model.specs.Records.{Bytes}
use Rattle.entity_state.specs.declared.entry.Cause.{Cause}
use Rattle.graph_routes.specs.{declared.routes.Route.Route, Routing.route_of}
use Rattle.fetched_pages.specs.declared.fetching.FetchedPage.{FetchedPage}
use Rattle.fetched_pages.specs.declared.fetching.FetchedPage.TheVariants.{Whole, Changed, Parted, Differing}
use Rattle.fetched_pages.specs.Fetched.{bytes_of}

-- the graph that a document is routed to; the last graph where there is none
abbrev pub route_if : List Route → Option Document → ℕ
route_if routes None = length routes
route_if routes (Some document) = route_of routes document

-- the graph that the bytes of a page of x are routed to: that of their document
abbrev pub route_of_page : List Route → EntityId → Bytes → ℕ
route_of_page routes x bytes = route_if routes (document_of x bytes)

-- the same, where there are routes
abbrev pub route_by : Option (List Route) → EntityId → Bytes → Option ℕ
route_by routes x bytes = option_map (λ (r : List Route). route_of_page r x bytes) routes

-- the graph that is told of a page: none is of one that has those triples alone that it changes, or has them in two parts
abbrev pub graph_of : FetchedPage → Option ℕ
graph_of (Whole page) = page.graph
graph_of (Changed page) = None
graph_of (Parted page) = None
graph_of (Differing page) = None

-- a reply that has a page has its graph
abbrev pub IsReplyRouted : Option (List Route) → EntityId → Result FetchedPage Cause → Type 0
IsReplyRouted routes x (Ok page) = graph_of page ≡ route_by routes x (bytes_of page)
IsReplyRouted routes x (Err cause) = ⊤

-- the same, where a fetch was made
abbrev pub AreRouted : Option (List Route) → EntityId → Option (Result FetchedPage Cause) → Type 0
AreRouted routes x None = ⊤
AreRouted routes x (Some reply) = IsReplyRouted routes x reply
