-- Graphs that follow a world.
use Rattle.std.specs.Prelude.{◌≡◌, ℕ, ◌<◌, ◌≤◌, ◌+◌, ⊤, Bool, true, false, List, Option, None, Some, Result, Err, length, IfSome, IsSome, MatchOption, option_map}
use Rattle.std.specs.FinMap as map
use Rattle.std.specs.List.{AllByRecursion}
use Rattle.sorted_sets.specs.Rising.{sorted}
use Rattle.rdf_term.specs.{declared.triple.Triple.Triple, Fit.HasFitAndShortTerms, Order.triple_cmp}
use Rattle.entity_model.specs.declared.id.EntityId.{EntityId}
use Rattle.replay_model.specs.Versions.{meaning_by}
use Rattle.graph_routes.specs.declared.routes.Route.{Route}
use Rattle.subgraph.specs.{Entries.Entries, Entries.graph_triples, Entries.terms_with, Laws.IsSplitOf}
use Rattle.subgraph.specs.Split.{entry, graph_of}
use Rattle.world.specs.declared.applied.Outcome.{Outcome}
use Rattle.world.specs.declared.applied.Outcome.TheVariants.{Same, Stored, Dropped, Sided}
use Rattle.holders.specs.Holding.{AreHolders}
use Rattle.world.specs.{declared.applied.RoutedPage.RoutedPage, Limit.whole, Routed.routing_by, WorldState.WorldState}
use Rattle.fetched_pages.specs.Meaning.{meaning}
use Rattle.text_output.specs.{declared.write.Unwritten.Unwritten, declared.write.Unwritten.TheVariants.OutOfMemory, Printing.Output}

-- graphs: the routes; how many distinct terms each graph may have; and the entry of each entity, which is the index of its graph and its
-- triples, or none where the graphs are lost
pub record GraphsState : Type 0 where
  pub routes : List Route
  pub limit : ℕ
  pub entries : Option Entries

-- each entity has its entry by what it holds: the graph that its page is routed to, and the triples that the page means by the version
-- that it is mapped by; and each graph may have as many terms as the world, which isn't lean
pub record AreEntriesOf (routes : List Route) (limit : ℕ) (world : WorldState) (entries : Entries) : Type 0 where
  pub split : IsSplitOf (routing_by routes) (meaning_by meaning world.by_two) entries world.replay.played.records
  pub holders : AreHolders world.by_two world.replay.played.records
  pub limit_is : world.limit ≡ whole limit

-- graphs follow a world, or are lost
abbrev pub Follow : GraphsState → WorldState → Type 0
Follow graphs world = IfSome graphs.entries (AreEntriesOf graphs.routes graphs.limit world)

-- if graphs are lost, memory is refused, and nothing is written of them
abbrev pub PrintNothingIfLost : GraphsState → Output → Output → Result (Unit {0}) Unwritten → Type 0
PrintNothingIfLost graphs old new result = MatchOption graphs.entries ((result ≡ Err OutOfMemory) × (new ≡ old)) (λ _. ⊤)

-- ---- graphs that there may be

-- their routes, if there are graphs
abbrev pub routes_of : Option GraphsState → Option (List Route)
routes_of graphs = option_map (λ (g : GraphsState). g.routes) graphs

-- they follow a world, if there are graphs
abbrev pub MayFollow : Option GraphsState → WorldState → Type 0
MayFollow graphs world = IfSome graphs (λ (g : GraphsState). Follow g world)

-- ---- steps

-- a page that an application stored is routed to one of so many graphs, and its terms are fit and short
abbrev pub IsSoundFor : ℕ → Outcome → Option RoutedPage → Type 0
IsSoundFor graphs Stored None = ⊤
IsSoundFor graphs Stored (Some page) = (page.graph < graphs) × AllByRecursion HasFitAndShortTerms page.triples
IsSoundFor graphs Same page = ⊤
IsSoundFor graphs Dropped page = ⊤
IsSoundFor graphs (Sided cause) page = ⊤

-- the same for the graphs of these routes
abbrev pub IsSound : List Route → Outcome → Option RoutedPage → Type 0
IsSound routes outcome page = IsSoundFor (length routes + 1) outcome page

-- the entries after an application, by its outcome and the page that it stored
abbrev pub AreEntriesAfter : Outcome → EntityId → Option RoutedPage → Entries → Entries → Type 0
AreEntriesAfter Stored x None entries now = ⊤
AreEntriesAfter Stored x (Some page) entries now = now ≡ map.insert entries x (entry page.graph (sorted triple_cmp page.triples))
AreEntriesAfter Same x page entries now = now ≡ entries
AreEntriesAfter Dropped x page entries now = now ≡ map.remove entries x
AreEntriesAfter (Sided cause) x page entries now = now ≡ entries

-- the entries once an entity has these triples in its graph, if it is in one
abbrev pub AreEntriesAnew : Option ℕ → EntityId → List Triple → Entries → Entries → Type 0
AreEntriesAnew None x triples entries now = now ≡ entries
AreEntriesAnew (Some graph) x triples entries now = now ≡ map.insert entries x (entry graph (sorted triple_cmp triples))

-- whether it takes memory to follow an application: only where a page was stored
abbrev pub takes_memory : Outcome → Option RoutedPage → Bool
takes_memory Stored None = false
takes_memory Stored (Some page) = true
takes_memory Same page = false
takes_memory Dropped page = false
takes_memory (Sided cause) page = false

-- graphs aren't lost
abbrev pub AreThere : GraphsState → Type 0
AreThere graphs = IsSome graphs.entries

-- if there are graphs, they aren't lost
abbrev pub NoneIsLost : Option GraphsState → Type 0
NoneIsLost graphs = IfSome graphs (λ (g : GraphsState). AreThere g)

-- the terms of triples are fit and short, unless the graphs are lost
abbrev pub AreFitFor : GraphsState → List Triple → Type 0
AreFitFor graphs triples = IfSome graphs.entries (λ _. AllByRecursion HasFitAndShortTerms triples)

-- the same of graphs that there may be
abbrev pub MayBeFitFor : Option GraphsState → List Triple → Type 0
MayBeFitFor graphs triples = IfSome graphs (λ (g : GraphsState). AreFitFor g triples)

-- ---- room

-- a graph has room for the triples of a page that an application stored
abbrev pub HasRoomIn : ℕ → Entries → Outcome → Option RoutedPage → Type 0
HasRoomIn limit entries Stored None = ⊤
HasRoomIn limit entries Stored (Some page) = terms_with (graph_triples entries page.graph) page.triples ≤ limit
HasRoomIn limit entries Same page = ⊤
HasRoomIn limit entries Dropped page = ⊤
HasRoomIn limit entries (Sided cause) page = ⊤

-- the same of graphs, unless they are lost, and of graphs that there may be
abbrev pub HaveRoom : GraphsState → Outcome → Option RoutedPage → Type 0
HaveRoom graphs outcome page = IfSome graphs.entries (λ (entries : Entries). HasRoomIn graphs.limit entries outcome page)

abbrev pub MayHaveRoom : Option GraphsState → Outcome → Option RoutedPage → Type 0
MayHaveRoom graphs outcome page = IfSome graphs (λ (g : GraphsState). HaveRoom g outcome page)

-- a graph, if there is one, has room for triples
abbrev pub HasRoomAnewIn : ℕ → Entries → Option ℕ → List Triple → Type 0
HasRoomAnewIn limit entries None triples = ⊤
HasRoomAnewIn limit entries (Some graph) triples = terms_with (graph_triples entries graph) triples ≤ limit

-- the graph that an entity is in has room for triples, unless the graphs are lost
abbrev pub HaveRoomAnew : GraphsState → EntityId → List Triple → Type 0
HaveRoomAnew graphs x triples = IfSome graphs.entries (λ (entries : Entries). HasRoomAnewIn graphs.limit entries (graph_of entries x) triples)

abbrev pub MayHaveRoomAnew : Option GraphsState → EntityId → List Triple → Type 0
MayHaveRoomAnew graphs x triples = IfSome graphs (λ (g : GraphsState). HaveRoomAnew g x triples)
