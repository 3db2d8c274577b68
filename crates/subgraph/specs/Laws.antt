-- What holds of routes, and of the graphs to which records are routed.
use Rattle.std.specs.Prelude.{◌≡◌, ◌↔◌, ℕ, ◌<◌, ◌≤◌, ◌==◌, true, cond, List, [], Option, None, Some}
use Rattle.std.specs.FinMap as map
use Rattle.std.specs.List.{flat_map}
use Rattle.sorted_sets.specs.Rising.{has, sorted}
use Rattle.rdf_term.specs.{declared.triple.Triple.Triple, Order.triple_cmp}
use Rattle.entity_model.specs.declared.id.EntityId.{EntityId}
use Rattle.entity_state.specs.declared.record.Held.{Held}
use Rattle.replay_model.specs.{Records.Bytes, Records.Records, Records.record_of, Union.Meaning, Union.union}
use Rattle.subgraph.specs.{Entries.Entries, Entries.Entry, Entries.graph_triples, Entries.terms_with, Split.entry}

-- the graph that the bytes of an entity's revision are routed to
abbrev pub Routing : Type 0
Routing = EntityId → ℕ → Bytes → ℕ

module _ (routing : Routing) (meaning : Meaning Triple) where
  -- the entry of an entity that holds this
  abbrev pub entry_held : EntityId → Option (Held Bytes) → Option Entry
  entry_held x None = None
  entry_held x (Some h) = Some (entry (routing x h.revision h.content) (meaning x h.revision h.content))

  -- the triples of what an entity holds, if it is routed to this graph
  abbrev pub triples_routed : ℕ → EntityId → Option (Held Bytes) → List Triple
  triples_routed graph x None = []
  triples_routed graph x (Some h) = cond (routing x h.revision h.content == graph) (meaning x h.revision h.content) []

  -- the triples of all that is held and routed to this graph
  abbrev pub routed_union : Records → ℕ → List Triple
  routed_union records graph = sorted triple_cmp (flat_map (λ e. triples_routed graph e.0 e.1.held) (map.entries records))

  -- each entity has the entry of what it holds
  pub record IsSplitOf (entries : Entries) (records : Records) : Type 0 where
    pub entry_is : (x : EntityId) → map.get entries x ≡ entry_held x (record_of records x).held

-- where each route leads to one of n graphs, a triple is in one of the graphs exactly where it is in the union of the records
abbrev pub GraphsAreTheUnion : Type 0
GraphsAreTheUnion =
    (routing : Routing) (meaning : Meaning Triple) (records : Records) (n : ℕ) → ((x : EntityId) (rev : ℕ) (bytes : Bytes) → routing x rev bytes < n) → (t : Triple) →
    (has triple_cmp t (union triple_cmp meaning records) ≡ true) ↔ ((graph : ℕ) × (graph < n) × (has triple_cmp t (routed_union routing meaning records graph) ≡ true))

-- where each entity has the entry of what it holds, a graph has the triples of what is routed to it
abbrev pub GraphsFollowTheRecords : Type 0
GraphsFollowTheRecords =
    (routing : Routing) (meaning : Meaning Triple) (entries : Entries) (records : Records) → IsSplitOf routing meaning entries records → (graph : ℕ) →
    graph_triples entries graph ≡ routed_union routing meaning records graph

-- if each entity has the entry of what it holds, a graph needs no more room, beside any other triples, than all that is held
abbrev pub GraphsNeedNoMoreRoom : Type 0
GraphsNeedNoMoreRoom =
    (routing : Routing) (meaning : Meaning Triple) (entries : Entries) (records : Records) → IsSplitOf routing meaning entries records → (graph : ℕ) (triples : List Triple) →
    terms_with (graph_triples entries graph) triples ≤ terms_with (union triple_cmp meaning records) triples
