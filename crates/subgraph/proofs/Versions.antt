-- What is routed to a graph, where every page is mapped by one version.
use Rattle.std.proofs.Common.{◌≡◌, ℕ, true, List, Option, None, Some, is_some, unwrap_or, refl, sym, ◌∙◌, ap, subst}
use Rattle.std.specs.FinMap as map
use Rattle.sorted_sets.specs.Rising.{has}
use Rattle.rdf_term.specs.{declared.triple.Triple.Triple, Order.triple_cmp}
use Rattle.entity_model.specs.{declared.id.EntityId.EntityId, declared.mapping.MappingVersion.MappingVersion}
use Rattle.entity_state.specs.{declared.record.Held.Held, declared.record.Record.Record, Record.blank}
use Rattle.replay_model.specs.{Records.Bytes, Records.Records, Union.Meaning, Versions.all_by, Versions.meaning_by}
use Rattle.replay_model.proofs.Versions.{version-all}
use Rattle.subgraph.specs.Laws.{Routing, routed_union, triples_routed}
use Rattle.subgraph.proofs.Owning.{gathered_if, same_gathered}

module _ (routing : Routing) (meaning : MappingVersion → Meaning Triple) (v : MappingVersion) (records : Records) (graph : ℕ) where
  abbrev by_each : Meaning Triple
  by_each = meaning_by meaning (all_by v records)

  same : (x : EntityId) (r : Record Bytes) (o : Option (Held Bytes)) → r.held ≡ o → map.get records x ≡ Some r
      → triples_routed routing by_each graph x r.held ≡ triples_routed routing (meaning v) graph x r.held
  same x r None is at = ap (triples_routed routing by_each graph x) is ∙ sym (ap (triples_routed routing (meaning v) graph x) is)
  same x r (Some h) is at =
      ap (triples_routed routing by_each graph x) is
      ∙ ap (λ w. triples_routed routing (meaning w) graph x (Some h)) (version-all v records x (ap (λ (o : Option (Record Bytes)). is_some (unwrap_or o blank).held) at ∙ ap is_some is))
      ∙ sym (ap (triples_routed routing (meaning v) graph x) is)

  -- the triples are those of this version's meaning
  pub routed-all : routed_union routing by_each records graph ≡ routed_union routing (meaning v) records graph
  routed-all =
      same_gathered (λ (e : EntityId × Record Bytes). triples_routed routing by_each graph e.0 e.1.held) (λ (e : EntityId × Record Bytes). triples_routed routing (meaning v) graph e.0 e.1.held) records records
      (λ x r t at there. gathered_if (λ (e : EntityId × Record Bytes). triples_routed routing (meaning v) graph e.0 e.1.held) records x r t at
      (subst (λ (ts : List Triple). has triple_cmp t ts ≡ true) (same x r r.held refl at) there))
      (λ x r t at there. gathered_if (λ (e : EntityId × Record Bytes). triples_routed routing by_each graph e.0 e.1.held) records x r t at
      (subst (λ (ts : List Triple). has triple_cmp t ts ≡ true) (sym (same x r r.held refl at)) there))
