-- A page is routed to one of the graphs.
use Rattle.std.proofs.Common.{◌≡◌, ◌↔◌, ◌+◌, ◌<◌, ℕ, true, sym, subst, length, List, arith}
use Rattle.sorted_sets.specs.Rising.{has}
use Rattle.rdf_term.specs.{declared.triple.Triple.Triple, Order.triple_cmp}
use Rattle.world.specs.Routed.{routing_by}
use Rattle.splitting.proofs.Following.{route_within}
use Rattle.subgraph.specs.Laws.{routed_union}
use Rattle.fetched_pages.specs.Meaning.{meaning}
use Rattle.run_model.specs.{Course.version_at, Moment.start_of, OneRun.deliveries_of}
use Rattle.run_model.proofs.Versions.{all_held_by}
use Rattle.session_laws.proofs.premises.graphs_of_routes_are_the_union.Goals as goal

pub returns-clause-any : goal.returns-clause-any
returns-clause-any c = λ routes means records t. c.graphs_are_the_union.ensures (routing_by routes) means records (length routes + 1) (λ x rev bytes. let within = route_within routes x bytes in omega (arith, within)) t

pub returns-clause-at_end : goal.returns-clause-at_end
returns-clause-at_end c = λ routes run before now ending t.
    let version = version_at (deliveries_of ending) (start_of run before) in
    let records = now.stage.world.played.records in
    subst
    (λ (l : List Triple). (has triple_cmp t l ≡ true) ↔ ((graph : ℕ) × (graph < length routes + 1) × (has triple_cmp t (routed_union (routing_by routes) (meaning version) records graph) ≡ true)))
    (sym (all_held_by version now.stage.mapped records ending.replayed.replay.played.mapped)) (returns-clause-any c routes (meaning version) records t)
