-- No graph has an entity.
use Rattle.std.proofs.Common.{◌≡◌, [], ◌∷◌, length, sym, ap, subst, arith}
use Rattle.std.specs.List.{AllByRecursion}
use Rattle.std.proofs.lemmas.List.{length-append}
use Rattle.subgraph.proofs.Placed.{blank_apart, blank_entries, blank_graph, blank_more}
use Rattle.subgraph.proofs.split.Split.new.Goals as goal

pub loop-preserved : goal.loop-preserved
loop-preserved c = (
  omega (arith, ap length c.in_ok-push.ensures.items, length-append c.loop.made.items (c.in-Ok.graph ∷ []), c.loop.invariant.0),
  subst (AllByRecursion (λ g. g ≡ blank_graph c.args.limit)) (sym c.in_ok-push.ensures.items) (blank_more c.args.limit c.loop.made.items c.in-Ok.graph c.loop.invariant.1 c.in-Ok.ensures),
)

pub invariant_of-result : goal.invariant_of-result
invariant_of-result c = blank_apart c.args.limit c.loop.made.items c.loop.invariant.1

pub returns : goal.returns
returns c =
    let long : length c.loop.made.items ≡ c.args.graphs = omega (arith, c.loop.invariant.0, c.loop-test.false, c.loop.auto.counter-end) in
    λ i. record { entries = blank_entries c.args.limit c.loop.made.items c.loop.invariant.1 i; graphs = long i; limit = c.args.limit }
