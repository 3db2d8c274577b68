-- One key more is looked up; none has one owner until one is found.
use Rattle.std.proofs.Common.{◌+◌, [], length, nat_lt, is_ok, sym, ◌∙◌, ap, arith}
use Rattle.std.specs.FinMap as map
use Rattle.std.proofs.lemmas.List.{take_all}
use Rattle.triple_catalog.specs.Lines.{sole}
use Rattle.triple_catalog.proofs.{Costs.at_most, Costs.one_looked_up, Sole.sole_among_others, Sole.sole_found, Sole.sole_several}
use Rattle.triple_catalog.proofs.catalog.Catalog.has_sole.Goals as goal
use Rattle.triple_catalog.proofs.catalog.Catalog.has_sole.Goals.{in-Ok, in-Err+else-count-eq1}

pub returns-then-count-eq1-clause-some : goal.returns-then-count-eq1-clause-some
returns-then-count-eq1-clause-some g c =
    sole_found c.args.self.now c.args.keys.now c.args.others.now [] c.loop-key.key-index _ c.loop-key-test.true c.loop-key.invariant.none c.loop-key.invariant.none (sym c.find_from.ensures.there ∙ ap is_ok c.in-Err.is) c.count.result c.count.ensures.count c.if-count-eq1.true

pub returns-then-count-eq1-clause-cost : goal.returns-then-count-eq1-clause-cost
returns-then-count-eq1-clause-cost g c =
    let n = map.len c.args.self.now.index in
    at_most n n 0 0 (c.loop-key.key-index + 1) (length c.args.keys.now) _ _ (omega arith) (omega (arith, c.loop-key-test.true)) (one_looked_up n c.loop-key.key-index _ _ _ c.loop-key.invariant.cost c.count.ensures.cost)

pub loop-key-preserved : goal.loop-key-preserved
loop-key-preserved g c =
    elim c.match-find_from.branch [
      | in-Ok w ↦ rw w.steps-is (record {
        none = sole_among_others c.args.self.now c.args.keys.now c.args.others.now [] c.loop-key.key-index _ c.loop-key-test.true c.loop-key.invariant.none (sym c.find_from.ensures.there ∙ ap is_ok w.in-Ok.is);
        cost = at_most _ _ 0 0 c.loop-key.key-index (c.loop-key.key-index + 1) _ _ (omega arith) (omega arith) c.loop-key.invariant.cost;
      })
      | in-Err+else-count-eq1 w ↦ rw w.steps-is (record {
        none = sole_several c.args.self.now c.args.keys.now c.args.others.now [] c.loop-key.key-index _ c.loop-key-test.true c.loop-key.invariant.none (sym c.find_from.ensures.there ∙ ap is_ok w.in-Err.is) w.count.result w.count.ensures.count w.if-count-eq1.false;
        cost = one_looked_up _ c.loop-key.key-index _ _ _ c.loop-key.invariant.cost w.count.ensures.cost;
      })
    ]

pub returns-clause-some : goal.returns-clause-some
returns-clause-some g c = ap (λ ks. nat_lt 0 (length ks)) (c.loop-key.invariant.none ∙ ap (λ ks. sole c.args.self.now ks c.args.others.now) (take_all c.loop-key.key-index c.args.keys.now (omega (arith, c.loop-key-test.false))))
