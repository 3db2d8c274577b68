-- One key more is looked up, and is found where it has one owner.
use Rattle.std.proofs.Common.{◌+◌, length, is_ok, sym, ◌∙◌, ap, arith}
use Rattle.std.specs.FinMap as map
use Rattle.std.proofs.lemmas.List.{take_all}
use Rattle.triple_catalog.specs.Lines.{sole}
use Rattle.triple_catalog.proofs.{Costs.at_most, Costs.one_looked_up, Sole.sole_among_others, Sole.sole_one, Sole.sole_several}
use Rattle.triple_catalog.proofs.catalog.Catalog.sole_keys.Goals as goal
use Rattle.triple_catalog.proofs.catalog.Catalog.sole_keys.Goals.{in-Ok, in-Err+then-count-eq1+in_ok-push-in-Err, in-Err+else-count-eq1}

pub returns-in_err-push-in-Err-clause-cost : goal.returns-in_err-push-in-Err-clause-cost
returns-in_err-push-in-Err-clause-cost g c =
    let n = map.len c.args.self.now.index in
    at_most n n 0 0 (c.loop-key.key-index + 1) (length c.args.keys.now) _ _ (omega arith) (omega (arith, c.loop-key-test.true)) (one_looked_up n c.loop-key.key-index _ _ _ c.loop-key.invariant.cost c.count.ensures.cost)

pub loop-key-preserved : goal.loop-key-preserved
loop-key-preserved g c =
    elim c.match-find_from.branch [
      | in-Ok w ↦ rw (w.found-is, w.steps-is) (record {
        sole = sole_among_others c.args.self.now c.args.keys.now c.args.others.now c.loop-key.found.items c.loop-key.key-index _ c.loop-key-test.true c.loop-key.invariant.sole (sym c.find_from.ensures.there ∙ ap is_ok w.in-Ok.is);
        cost = at_most _ _ 0 0 c.loop-key.key-index (c.loop-key.key-index + 1) _ _ (omega arith) (omega arith) c.loop-key.invariant.cost;
      })
      | in-Err+then-count-eq1+in_ok-push-in-Err w ↦ rw (w.found-is, w.steps-is) (record {
        sole = sole_one c.args.self.now c.args.keys.now c.args.others.now c.loop-key.found.items c.loop-key.key-index _ c.loop-key-test.true c.loop-key.invariant.sole (sym c.find_from.ensures.there ∙ ap is_ok w.in-Err.is) w.count.result w.count.ensures.count w.if-count-eq1.true w.push.new.self.items w.in_ok-push-in-Err.ensures.items;
        cost = one_looked_up _ c.loop-key.key-index _ _ _ c.loop-key.invariant.cost w.count.ensures.cost;
      })
      | in-Err+else-count-eq1 w ↦ rw (w.found-is, w.steps-is) (record {
        sole = sole_several c.args.self.now c.args.keys.now c.args.others.now c.loop-key.found.items c.loop-key.key-index _ c.loop-key-test.true c.loop-key.invariant.sole (sym c.find_from.ensures.there ∙ ap is_ok w.in-Err.is) w.count.result w.count.ensures.count w.if-count-eq1.false;
        cost = one_looked_up _ c.loop-key.key-index _ _ _ c.loop-key.invariant.cost w.count.ensures.cost;
      })
    ]

pub returns-clause-sole : goal.returns-clause-sole
returns-clause-sole g c = c.loop-key.invariant.sole ∙ ap (λ ks. sole c.args.self.now ks c.args.others.now) (take_all c.loop-key.key-index c.args.keys.now (omega (arith, c.loop-key-test.false)))
