use Rattle.std.proofs.Common.{◌+◌, is_ok, sym, ◌∙◌, ap, arith}
use Rattle.triple_catalog.proofs.{Costs.at_most, Costs.both, Removing.next_removed, Removing.next_stays, Removing.next_there}
use Rattle.triple_catalog.proofs.catalog.Catalog.remove_beside.Goals.{in-Ok, in-Err}
use Rattle.triple_catalog.proofs.catalog.Catalog.remove_beside.Goals as goal

pub remove-requires-clause-there : goal.remove-requires-clause-there
remove-requires-clause-there g c = next_there _ _ c.requires.stored c.args.keys.now c.args.others.now c.requires.rising c.requires.there c.loop-key.key-index _ c.loop-key-test.true _ _ c.loop-key.invariant.removes

pub loop-key-preserved : goal.loop-key-preserved
loop-key-preserved g c =
    elim c.match-find_from.branch [
      | in-Ok w ↦ rw (w.self-is, w.region-is, w.steps-is) (record { removes = next_stays _ _ c.requires.stored c.args.keys.now c.args.others.now c.requires.rising c.requires.there c.loop-key.key-index _ c.loop-key-test.true _ _ c.loop-key.invariant.removes (sym c.find_from.ensures.there ∙ ap is_ok w.in-Ok.is); cost = at_most _ _ 0 0 c.loop-key.key-index (c.loop-key.key-index + 1) _ _ (omega arith) (omega arith) c.loop-key.invariant.cost })
      | in-Err w ↦ rw (w.self-is, w.region-is, w.steps-is) (record { removes = next_removed _ _ c.requires.stored c.args.keys.now c.args.others.now c.requires.rising c.requires.there c.loop-key.key-index _ c.loop-key-test.true _ _ _ _ c.loop-key.invariant.removes (sym c.find_from.ensures.there ∙ ap is_ok w.in-Err.is) w.remove.ensures.stored w.remove.ensures.lowered w.remove.ensures.keeps w.remove.ensures.beside w.remove.ensures.limit; cost = both _ _ _ 0 0 c.loop-key.key-index 1 _ _ _ c.loop-key.invariant.cost w.remove.ensures.cost })
    ]
