-- A triple that has an owner is stored, and has one less.
use Rattle.std.proofs.Common.{get_or, subst, sym}
use Rattle.triple_catalog.specs.Slots.{HasTriple}
use Rattle.triple_catalog.proofs.{Costs.both, Patched.key_of_stored, Patched.next_lost, Patched.next_owned, Patched.some_key}
use Rattle.triple_catalog.proofs.catalog.Catalog.remove_all.Goals as goal

pub unreachable-requires : goal.unreachable-requires
unreachable-requires g c =
    let d = c.triple-item.result in
    let some = next_owned c.args.self.now c.args.region.now c.args.triples.now c.requires.rising c.requires.there c.loop-triple.triple-index d c.loop-triple-test.true c.loop-triple.self c.loop-triple.region c.loop-triple.invariant.loses in
    let k = some_key c.loop-triple.self c.loop-triple.region (get_or c.args.triples.now c.loop-triple.triple-index d) c.loop-triple.invariant.loses.stored some in
    c.in_default.ensures.nowhere k.0 (subst (HasTriple c.loop-triple.self.pool c.loop-triple.region k.0) (sym c.triple-item.is) k.1)

pub remove-requires-clause-there : goal.remove-requires-clause-there
remove-requires-clause-there g c =
    let d = c.triple-item.result in
    let some = next_owned c.args.self.now c.args.region.now c.args.triples.now c.requires.rising c.requires.there c.loop-triple.triple-index d c.loop-triple-test.true c.loop-triple.self c.loop-triple.region c.loop-triple.invariant.loses in
    key_of_stored c.loop-triple.self c.loop-triple.region c.in-Some.key (get_or c.args.triples.now c.loop-triple.triple-index d) c.loop-triple.invariant.loses.stored some
    (subst (HasTriple c.loop-triple.self.pool c.loop-triple.region c.in-Some.key) c.triple-item.is c.in-Some.ensures.found)

pub loop-triple-preserved : goal.loop-triple-preserved
loop-triple-preserved g c = record {
  loses = next_lost c.args.self.now c.args.region.now c.args.triples.now c.requires.rising c.requires.there c.loop-triple.triple-index c.triple-item.result c.loop-triple-test.true c.loop-triple.self c.loop-triple.region c.loop-triple.invariant.loses
      c.in-Some.key c.remove.new.self c.remove.new.region
      (subst (HasTriple c.loop-triple.self.pool c.loop-triple.region c.in-Some.key) c.triple-item.is c.in-Some.ensures.found)
      c.remove.ensures.stored c.remove.ensures.lowered c.remove.ensures.keeps c.remove.ensures.beside c.remove.ensures.limit;
  cost = both _ _ _ 0 0 c.loop-triple.triple-index 1 _ _ _ c.loop-triple.invariant.cost c.remove.ensures.cost;
}
