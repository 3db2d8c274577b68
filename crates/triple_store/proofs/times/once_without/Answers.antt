-- One triple more is gone, and its key counts no longer.
use Rattle.std.proofs.Common.{◌≡◌, ◌<◌, length, arith, subst, sym, ap}
use Rattle.triple_store.specs.Times.{AreLeftWithout}
use Rattle.triple_store.proofs.Timed.{without-key, without-none}
use Rattle.triple_store.proofs.times.once_without.Goals.{in-Some, in_default}
use Rattle.triple_store.proofs.times.once_without.Goals as goal

pub loop-index-preserved : goal.loop-index-preserved
loop-index-preserved c =
    let low : c.loop-index.index < length c.args.gone.now = omega arith in
    elim c.match-index_of.branch [
      | in-Some w ↦
          let long : length c.loop-index.left.items ≡ length c.args.keys.rising.now = c.loop-index.invariant.as_many in
          rw w.left-is (without-key c.args.catalog.now c.args.region.now c.requires.stored c.args.keys.rising.now c.requires.rising c.requires.there c.args.gone.now c.loop-index.index c.get-texts.result low c.get-texts.ensures w.in-Some.at w.in-Some.ensures.within w.in-Some.ensures.texts c.loop-index.left.items long c.loop-index.invariant)
      | in_default w ↦
          rw w.left-is (without-none c.args.catalog.now c.args.region.now c.requires.stored c.args.keys.rising.now c.requires.there c.loop-index.left.items c.args.gone.now c.loop-index.index c.get-texts.result low c.get-texts.ensures w.in_default.ensures.none c.loop-index.invariant)
    ]
