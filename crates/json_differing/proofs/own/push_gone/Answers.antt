-- One more is gone.
use Rattle.std.proofs.Common.{◌+◌, ◌<◌, length, List, map, take, sym, subst, arith}
use Rattle.sorted_sets.specs.Merging.{Merges}
use Rattle.json_differing.specs.declared.spelled.Spelled.{Spelled}
use Rattle.json_differing.specs.Spelled.{spelled_view}
use Rattle.json_differing.proofs.Owning.{gone_more, views}
use Rattle.json_differing.proofs.own.push_gone.Goals as goal

pub loop-index-preserved : goal.loop-index-preserved
loop-index-preserved c common h =
    let low : c.loop-index.index < length c.args.olds.now = omega (arith, c.requires.within, c.loop-index-test.true) in
    subst (λ (l : List Spelled). Merges common (map spelled_view l) (views (take (c.loop-index.index + 1) c.args.olds.now))) (sym c.in_ok-push.ensures.items)
    (gone_more c.args.olds.now c.loop-index.gone.items c.loop-index.index _ common low (c.loop-index.invariant common h))
