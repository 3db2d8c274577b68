use Rattle.std.proofs.Common.{◌<◌, length, arith}
use Rattle.triple_catalog.proofs.Differing.{more_lines}
use Rattle.triple_catalog.proofs.rows.Rows.lines.Goals as goal

pub loop-index-preserved : goal.loop-index-preserved
loop-index-preserved c =
    let within : c.loop-index.index < length c.args.self.now = omega arith in
    more_lines c.args.self.now c.loop-index.index _ _ within c.in_ok-write.ensures.ok c.loop-index.invariant
