-- One line more.
use Rattle.std.proofs.Common.{◌<◌, ◌∙◌, ◌++◌, take, length, ap, subst, sym, arith}
use Rattle.md5.specs.Md5.{Holds}
use Rattle.triple_store.proofs.Lines.{next_line}
use Rattle.drill_replay.specs.Summary.{triple_lines}
use Rattle.drill_replay.proofs.summary.digest.Goals as goal

pub loop-index-preserved : goal.loop-index-preserved
loop-index-preserved c =
    let within : c.loop-index.index < length c.args.rows.now = omega arith in
    let more = next_line c.args.rows.now c.loop-index.index _ _ within c.in_ok-write.ensures.ok c.clear.ensures.items in
    subst (Holds c.update.new.self) (ap (λ l. triple_lines (take c.loop-index.index c.args.rows.now) ++ l) c.as_slice.ensures.value ∙ sym more) (c.update.ensures _ c.loop-index.invariant)
