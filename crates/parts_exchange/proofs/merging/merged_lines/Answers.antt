-- One line more, until nothing is left.
use Rattle.std.proofs.Common.{length, ap, sym, ◌∙◌, arith}
use Rattle.std.proofs.lemmas.Bool.{eqb-true}
use Rattle.std.proofs.lemmas.List.{length-append}
use Rattle.parts_exchange.proofs.MergedLines.{merging_end, merging_more}
use Rattle.parts_exchange.proofs.merging.merged_lines.Goals as goal

pub loop-left-preserved : goal.loop-left-preserved
loop-left-preserved c =
    let next = c.next_line-next.result in
    let items = c.in_ok-extend_from_slice.ensures.items in
    record {
      within = omega (arith, ap length items, length-append c.loop-left.text.items next.line.now, c.loop-left.invariant.within, c.next_line-next.ensures.some);
      merging = merging_more c.args.first.now c.args.second.now c.loop-left.left.now c.loop-left.right.now c.loop-left.text.items _ c.loop-left.count next c.next_line-next.ensures.next items c.loop-left.invariant.merging;
    }

pub returns : goal.returns
returns c =
    merging_end c.args.first.now c.args.second.now (record { count = c.loop-left.count; text = c.loop-left.text }) c.loop-left.left.now c.loop-left.right.now
    (eqb-true _ 0 (sym c.is_empty.ensures ∙ c.if-not-is_empty.false)) (eqb-true _ 0 (sym c.is_empty-else-not-is_empty.ensures ∙ c.if-not-is_empty-2.false)) c.loop-left.invariant.merging
