-- One line more, until one text is empty.
use Rattle.std.proofs.Common.{◌++◌, []}
use Rattle.std.proofs.lemmas.Result.{err_from_is_err_and}
use Rattle.text_output.proofs.Parts.{prints_both, prints_nothing}
use Rattle.patch_stream.proofs.Parts.{merging_begun, merging_cut_short, merging_done, merging_on}
use Rattle.patch_stream.proofs.printing.print_merged.Goals as goal

pub returns-in_err-write_all-clause-merged : goal.returns-in_err-write_all-clause-merged
returns-in_err-write_all-clause-merged g c some others are those ordered orders =
    let p = err_from_is_err_and c.from_residual.result c.from_residual.ensures.1 in
    rw (p.1, p.2) (merging_cut_short c.args.first.now c.args.second.now _ _ _ _ c.loop-next.invariant.merges c.next_line-next.result c.next_line-next.ensures.next _ _ c.in_err-write_all.ensures some others are those ordered orders)

pub returns-in_err-write_all-clause-written : goal.returns-in_err-write_all-clause-written
returns-in_err-write_all-clause-written g c =
    let p = err_from_is_err_and c.from_residual.result c.from_residual.ensures.1 in
    rw (p.1, p.2) (c.loop-next.invariant.written.0 ++ c.next_line-next.result.line.now, prints_both _ _ _ _ _ _ c.loop-next.invariant.written.1 c.in_err-write_all.ensures)

pub loop-next-init : goal.loop-next-init
loop-next-init g c = record { merges = merging_begun c.args.first.now c.args.second.now _; written = ([], prints_nothing _) }

pub loop-next-preserved : goal.loop-next-preserved
loop-next-preserved g c = record {
  merges = merging_on c.args.first.now c.args.second.now _ _ _ _ c.loop-next.invariant.merges c.next_line-next.result c.next_line-next.ensures.next _ c.in_ok-write_all.ensures;
  written = (c.loop-next.invariant.written.0 ++ c.next_line-next.result.line.now, prints_both _ _ _ _ _ _ c.loop-next.invariant.written.1 c.in_ok-write_all.ensures);
}

pub returns-clause-merged : goal.returns-clause-merged
returns-clause-merged g c =
    merging_done _ c.args.first.now c.args.second.now _ _ _ _ _ (c.are_both.ensures.either c.loop-next-test.false) c.loop-next.invariant.merges c.print_both.ensures

pub returns-clause-written : goal.returns-clause-written
returns-clause-written g c = (c.loop-next.invariant.written.0 ++ _, prints_both _ _ _ _ _ _ c.loop-next.invariant.written.1 c.print_both.ensures)
