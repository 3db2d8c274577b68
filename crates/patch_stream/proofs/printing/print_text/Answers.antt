-- One line more, and where a line isn't ended.
use Rattle.std.proofs.lemmas.Result.{err_from_is_err_and}
use Rattle.patch_stream.proofs.Texts.{writing_cut_short, writing_line}
use Rattle.patch_stream.proofs.printing.print_text.Goals as goal

pub returns-in_err-write_all : goal.returns-in_err-write_all
returns-in_err-write_all g c =
    let p = err_from_is_err_and c.from_residual.result c.from_residual.ensures.1 in
    let before = rw c.split_at.ensures.by_index.0 at c.loop-rest.invariant in
    rw (p.1, p.2) (writing_cut_short _ c.args.text.now c.split_at.result.0.now c.split_at.result.1.now _ _ _ before c.in_err-write_all.ensures)

pub loop-rest-preserved : goal.loop-rest-preserved
loop-rest-preserved g c =
    let before = rw c.split_at.ensures.by_index.0 at c.loop-rest.invariant in
    writing_line c.args.text.now c.split_at.result.0.now c.split_at.result.1.now _ _ _ before c.in_ok-write_all.ensures
