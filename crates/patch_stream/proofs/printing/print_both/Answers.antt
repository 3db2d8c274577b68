-- One text and then the other.
use Rattle.std.proofs.lemmas.Result.{err_from_is_err_and}
use Rattle.text_output.proofs.Parts.{prints_both, prints_first}
use Rattle.patch_stream.proofs.printing.print_both.Goals as goal

pub returns-in_err-write_all : goal.returns-in_err-write_all
returns-in_err-write_all g c =
    let p = err_from_is_err_and c.from_residual.result c.from_residual.ensures.1 in
    rw (p.1, p.2) (prints_first _ c.args.left.now c.args.right.now _ _ c.in_err-write_all.ensures)

pub returns : goal.returns
returns g c = prints_both _ c.args.left.now c.args.right.now _ _ _ c.in_ok-write_all.ensures c.write_all-2.ensures
