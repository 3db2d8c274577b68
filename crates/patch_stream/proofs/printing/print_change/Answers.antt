-- The head, the lines of what came, and those of what is gone, or a prefix of them.
use Rattle.std.proofs.Common.{◌++◌}
use Rattle.std.proofs.lemmas.Result.{err_from_is_err_and}
use Rattle.text_output.proofs.Parts.{not_handed, prints_both, prints_first, some_text}
use Rattle.text_output.specs.Printing.{output}
use Rattle.patch_stream.specs.Stream.{change_text}
use Rattle.patch_stream.proofs.Texts.{some_record}
use Rattle.patch_stream.proofs.printing.print_change.Goals as goal

pub returns-in_err-print_head : goal.returns-in_err-print_head
returns-in_err-print_head g c =
    let p = err_from_is_err_and c.from_residual.result c.from_residual.ensures.1 in
    rw (p.1, p.2) (not_handed _ _ _ _ (prints_first _ _ (c.args.change.now.came.text.items ++ c.args.change.now.gone.text.items) _ _ c.in_err-print_head.ensures))

pub returns-in_err-print_text : goal.returns-in_err-print_text
returns-in_err-print_text g c =
    let p = err_from_is_err_and c.from_residual-in_err-print_text.result c.from_residual-in_err-print_text.ensures.1 in
    rw (p.1, p.2) (not_handed _ _ _ _ (prints_both _ _ _ _ _ _ c.in_ok-print_head.ensures
    (prints_first _ c.args.change.now.came.text.items c.args.change.now.gone.text.items _ _ (rw c.as_slice.ensures.value at c.in_err-print_text.ensures))))

pub returns-in_err-print_text-2 : goal.returns-in_err-print_text-2
returns-in_err-print_text-2 g c =
    let p = err_from_is_err_and c.from_residual-in_err-print_text-2.result c.from_residual-in_err-print_text-2.ensures.1 in
    rw (p.1, p.2) (not_handed _ _ _ _ (prints_both _ _ _ _ _ _ c.in_ok-print_head.ensures
    (prints_both _ c.args.change.now.came.text.items c.args.change.now.gone.text.items _ _ _ (rw c.as_slice.ensures.value at c.in_ok-print_text.ensures) (rw c.as_slice-2.ensures.value at c.in_err-print_text-2.ensures))))

pub returns : goal.returns
returns g c =
    c.flush.ensures (change_text c.args.number c.args.change.now) (output g.K.Sink c.args.out.now) (some_text _ (some_record c.args.number c.args.change.now))
    (prints_both _ _ _ _ _ _ c.in_ok-print_head.ensures
    (prints_both _ c.args.change.now.came.text.items c.args.change.now.gone.text.items _ _ _ (rw c.as_slice.ensures.value at c.in_ok-print_text.ensures) (rw c.as_slice-2.ensures.value at c.in_ok-print_text-2.ensures)))
