-- The head, the lines that came, and those that are gone, or a prefix of them.
use Rattle.std.proofs.Common.{◌++◌, ◌∷◌, [], ◌∙◌}
use Rattle.std.proofs.lemmas.Result.{err_from_is_err_and}
use Rattle.text_output.specs.Printing.{output}
use Rattle.text_output.proofs.Parts.{not_handed, prints_both}
use Rattle.replica.specs.Head.{head_line}
use Rattle.patch_stream.proofs.Parts.{no_came, no_head, parts_put, some_behind, some_whole}
use Rattle.patch_stream.proofs.printing.print_parts.Goals as goal

pub returns-in_err-print_head-clause-prints : goal.returns-in_err-print_head-clause-prints
returns-in_err-print_head-clause-prints g c before after is =
    let p = err_from_is_err_and c.from_residual.result c.from_residual.ensures.1 in
    rw (p.1, p.2) (no_head before after c.args.change.now is c.args.number c.in-Some.head c.in-Some.ensures.number c.in-Some.ensures.adds c.in-Some.ensures.removes _ _ _ c.in_err-print_head.ensures)

pub returns-in_err-print_merged-clause-prints : goal.returns-in_err-print_merged-clause-prints
returns-in_err-print_merged-clause-prints g c before after is =
    let p = err_from_is_err_and c.from_residual-in_err-print_merged.result c.from_residual-in_err-print_merged.ensures.1 in
    let came = c.in_err-print_merged.ensures.merged is.came.some is.came.others (c.as_slice.ensures.value ∙ is.came.first_are.text) (c.as_slice-2.ensures.value ∙ is.came.second_are.text) is.came_own is.came_stored in
    rw (p.1, p.2) (no_came before after c.args.change.now is c.args.number c.in-Some.head c.in-Some.ensures.number c.in-Some.ensures.adds c.in-Some.ensures.removes _ _ _ _ c.in_ok-print_head.ensures came)

pub returns-in_err-print_merged-2-clause-prints : goal.returns-in_err-print_merged-2-clause-prints
returns-in_err-print_merged-2-clause-prints g c before after is =
    let p = err_from_is_err_and c.from_residual-in_err-print_merged-2.result c.from_residual-in_err-print_merged-2.ensures.1 in
    let came = c.in_ok-print_merged.ensures.merged is.came.some is.came.others (c.as_slice.ensures.value ∙ is.came.first_are.text) (c.as_slice-2.ensures.value ∙ is.came.second_are.text) is.came_own is.came_stored in
    let gone = c.in_err-print_merged-2.ensures.merged is.gone.some is.gone.others (c.as_slice-3.ensures.value ∙ is.gone.first_are.text) (c.as_slice-4.ensures.value ∙ is.gone.second_are.text) is.gone_own is.gone_stored in
    rw (p.1, p.2) (not_handed _ _ _ _ (parts_put before after c.args.change.now is c.args.number c.in-Some.head c.in-Some.ensures.number c.in-Some.ensures.adds c.in-Some.ensures.removes _ _ _ _ _ c.in_ok-print_head.ensures came gone))

pub returns-clause-prints : goal.returns-clause-prints
returns-clause-prints g c before after is =
    let came = c.in_ok-print_merged.ensures.merged is.came.some is.came.others (c.as_slice.ensures.value ∙ is.came.first_are.text) (c.as_slice-2.ensures.value ∙ is.came.second_are.text) is.came_own is.came_stored in
    let gone = c.in_ok-print_merged-2.ensures.merged is.gone.some is.gone.others (c.as_slice-3.ensures.value ∙ is.gone.first_are.text) (c.as_slice-4.ensures.value ∙ is.gone.second_are.text) is.gone_own is.gone_stored in
    c.flush.ensures _ (output g.K.Sink c.args.out.now)
    (some_whole before after c.args.change.now is c.args.number c.in-Some.head c.in-Some.ensures.number c.in-Some.ensures.adds c.in-Some.ensures.removes)
    (parts_put before after c.args.change.now is c.args.number c.in-Some.head c.in-Some.ensures.number c.in-Some.ensures.adds c.in-Some.ensures.removes _ _ _ _ _ c.in_ok-print_head.ensures came gone)

pub returns-clause-later : goal.returns-clause-later
returns-clause-later g c =
    let first = c.in_ok-print_merged.ensures.written in
    let second = c.in_ok-print_merged-2.ensures.written in
    let handed = c.flush.ensures ((head_line c.in-Some.head ++ 10 ∷ []) ++ (first.0 ++ second.0)) (output g.K.Sink c.args.out.now) (some_behind (head_line c.in-Some.head) (first.0 ++ second.0))
    (prints_both _ _ _ _ _ _ c.in_ok-print_head.ensures (prints_both _ _ _ _ _ _ first.1 second.1)) in
    handed.later

pub returns-clause-most : goal.returns-clause-most
returns-clause-most g c =
    let first = c.in_ok-print_merged.ensures.written in
    let second = c.in_ok-print_merged-2.ensures.written in
    let handed = c.flush.ensures ((head_line c.in-Some.head ++ 10 ∷ []) ++ (first.0 ++ second.0)) (output g.K.Sink c.args.out.now) (some_behind (head_line c.in-Some.head) (first.0 ++ second.0))
    (prints_both _ _ _ _ _ _ c.in_ok-print_head.ensures (prints_both _ _ _ _ _ _ first.1 second.1)) in
    handed.most
