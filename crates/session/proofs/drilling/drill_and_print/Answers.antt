-- Memory refused in the drill and after it; and the summary, printed or not wholly.
use Rattle.std.proofs.Common.{◌≡◌, ◌∙◌, ap, subst, map, string_bytes, IfErr, OnOk}
use Rattle.std.proofs.lemmas.Result.{err_from_is_err_and}
use Rattle.drill_replay.specs.Summary.{drilled, summary_lines, summary_of}
use Rattle.text_output.specs.Printing.{output}
use Rattle.session.specs.Plans.{DrillStopped, HasDrilled}
use Rattle.session.proofs.Drills.{all_printed, not_begun, printed_in_part, printed_on, silent_on}
use Rattle.session.proofs.drilling.drill_and_print.Goals as goal

pub returns-in_err-counts-clause-err : goal.returns-in_err-counts-clause-err
returns-in_err-counts-clause-err g c =
    let p = err_from_is_err_and c.from_residual.result c.from_residual.ensures.1 in
    rw (p.1, p.2) (not_begun c.args.size _ _ _ c.play.ensures.silent c.play.ensures.begun)

pub returns-in_err-summary-clause-err : goal.returns-in_err-summary-clause-err
returns-in_err-summary-clause-err g c =
    let p = err_from_is_err_and c.from_residual-in_err-summary.result c.from_residual-in_err-summary.ensures.1 in
    rw (p.1, p.2) (not_begun c.args.size _ _ _ c.play.ensures.silent c.play.ensures.begun)

pub returns-in_err-lines-clause-err : goal.returns-in_err-lines-clause-err
returns-in_err-lines-clause-err g c =
    let p = err_from_is_err_and c.from_residual-in_err-lines.result c.from_residual-in_err-lines.ensures.1 in
    rw (p.1, p.2) (not_begun c.args.size _ _ _ c.play.ensures.silent c.play.ensures.begun)

pub returns-clause-ok : goal.returns-clause-ok
returns-clause-ok g c =
    let are : map string_bytes c.as_slice.result.now ≡ summary_lines (summary_of c.args.size) =
    ap (map string_bytes) c.as_slice.ensures.value ∙ c.in_ok-lines.ensures ∙ ap summary_lines c.in_ok-summary.ensures in
    let is : c.play.new.replay.world.replay ≡ drilled c.args.size = c.in_ok-counts.ensures.ok in
    subst (λ o. OnOk c.print_lines.result (HasDrilled c.args.size o (output g.K.Sink c.print_lines.new.out) c.play.new.replay.world.replay)) c.play.ensures.silent
    (all_printed string_bytes c.as_slice.result.now c.args.size _ _ _ are is c.print_lines.result c.print_lines.ensures)

pub returns-clause-err : goal.returns-clause-err
returns-clause-err g c =
    let are : map string_bytes c.as_slice.result.now ≡ summary_lines (summary_of c.args.size) =
    ap (map string_bytes) c.as_slice.ensures.value ∙ c.in_ok-lines.ensures ∙ ap summary_lines c.in_ok-summary.ensures in
    let is : c.play.new.replay.world.replay ≡ drilled c.args.size = c.in_ok-counts.ensures.ok in
    subst (λ o. IfErr c.print_lines.result (λ why. DrillStopped why c.args.size o (output g.K.Sink c.print_lines.new.out) c.play.new.replay.world.replay)) c.play.ensures.silent
    (printed_in_part string_bytes c.as_slice.result.now c.args.size _ _ _ are is c.print_lines.result c.play.ensures.begun c.print_lines.ensures)

pub returns-in_err-counts-clause-written : goal.returns-in_err-counts-clause-written
returns-in_err-counts-clause-written g c = silent_on g.K.Sink c.args.out.now c.play.new.out c.play.ensures.silent

pub returns-in_err-summary-clause-written : goal.returns-in_err-summary-clause-written
returns-in_err-summary-clause-written g c = silent_on g.K.Sink c.args.out.now c.play.new.out c.play.ensures.silent

pub returns-in_err-lines-clause-written : goal.returns-in_err-lines-clause-written
returns-in_err-lines-clause-written g c = silent_on g.K.Sink c.args.out.now c.play.new.out c.play.ensures.silent

pub returns-clause-written : goal.returns-clause-written
returns-clause-written g c = printed_on g.K.Sink c.args.out.now c.play.new.out c.print_lines.new.out c.play.ensures.silent c.print_lines.ensures
