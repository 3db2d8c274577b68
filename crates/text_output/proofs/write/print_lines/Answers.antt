-- One line more, and where a line isn't ended.
use Rattle.std.proofs.Common.{◌≡◌, ◌∙◌, ap, arith, flat_map, string_bytes, take}
use Rattle.std.proofs.lemmas.List.{take_all}
use Rattle.std.proofs.lemmas.Result.{err_from_is_err_and}
use Rattle.text_output.specs.Printing.{output}
use Rattle.text_output.proofs.Parts.{not_handed, some_more, text_cut_short, text_more, text_printed}
use Rattle.text_output.proofs.write.print_lines.Goals as goal

pub returns-in_err-write_all : goal.returns-in_err-write_all
returns-in_err-write_all g c =
    let p = err_from_is_err_and c.from_residual.result c.from_residual.ensures.1 in
    let line = c.as_bytes-line.ensures.value ∙ ap string_bytes c.line-item.is in
    rw (p.1, p.2) (not_handed _ _ _ _ (text_cut_short string_bytes c.args.lines.now c.loop-line.line-index _ _ _ _ _ (text_more string_bytes c.args.lines.now _ c.line-item.result c.loop-line-test.true)
    c.loop-line.invariant.0 (rw line at c.in_err-write_all.ensures)))

pub loop-line-preserved : goal.loop-line-preserved
loop-line-preserved g c =
    let line = c.as_bytes-line.ensures.value ∙ ap string_bytes c.line-item.is in
    let more = text_more string_bytes c.args.lines.now c.loop-line.line-index c.line-item.result c.loop-line-test.true in (
      text_printed string_bytes c.args.lines.now c.loop-line.line-index _ _ _ _ more c.loop-line.invariant.0 (rw line at c.in_ok-write_all.ensures),
      rw more (some_more _ _ _ _ c.loop-line.invariant.1 (rw line at c.is_empty.ensures)),
    )

pub returns : goal.returns
returns g c =
    let all : take c.loop-line.line-index c.args.lines.now ≡ c.args.lines.now = take_all c.loop-line.line-index c.args.lines.now (omega arith) in
    c.flush.ensures (flat_map string_bytes c.args.lines.now) (output g.K.Sink c.args.out.now) (rw all at c.loop-line.invariant.1) (rw all at c.loop-line.invariant.0)
