-- One line more, and where a line isn't begun or isn't ended.
use Rattle.std.proofs.Common.{◌<◌, length, arith}
use Rattle.std.proofs.lemmas.Result.{err_from_is_err_and}
use Rattle.rdf_term.specs.Text.{triple_text}
use Rattle.triple_store.proofs.Lines.{next_line}
use Rattle.text_output.proofs.Parts.{text_cut_short, text_not_begun, text_printed}
use Rattle.text_output.proofs.triples.print_rows.Goals as goal

pub returns-in_err-write : goal.returns-in_err-write
returns-in_err-write g c =
    let p = err_from_is_err_and c.from_residual.result c.from_residual.ensures.1 in
    rw (p.1, p.2) (text_not_begun triple_text c.args.rows.now c.loop-index.index _ _ c.loop-index.invariant)

pub returns-in_err-write_all : goal.returns-in_err-write_all
returns-in_err-write_all g c =
    let within : c.loop-index.index < length c.args.rows.now = omega arith in
    let p = err_from_is_err_and c.from_residual-in_err-write_all.result c.from_residual-in_err-write_all.ensures.1 in
    let more = next_line c.args.rows.now c.loop-index.index _ _ within c.in_ok-write.ensures.ok c.clear.ensures.items in
    rw (p.1, p.2) (text_cut_short triple_text c.args.rows.now c.loop-index.index _ _ _ _ _ more c.loop-index.invariant (rw c.as_slice.ensures.value at c.in_err-write_all.ensures))

pub loop-index-preserved : goal.loop-index-preserved
loop-index-preserved g c =
    let within : c.loop-index.index < length c.args.rows.now = omega arith in
    let more = next_line c.args.rows.now c.loop-index.index _ _ within c.in_ok-write.ensures.ok c.clear.ensures.items in
    text_printed triple_text c.args.rows.now c.loop-index.index _ _ _ _ more c.loop-index.invariant (rw c.as_slice.ensures.value at c.in_ok-write_all.ensures)
