-- The head, or a prefix of it; then the lines, or a prefix of them.
use Rattle.std.proofs.Common.{◌∙◌, ap, ◌++◌, flat_map, nat_lt}
use Rattle.std.proofs.lemmas.Result.{err_from_is_err_and}
use Rattle.rdf_term.specs.Text.{triple_text}
use Rattle.text_output.proofs.Parts.{not_handed, prints_both, prints_first, some_parts, some_texts, some_triple}
use Rattle.text_output.specs.Printing.{output}
use Rattle.text_output.proofs.triples.print_section.Goals as goal

pub returns-in_err-write_all : goal.returns-in_err-write_all
returns-in_err-write_all g c =
    let p = err_from_is_err_and c.from_residual.result c.from_residual.ensures.1 in
    rw (p.1, p.2) (not_handed _ _ _ _ (prints_first _ c.args.head.now (flat_map triple_text c.args.rows.now) _ _ (rw c.as_bytes.ensures.value at c.in_err-write_all.ensures)))

pub returns-in_err-print_rows : goal.returns-in_err-print_rows
returns-in_err-print_rows g c =
    let p = err_from_is_err_and c.from_residual-in_err-print_rows.result c.from_residual-in_err-print_rows.ensures.1 in
    rw (p.1, p.2) (not_handed _ _ _ _ (prints_both _ c.args.head.now (flat_map triple_text c.args.rows.now) _ _ _ (rw c.as_bytes.ensures.value at c.in_ok-write_all.ensures) c.in_err-print_rows.ensures))

pub returns : goal.returns
returns g c =
    c.flush.ensures (c.args.head.now ++ flat_map triple_text c.args.rows.now) (output g.K.Sink c.args.out.now)
    (some_parts _ _ c.args.head.now (flat_map triple_text c.args.rows.now) c.is_empty.ensures (ap (nat_lt 0) c.len.ensures ∙ some_texts triple_text some_triple c.args.rows.now))
    (prints_both _ c.args.head.now (flat_map triple_text c.args.rows.now) _ _ _ (rw c.as_bytes.ensures.value at c.in_ok-write_all.ensures) c.in_ok-print_rows.ensures)
