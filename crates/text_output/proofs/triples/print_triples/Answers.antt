-- No memory for the head.
use Rattle.std.proofs.lemmas.Result.{err_from_is_err_and}
use Rattle.text_output.specs.Printing.{output}
use Rattle.text_output.proofs.Parts.{cut_short_at_once}
use Rattle.text_output.proofs.triples.print_triples.Goals as goal

pub returns-in_err-head : goal.returns-in_err-head
returns-in_err-head g c =
    let p = err_from_is_err_and c.from_residual.result c.from_residual.ensures.1 in
    rw (p.1, p.2) (cut_short_at_once _ (output g.K.Sink c.args.out.now))
