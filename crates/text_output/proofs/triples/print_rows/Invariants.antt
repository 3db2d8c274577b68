-- The lines of the triples so far were written.
use Rattle.std.proofs.Common.{take, Ok}
use Rattle.std.specs.List.{flat_map}
use Rattle.rdf_term.specs.Text.{triple_text}
use Rattle.text_output.specs.Printing.{Puts, output}
use Rattle.text_output.proofs.triples.print_rows.Given as goal

abbrev pub invariant-loop-index : goal.invariant-loop-index
invariant-loop-index g l = Puts (flat_map triple_text (take l.index l.rows)) (output g.K.Sink l.fn.out) (output g.K.Sink l.out) (Ok tt)
