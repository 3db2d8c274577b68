-- A prefix was written, and this is the rest.
use Rattle.std.proofs.Common.{length}
use Rattle.text_output.specs.Printing.{output}
use Rattle.text_output.proofs.Parts.{IsWriting}
use Rattle.patch_stream.proofs.printing.print_text.Given as goal

abbrev pub invariant-loop-rest : goal.invariant-loop-rest
invariant-loop-rest g l = IsWriting l.text l.rest (output g.K.Sink l.fn.out) (output g.K.Sink l.out)

abbrev pub decreases-loop-rest : goal.decreases-loop-rest
decreases-loop-rest g l = length l.rest
