-- The lines so far were written, and less is left each time.
use Rattle.std.proofs.Common.{◌+◌, List, ℕ, Ok, length}
use Rattle.text_output.specs.Printing.{Puts, output}
use Rattle.patch_stream.proofs.Parts.{MergesOn}
use Rattle.patch_stream.proofs.printing.print_merged.Given as goal

abbrev pub invariant-loop-next : goal.invariant-loop-next
invariant-loop-next g l = record {
  merges : MergesOn l.first l.second l.left l.right (output g.K.Sink l.fn.out) (output g.K.Sink l.out);
  written : (text : List ℕ) × Puts text (output g.K.Sink l.fn.out) (output g.K.Sink l.out) (Ok tt);
}

abbrev pub decreases-loop-next : goal.decreases-loop-next
decreases-loop-next g l = length l.left + length l.right
