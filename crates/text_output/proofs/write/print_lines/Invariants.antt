-- The lines so far were written, and whether any byte was.
use Rattle.std.proofs.Common.{◌≡◌, length, nat_lt, take, string_bytes, Ok}
use Rattle.std.specs.List.{flat_map}
use Rattle.text_output.specs.Printing.{Puts, output}
use Rattle.text_output.proofs.write.print_lines.Given as goal

abbrev pub invariant-loop-line : goal.invariant-loop-line
invariant-loop-line g l =
    Puts (flat_map string_bytes (take l.line-index l.lines)) (output g.K.Sink l.fn.out) (output g.K.Sink l.out) (Ok tt)
    × (l.is_printed ≡ nat_lt 0 (length (flat_map string_bytes (take l.line-index l.lines))))
