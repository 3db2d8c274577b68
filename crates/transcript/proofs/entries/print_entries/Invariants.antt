-- The lines of the entries so far were written.
use Rattle.std.proofs.Common.{take, Ok}
use Rattle.std.specs.List.{flat_map}
use Rattle.text_output.specs.Printing.{Puts, output}
use Rattle.transcript.specs.Sections.{entry_text}
use Rattle.transcript.proofs.entries.print_entries.Given as goal

abbrev pub invariant-loop-index : goal.invariant-loop-index
invariant-loop-index g l =
    Puts (flat_map (entry_text l.world.replay.played.records) (take l.index l.world.replay.played.side)) (output g.K.Sink l.fn.out) (output g.K.Sink l.out) (Ok tt)
