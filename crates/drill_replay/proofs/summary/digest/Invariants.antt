-- The lines of the triples so far were hashed.
use Rattle.std.proofs.Common.{take}
use Rattle.md5.specs.Md5.{Holds}
use Rattle.drill_replay.specs.Summary.{triple_lines}
use Rattle.drill_replay.proofs.summary.digest.Given as goal

abbrev pub invariant-loop-index : goal.invariant-loop-index
invariant-loop-index l = Holds l.hasher (triple_lines (take l.index l.rows))
