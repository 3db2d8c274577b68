-- What is split is split of the bytes from the index on.
use Rattle.std.proofs.Common.{◌≡◌, take, drop}
use Rattle.term_reading.specs.Reader.{with_front}
use Rattle.replica.specs.{declared.term_end.TermState.TheVariants.Outside, TermEnd.split_term}
use Rattle.replica.proofs.term_end.split_at_space.Given as goal

abbrev pub invariant-loop-index : goal.invariant-loop-index
invariant-loop-index l = split_term Outside l.bytes ≡ with_front (take l.index l.bytes) (split_term l.state (drop l.index l.bytes))
