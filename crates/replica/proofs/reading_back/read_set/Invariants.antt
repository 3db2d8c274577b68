-- The list has the triples so far.
use Rattle.std.proofs.Common.{◌≡◌, take}
use Rattle.replica.proofs.reading_back.read_set.Given as goal

abbrev pub invariant-loop-index : goal.invariant-loop-index
invariant-loop-index l = l.list ≡ take l.index l.triples
