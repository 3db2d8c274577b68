use Rattle.std.proofs.Common.{◌≡◌, ◌++◌, take}
use Rattle.triple_patch.proofs.merge.append_copies.Given as goal

abbrev pub invariant-loop-triple : goal.invariant-loop-triple
invariant-loop-triple l = l.list ≡ l.initial.list ++ take l.triple-index l.triples
