use Rattle.std.proofs.Common.{◌≡◌, ◌++◌, take}
use Rattle.rdf_term.specs.Text.{escaped}
use Rattle.rdf_term.proofs.write.append_each.Given as goal

abbrev pub invariant-loop-byte : goal.invariant-loop-byte
invariant-loop-byte l = l.out.items ≡ l.fn.out.items ++ escaped (take l.byte-index l.text)
