use Rattle.std.proofs.Common.{◌≡◌, take}
use Rattle.rdf_term.specs.Text.{escaped}
use Rattle.term_pool.proofs.walk.put_each.Given as goal

abbrev pub invariant-loop-byte : goal.invariant-loop-byte
invariant-loop-byte g l = l.sink ≡ g.S.TextSink.after l.fn.sink (escaped (take l.byte-index l.text))
