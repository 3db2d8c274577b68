-- The lines so far stand behind what was there.
use Rattle.std.proofs.Common.{◌≡◌, ◌++◌, take, flat_map}
use Rattle.rdf_term.specs.Text.{triple_text}
use Rattle.replica.proofs.record.write_triples.Given as goal

abbrev pub invariant-loop-index : goal.invariant-loop-index
invariant-loop-index l = l.out.items ≡ l.fn.out.items ++ flat_map triple_text (take l.index l.triples)
