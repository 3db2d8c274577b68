-- The triples so far.
use Rattle.std.proofs.Common.{◌≡◌, take}
use Rattle.triple_catalog.proofs.rows.Rows.to_set.Given as goal

abbrev pub invariant-loop-index : goal.invariant-loop-index
invariant-loop-index l = l.triples.items ≡ take l.index l.self
