-- The triples so far.
use Rattle.std.proofs.Common.{take}
use Rattle.triple_store.specs.Times.{AreLeftWithout}
use Rattle.triple_store.proofs.times.once_without.Given as goal

abbrev pub invariant-loop-index : goal.invariant-loop-index
invariant-loop-index l = AreLeftWithout l.catalog l.region l.keys.rising.now l.left.items (take l.index l.gone)
