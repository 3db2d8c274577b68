-- The triples so far.
use Rattle.std.proofs.Common.{take}
use Rattle.triple_store.specs.Times.{AddTimes}
use Rattle.triple_store.proofs.times.less_times.Given as goal

abbrev pub invariant-loop-index : goal.invariant-loop-index
invariant-loop-index l = AddTimes l.catalog l.region l.keys.rising.now l.left.items l.fn.counts.items (take l.index l.triples)
