-- The counts so far.
use Rattle.std.proofs.Common.{◌≡◌, nat_lt, take}
use Rattle.std.specs.Prelude.{map as mapped}
use Rattle.slot_keys.proofs.keeping.marks_of.Given as goal

abbrev pub invariant-loop-count : goal.invariant-loop-count
invariant-loop-count l = l.marks.items ≡ mapped (nat_lt 0) (take l.count-index l.counts)
