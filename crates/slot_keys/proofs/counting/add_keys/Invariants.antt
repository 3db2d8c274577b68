-- The keys so far.
use Rattle.std.proofs.Common.{take}
use Rattle.slot_keys.specs.KeyCounts.{AddKeys}
use Rattle.slot_keys.proofs.counting.add_keys.Given as goal

abbrev pub invariant-loop-place : goal.invariant-loop-place
invariant-loop-place l = AddKeys l.keys.rising.now l.fn.counts.items l.counts.items (take l.place l.met)
