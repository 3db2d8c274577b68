-- The old keys so far, and the others below the next one, are put.
use Rattle.std.proofs.Common.{◌≡◌, ◌≤◌, ◌++◌, drop, length, not, take}
use Rattle.std.specs.Prelude.{map as mapped}
use Rattle.sorted_sets.specs.Rising.{sorted}
use Rattle.slot_keys.specs.Keys.{key_cmp}
use Rattle.slot_keys.specs.Marks.{marked}
use Rattle.slot_keys.specs.KeyCounts.{count_beside}
use Rattle.slot_keys.proofs.laying.laid_in_one.Given as goal

abbrev pub invariant-loop-index : goal.invariant-loop-index
invariant-loop-index l = record {
  bound : l.next ≤ length l.others;
  keys : l.laid.keys.items ++ sorted key_cmp (marked (drop l.index l.old) (drop l.index l.stays) ++ drop l.next l.others) ≡ sorted key_cmp (marked l.old l.stays ++ l.others);
  counts : l.laid.counts.items ≡ mapped (count_beside l.old l.counts) l.laid.keys.items;
  gone : l.laid.gone.items ≡ marked (take l.index l.old) (mapped not l.stays);
}
