-- The keys that were met so far, beside those that are marked.
use Rattle.std.proofs.Common.{◌≡◌, ◌++◌, length, take, true, false}
use Rattle.sorted_sets.specs.Rising.{has}
use Rattle.slot_keys.specs.declared.key.Key.{Key}
use Rattle.slot_keys.specs.Keys.{key_cmp}
use Rattle.slot_keys.specs.Marks.{marked}
use Rattle.slot_keys.proofs.keeping.split_beside.Given as goal

abbrev pub invariant-loop-index : goal.invariant-loop-index
invariant-loop-index l = record {
  len : length l.kept.items ≡ length l.old;
  same : (key : Key) → has key_cmp key (marked l.old l.kept.items ++ l.rest.items) ≡ has key_cmp key (take l.index l.met ++ marked l.old l.fn.marks.items);
  apart : (key : Key) → has key_cmp key l.old ≡ true → has key_cmp key l.rest.items ≡ false;
}
