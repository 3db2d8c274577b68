-- The others so far are put.
use Rattle.std.proofs.Common.{◌≡◌, ◌++◌, ℕ, true, List, drop, Less}
use Rattle.std.specs.Prelude.{map as mapped}
use Rattle.sorted_sets.specs.Rising.{Above, has, sorted}
use Rattle.slot_keys.specs.declared.key.Key.{Key}
use Rattle.slot_keys.specs.Keys.{key_cmp}
use Rattle.slot_keys.proofs.laying.Laid.put_below.Given as goal

abbrev pub invariant-loop-index : goal.invariant-loop-index
invariant-loop-index l = record {
  keys : (rest : List Key) → ((k : Key) → key_cmp k l.key ≡ Less → Above key_cmp k rest) → l.self.keys.items ++ sorted key_cmp (rest ++ drop l.index l.others) ≡ l.initial.self.keys.items ++ sorted key_cmp (rest ++ drop l.next l.others);
  counts : (count : Key → ℕ) → ((k : Key) → has key_cmp k l.others ≡ true → count k ≡ 0) → l.initial.self.counts.items ≡ mapped count l.initial.self.keys.items → l.self.counts.items ≡ mapped count l.self.keys.items;
  gone : l.self.gone.items ≡ l.initial.self.gone.items;
}
