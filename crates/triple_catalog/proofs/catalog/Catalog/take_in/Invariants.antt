use Rattle.std.proofs.Common.{◌≡◌, ◌≤◌, length, take, ◌++◌, vec_len, IfSome}
use Rattle.std.specs.Prelude.{vec_capacity}
use Rattle.std.specs.FinMap as map
use Rattle.sorted_sets.specs.Rising.{has}
use Rattle.slot_keys.specs.{declared.key.Key.Key, Keys.key_cmp, Added.AreApart, Added.is_held}
use Rattle.triple_catalog.specs.{Costs.Costs, Interning.IsOfTripleBefore, Moves.TakesIn, Moves.triples_at}
use Rattle.triple_catalog.proofs.catalog.Catalog.take_in.Given as goal

abbrev pub invariant-loop-index : goal.invariant-loop-index
invariant-loop-index g l = record {
  takes : TakesIn l.initial.self l.initial.region l.self l.region l.swap.left.keys.rising.now l.met.keys.items (take l.index l.swap.new.now);
  along : triples_at l.self l.region l.met.keys.items ≡ take l.index l.swap.new.now;
  cost : Costs (map.len l.initial.self.index) (map.len l.self.index) l.index 0 (g.C.StepCounter.total l.initial.steps) (g.C.StepCounter.total l.steps);
  done : vec_len l.met.keys ≡ l.index;
  room : length l.swap.new.now ≤ vec_capacity l.met.keys;
  indexed : vec_len l.met.old_indices ≡ l.index;
  room_for_indices : length l.swap.new.now ≤ vec_capacity l.met.old_indices;
  last : IfSome l.last (λ key. IsOfTripleBefore l.self.pool l.region key l.swap.new.now l.index);
  held : (key : Key) → is_held l.swap.left.keys.rising.now l.added key ≡ has key_cmp key (l.swap.left.keys.rising.now ++ l.met.keys.items);
  apart : AreApart l.added;
}
