use Rattle.std.proofs.Common.{◌≡◌, ◌++◌, take, drop}
use Rattle.std.specs.Prelude.{map}
use Rattle.slot_keys.specs.Keys.{turned}
use Rattle.slot_index.proofs.orders.all_turned.Given as goal

abbrev pub invariant-loop-key : goal.invariant-loop-key
invariant-loop-key l = take l.key-index l.key-items ++ map turned (drop l.key-index l.key-items) ≡ map turned l.fn.keys
