-- What is left to forget is what was, and one event less is kept each time.
use Rattle.std.proofs.Common.{◌≡◌, length}
use Rattle.reorder_buffer.specs.Watermarks.{floor}
use Rattle.reorder_buffer.specs.Buffered.{unforgotten}
use Rattle.reorder_buffer.proofs.buffer.forget.Given as goal

abbrev pub invariant-loop-horizon : goal.invariant-loop-horizon
invariant-loop-horizon l = unforgotten (floor l.horizon l.mark) l.kept.keys ≡ unforgotten (floor l.fn.horizon l.fn.mark) l.fn.kept.keys

abbrev pub decreases-loop-horizon : goal.decreases-loop-horizon
decreases-loop-horizon l = length l.kept.keys
