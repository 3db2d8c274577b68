use Rattle.std.proofs.Common.{◌≤◌, length}
use Rattle.json_differing.proofs.shared.before_back.Given as goal

abbrev pub invariant-loop-old : goal.invariant-loop-old
invariant-loop-old l = length l.new ≤ length l.texts.new.now

abbrev pub decreases-loop-old : goal.decreases-loop-old
decreases-loop-old l = length l.new
