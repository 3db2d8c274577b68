-- All members are apart where those left are.
use Rattle.std.proofs.Common.{map, length}
use Rattle.json_differing.specs.Differing.{AreApart}
use Rattle.json_differing.specs.Spelled.{spelled_view}
use Rattle.json_differing.proofs.own.few_are_apart.Given as goal

abbrev pub invariant-loop-left : goal.invariant-loop-left
invariant-loop-left l = AreApart (map spelled_view l.left) → AreApart (map spelled_view l.members)

abbrev pub decreases-loop-left : goal.decreases-loop-left
decreases-loop-left l = length l.left
