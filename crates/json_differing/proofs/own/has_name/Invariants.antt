-- The members left have the name where all have it.
use Rattle.std.proofs.Common.{◌≡◌, map, length}
use Rattle.json_differing.specs.Differing.{has_name}
use Rattle.json_differing.specs.Spelled.{spelled_view}
use Rattle.json_differing.proofs.own.has_name.Given as goal

abbrev pub invariant-loop-left : goal.invariant-loop-left
invariant-loop-left l = has_name l.name (map spelled_view l.left) ≡ has_name l.name (map spelled_view l.members)

abbrev pub decreases-loop-left : goal.decreases-loop-left
decreases-loop-left l = length l.left
