-- The members up to the index are gone.
use Rattle.std.proofs.Common.{map, take}
use Rattle.sorted_sets.specs.Merging.{Merges}
use Rattle.json_differing.specs.Differing.{Members}
use Rattle.json_differing.specs.Spelled.{spelled_view}
use Rattle.json_differing.proofs.own.push_gone.Given as goal

abbrev pub invariant-loop-index : goal.invariant-loop-index
invariant-loop-index l = (common : Members) → Merges common (map spelled_view l.initial.gone.items) (map spelled_view (take l.first l.olds)) → Merges common (map spelled_view l.gone.items) (map spelled_view (take l.index l.olds))
