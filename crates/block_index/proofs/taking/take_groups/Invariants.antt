use Rattle.std.proofs.Common.{map, drop}
use Rattle.block_index.specs.Blocks.{keys_of}
use Rattle.block_index.proofs.Refused.{Leads}
use Rattle.block_index.proofs.taking.take_groups.Given as goal

abbrev pub invariant-loop-group : goal.invariant-loop-group
invariant-loop-group g l =
    Leads g.K.Ranked.cmp l.to (keys_of (map keys_of l.groups)) (keys_of (map keys_of (drop l.group-index l.groups))) l.initial.taken.items l.taken.items (g.C.StepCounter.total l.initial.steps) (g.C.StepCounter.total l.steps)
