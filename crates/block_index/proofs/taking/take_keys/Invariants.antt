use Rattle.std.proofs.Common.{drop}
use Rattle.block_index.proofs.Refused.{Leads}
use Rattle.block_index.proofs.taking.take_keys.Given as goal

abbrev pub invariant-loop-key : goal.invariant-loop-key
invariant-loop-key g l =
    Leads g.K.Ranked.cmp l.to l.keys (drop l.key-index l.keys) l.initial.taken.items l.taken.items (g.C.StepCounter.total l.initial.steps) (g.C.StepCounter.total l.steps)
