use Rattle.std.proofs.Common.{drop}
use Rattle.block_index.specs.Blocks.{keys_of}
use Rattle.block_index.proofs.Refused.{Leads}
use Rattle.block_index.proofs.taking.take_blocks.Given as goal

abbrev pub invariant-loop-block : goal.invariant-loop-block
invariant-loop-block g l =
    Leads g.K.Ranked.cmp l.to (keys_of l.blocks) (keys_of (drop l.block-index l.blocks)) l.initial.taken.items l.taken.items (g.C.StepCounter.total l.initial.steps) (g.C.StepCounter.total l.steps)
