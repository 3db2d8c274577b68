-- The changes that have a number are a chain that leads to what is held.
use Rattle.std.proofs.Common.{◌∙◌}
use Rattle.session_laws.proofs.{Mirrored.shows, RunsOn.held_at_last, RunsOn.lead_on}
use Rattle.session_laws.proofs.chains.followers_stop_before_a_missing_number.Goals as goal

pub returns-clause-counts : goal.returns-clause-counts
returns-clause-counts c = held_at_last

pub returns-clause-stops : goal.returns-clause-stops
returns-clause-stops c = λ closed stage numbers steps changes chain choices before now bytes items n followed known are each greatest.
    shows choices before now bytes items followed known are n _ greatest (lead_on closed stage numbers steps changes chain items n each greatest)

pub returns-clause-all : goal.returns-clause-all
returns-clause-all c = λ closed stage numbers steps changes chain choices before now bytes items followed known are each greatest.
    shows choices before now bytes items followed known are numbers.patches _ greatest (lead_on closed stage numbers steps changes chain items numbers.patches each greatest ∙ held_at_last closed stage numbers steps changes chain)
