-- The first run's replies count up to its mark, and the second's after it.
use Rattle.replay_parts.proofs.TwoRuns.{checkpoint-two, following_to_end-two, said-two, transcript-two}
use Rattle.replay_parts.proofs.checkpoint.two_runs_are_one.Goals as goal

pub returns-clause-checkpoint : goal.returns-clause-checkpoint
returns-clause-checkpoint c = checkpoint-two

pub returns-clause-the_end : goal.returns-clause-the_end
returns-clause-the_end c = following_to_end-two

pub returns-clause-said : goal.returns-clause-said
returns-clause-said c h meaning first second a = said-two h first second a meaning

pub returns-clause-all : goal.returns-clause-all
returns-clause-all c h meaning sections first second a b = transcript-two h first second a meaning sections b
