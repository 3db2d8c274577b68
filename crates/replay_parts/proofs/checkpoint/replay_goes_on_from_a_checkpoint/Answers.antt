-- What one delivery does, one after the other.
use Rattle.replay_parts.proofs.GoingOn.{following-append, following_to_end-append, checkpoint-append}
use Rattle.replay_parts.proofs.checkpoint.replay_goes_on_from_a_checkpoint.Goals as goal

pub returns-clause-state : goal.returns-clause-state
returns-clause-state c = following-append

pub returns-clause-the_end : goal.returns-clause-the_end
returns-clause-the_end c = following_to_end-append

pub returns-clause-all : goal.returns-clause-all
returns-clause-all c = checkpoint-append
