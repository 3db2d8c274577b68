-- The due events go one after the other.
use Rattle.replay_model.proofs.Following.{after_due-next, after_due-none}
use Rattle.replay_model.proofs.step_laws.due_events_one_by_one.Goals as goal

pub returns-clause-next : goal.returns-clause-next
returns-clause-next c = after_due-next

pub returns-clause-none_left : goal.returns-clause-none_left
returns-clause-none_left c = after_due-none
