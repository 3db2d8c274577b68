-- What a delivery does to the state of the list before it.
use Rattle.replay_model.proofs.Following.{following-delivered, following-end, following-rests}
use Rattle.replay_model.proofs.step_laws.replay_follows_deliveries.Goals as goal

pub returns-clause-each_delivery : goal.returns-clause-each_delivery
returns-clause-each_delivery c = following-delivered

pub returns-clause-the_end : goal.returns-clause-the_end
returns-clause-the_end c = following-end

pub returns-clause-nothing_due : goal.returns-clause-nothing_due
returns-clause-nothing_due c = following-rests
