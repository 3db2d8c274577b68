-- The fetches go with the due events.
use Rattle.replay_model.proofs.FetchCounts.{fetches-delivered, fetches-end, fetches_due-next, fetches_due-none, risen_by-risen_by}
use Rattle.replay_model.proofs.step_laws.fetches_one_by_one.Goals as goal

pub returns-clause-each_delivery : goal.returns-clause-each_delivery
returns-clause-each_delivery c = fetches-delivered

pub returns-clause-the_end : goal.returns-clause-the_end
returns-clause-the_end c = fetches-end

pub returns-clause-next : goal.returns-clause-next
returns-clause-next c = fetches_due-next

pub returns-clause-none_left : goal.returns-clause-none_left
returns-clause-none_left c = fetches_due-none

pub returns-clause-risen : goal.returns-clause-risen
returns-clause-risen c = risen_by-risen_by
