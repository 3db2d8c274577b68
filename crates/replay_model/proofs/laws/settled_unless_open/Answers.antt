-- Unsettled entities are those with an open revision entry.
use Rattle.replay_model.proofs.Settled.{Tells-played, holds-apply, holds-more, holds-nothing, settled-played}
use Rattle.replay_model.proofs.laws.settled_unless_open.Goals as goal

pub returns-clause-settled : goal.returns-clause-settled
returns-clause-settled c = settled-played

pub returns-clause-empty : goal.returns-clause-empty
returns-clause-empty c h closed replies ds x = (Tells-played h closed replies ds x).empty_unless_kept

pub returns-clause-start : goal.returns-clause-start
returns-clause-start c = holds-nothing

pub returns-clause-application : goal.returns-clause-application
returns-clause-application c = holds-apply

pub returns-clause-entries : goal.returns-clause-entries
returns-clause-entries c = holds-more
