-- The graphs follow, where there are some.
use Rattle.splitting.proofs.optional_graphs.follow_application.Goals as goal

pub returns-in-Some-clause-follow : goal.returns-in-Some-clause-follow
returns-in-Some-clause-follow c = rw c.in-Some.is c.follow_application.ensures.follow
