-- Graphs that followed the world follow it further.
use Rattle.splitting.proofs.Following.{graphs_applied}
use Rattle.splitting.proofs.graphs.Graphs.follow_application.Goals as goal

pub returns-in-Ok-clause-follow : goal.returns-in-Ok-clause-follow
returns-in-Ok-clause-follow c = rw (← c.self.view_is, c.in-Some.is)
    (graphs_applied c.self.inside.routes c.self.inside.limit c.in-Some.split.entries c.apply.new.split.entries c.args.applied.now c.args.routed c.in-Ok.ensures.entries)
