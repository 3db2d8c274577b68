-- Graphs that followed the world follow it further.
use Rattle.splitting.proofs.Following.{graphs_remapped}
use Rattle.splitting.proofs.graphs.Graphs.follow_remapping.Goals as goal

pub returns-in-Ok-clause-follow : goal.returns-in-Ok-clause-follow
returns-in-Ok-clause-follow c = rw (← c.self.view_is, c.in-Some.is)
    (graphs_remapped c.self.inside.routes c.self.inside.limit c.in-Some.split.entries c.remap.new.split.entries c.args.id c.args.triples.now c.in-Ok.ensures.entries)
