-- The entity is taken out.
use Rattle.entity_counts.proofs.Written.{taken_out}
use Rattle.entity_counts.proofs.counts.EntityCounts.count_out.Goals as goal

pub returns : goal.returns
returns c = rw (← c.self.view_is) (taken_out c.args.id c.self.inside.pages.entries c.remove.new.self.entries c.remove.ensures.updates.0)
