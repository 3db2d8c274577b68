-- The count of a triple is the number of its owners.
use Rattle.std.proofs.Common.{◌∙◌}
use Rattle.world.proofs.world.World.owners.Goals as goal

pub returns : goal.returns
returns c = rw (← c.self.view_is, ← c.whole.ensures.by_two, ← c.whole.ensures.records) (c.owners.ensures.count ∙ c.store.ensures.counts c.args.triple.now)
