-- The stored triples are those of all that is held.
use Rattle.world.proofs.world.World.matches.Goals as goal

pub returns : goal.returns
returns c = rw (← c.self.view_is, ← c.whole.ensures.by_two, ← c.whole.ensures.records, ← c.store.ensures.triples) c.matches.ensures.rows
