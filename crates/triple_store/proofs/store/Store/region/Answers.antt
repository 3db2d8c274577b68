-- The terms' texts lie in their slots' pieces.
use Rattle.triple_store.proofs.Laid.{are_laid}
use Rattle.triple_store.proofs.store.Store.region.Goals as goal

pub returns-clause-laid : goal.returns-clause-laid
returns-clause-laid c = rw (← c.self.view_is) (are_laid (record { catalog = c.self.inside.catalog; texts = c.self.inside.region }) c.self.invariant)
