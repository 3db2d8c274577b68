-- The keys, borrowed, are the keys.
use Rattle.triple_catalog.proofs.catalog.Catalog.undo.Goals as goal

pub remove_beside-requires-clause-rising : goal.remove_beside-requires-clause-rising
remove_beside-requires-clause-rising g c = rw c.slices.ensures c.requires.rising

pub remove_beside-requires-clause-there : goal.remove_beside-requires-clause-there
remove_beside-requires-clause-there g c = rw c.slices.ensures c.requires.there

pub returns-clause-removes : goal.returns-clause-removes
returns-clause-removes g c = rw c.slices.ensures at c.remove_beside.ensures.removes

pub returns-clause-cost : goal.returns-clause-cost
returns-clause-cost g c = rw c.slices.ensures at c.remove_beside.ensures.cost
