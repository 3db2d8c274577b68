-- The terms are those in the slots, of which there are no more than the limit says.
use Rattle.std.proofs.Common.{◌∙◌, arith}
use Rattle.triple_store.proofs.Stocked.{terms_counted}
use Rattle.triple_store.proofs.store.Store.terms.Goals as goal

pub returns-clause-count : goal.returns-clause-count
returns-clause-count c = rw (← c.self.view_is) (c.len.ensures c.self.inside.region c.self.invariant.lies ∙ terms_counted c.self.inside.catalog c.self.inside.region c.self.invariant)

pub returns-clause-within : goal.returns-clause-within
returns-clause-within c = rw (← c.self.view_is) (omega (arith, c.len.ensures c.self.inside.region c.self.invariant.lies, c.self.invariant.lies.few))
