-- Each kind says it in its own words.
use Rattle.world.proofs.held.WorldHoldings.terms.Goals as goal

pub returns-in-Lean-clause-least : goal.returns-in-Lean-clause-least
returns-in-Lean-clause-least c = rw c.in-Lean.is c.terms-in-Lean.ensures.least
