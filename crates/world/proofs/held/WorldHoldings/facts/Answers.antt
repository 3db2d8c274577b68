-- Each kind says it in its own words.
use Rattle.world.proofs.held.WorldHoldings.facts.Goals as goal

pub returns-in-Lean-clause-room : goal.returns-in-Lean-clause-room
returns-in-Lean-clause-room c = rw c.in-Lean.is c.facts-in-Lean.ensures.shared
