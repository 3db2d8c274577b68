-- Store and records say so.
use Rattle.holdings.proofs.Stepping.{are_holders, has_room}
use Rattle.holdings.proofs.holdings.Holdings.facts.Goals as goal

pub returns-clause-room : goal.returns-clause-room
returns-clause-room c = rw (← c.self.view_is) (has_room _ _ _ c.self.invariant)

pub returns-clause-holders : goal.returns-clause-holders
returns-clause-holders c = rw (← c.self.view_is) (are_holders _ _ _ c.self.invariant)
