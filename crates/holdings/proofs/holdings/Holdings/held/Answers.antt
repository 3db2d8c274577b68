-- What is held has the text of its piece.
use Rattle.holdings.proofs.Moving.{held_is}
use Rattle.holdings.proofs.holdings.Holdings.held.Goals as goal

pub returns : goal.returns
returns c = rw (← c.self.view_is) (rw (held_is c.self.inside.store c.self.inside.table.records c.args.id) c.held_in.ensures)
