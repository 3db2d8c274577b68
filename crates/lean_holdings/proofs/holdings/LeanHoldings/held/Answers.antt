-- What is held has the text of its piece.
use Rattle.text_region.specs.Region.{bytes_of}
use Rattle.lean_holdings.proofs.Seen.{held_is}
use Rattle.lean_holdings.proofs.holdings.LeanHoldings.held.Goals as goal

pub returns : goal.returns
returns c = rw (← c.self.view_is) (rw (held_is (bytes_of c.self.inside.pages) c.self.inside.table.records c.args.id) c.read_held.ensures)
