-- What stands of a record doesn't need the texts.
use Rattle.std.proofs.Common.{sym, ◌∙◌}
use Rattle.text_region.specs.Region.{bytes_of}
use Rattle.lean_holdings.proofs.Seen.{standing_is}
use Rattle.lean_holdings.proofs.holdings.LeanHoldings.standing.Goals as goal

pub returns : goal.returns
returns c = rw (← c.self.view_is) (c.standing_in.ensures ∙ sym (standing_is (bytes_of c.self.inside.pages) c.self.inside.table.records c.args.id))
