-- What stands of a record doesn't need the texts.
use Rattle.std.proofs.Common.{sym, ◌∙◌}
use Rattle.holdings.proofs.Moving.{standing_is}
use Rattle.holdings.proofs.holdings.Holdings.standing.Goals as goal

pub returns : goal.returns
returns c = rw (← c.self.view_is) (c.standing_in.ensures ∙ sym (standing_is c.self.inside.store c.self.inside.table.records c.args.id))
