-- The entity is counted as it is.
use Rattle.std.proofs.Common.{sym, ◌∙◌}
use Rattle.std.specs.FinMap as map
use Rattle.lean_holdings.proofs.holdings.LeanHoldings.held_parts.Goals as goal

pub returns : goal.returns
returns c counted same =
    c.parts_where.ensures counted ((rw (← c.self.view_is) at same) ∙ sym (map.contains_key-keys c.self.inside.names c.args.id) ∙ sym c.is_counted-is_counted.ensures)
