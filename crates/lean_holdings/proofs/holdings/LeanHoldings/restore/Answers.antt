-- Nothing more is stored where nothing is held.
use Rattle.std.proofs.Common.{rules, ◌≡◌, None}
use Rattle.lean_holdings.proofs.holdings.LeanHoldings.restore.Goals as goal

pub returns-in-Ok-clause-within : goal.returns-in-Ok-clause-within
returns-in-Ok-clause-within c =
    let none : c.args.entity.now.held ≡ None = search rules in
    rw none c.facts.ensures.shared
