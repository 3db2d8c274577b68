-- The parts of what is held, or of nothing.
use Rattle.std.proofs.Common.{rules, ◌≡◌, None, Some}
use Rattle.replay_model.specs.Records.{record_of}
use Rattle.lean_holdings.proofs.holdings.LeanHoldings.parts_where.Goals as goal

pub returns-in_default : goal.returns-in_default
returns-in_default c counted same =
    let none : (record_of c.args.self.now.records c.args.id).held ≡ None = search rules in
    rw none (c.no_parts.ensures _ _)

pub returns : goal.returns
returns c counted same =
    let some : (record_of c.args.self.now.records c.args.id).held ≡ Some (record { revision = c.in-Some.rev; content = c.text.result.now }) = search rules in
    rw some (c.named_parts.ensures counted same)
