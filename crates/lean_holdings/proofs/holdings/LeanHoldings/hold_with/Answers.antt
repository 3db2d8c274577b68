-- Where there was no room the page is held once more; beside what is named there is room where there is beside what is counted.
use Rattle.std.proofs.Common.{Some}
use Rattle.replay_model.specs.Versions.{meaning_by}
use Rattle.fetched_pages.specs.Meaning.{meaning}
use Rattle.lean_holdings.proofs.Named.{named_within}
use Rattle.lean_holdings.proofs.holdings.LeanHoldings.hold_with.Goals as goal

pub returns-in-Ok-clause-within : goal.returns-in-Ok-clause-within
returns-in-Ok-clause-within c =
    let h = c.args.self.now in
    named_within (meaning_by meaning h.by_two) (meaning c.args.wanted.version) h.names h.records c.facts.ensures.named c.args.wanted.id
    (Some (record { revision = c.args.wanted.rev; content = c.args.page.now })) h.limit c.in-Ok.ensures.within

pub returns-in-Err-Full-clause-full : goal.returns-in-Err-Full-clause-full
returns-in-Err-Full-clause-full c =
    rw (c.hold_parts.ensures.limit, c.in-Err-Full.ensures.err_by_two, c.in-Err-Full.ensures.err) at c.hold_again.ensures.full

pub returns-in-Err-Full-clause-within : goal.returns-in-Err-Full-clause-within
returns-in-Err-Full-clause-within c =
    rw (c.hold_parts.ensures.limit, c.in-Err-Full.ensures.err_by_two, c.in-Err-Full.ensures.err) at c.hold_again.ensures.within
