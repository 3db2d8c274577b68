-- Where there was no room the page is mapped once more; beside what is named there is room where there is beside what is counted.
use Rattle.replay_model.specs.{Records.record_of, Versions.meaning_by}
use Rattle.fetched_pages.specs.Meaning.{meaning}
use Rattle.lean_holdings.proofs.Named.{named_within}
use Rattle.lean_holdings.proofs.holdings.LeanHoldings.remap.Goals as goal

pub returns-in-Ok-clause-within : goal.returns-in-Ok-clause-within
returns-in-Ok-clause-within c =
    let h = c.args.self.now in
    named_within (meaning_by meaning h.by_two) (meaning c.args.version) h.names h.records c.facts.ensures.named c.args.id
    (record_of h.records c.args.id).held h.limit c.in-Ok.ensures.within

pub returns-in-Err-Full-clause-full : goal.returns-in-Err-Full-clause-full
returns-in-Err-Full-clause-full c =
    rw (c.remap_once.ensures.limit, c.in-Err-Full.ensures.err_by_two, c.remap_once.ensures.records) at c.remap_again.ensures.full

pub returns-in-Err-Full-clause-within : goal.returns-in-Err-Full-clause-within
returns-in-Err-Full-clause-within c =
    rw (c.remap_once.ensures.limit, c.in-Err-Full.ensures.err_by_two, c.remap_once.ensures.records) at c.remap_again.ensures.within
