-- The stored triples are the union of what is stored of each page.
use Rattle.std.proofs.Common.{◌∙◌}
use Rattle.replay_model.specs.Versions.{meaning_by}
use Rattle.fetched_pages.specs.Meaning.{meaning}
use Rattle.lean_holdings.specs.{Holding.counted_by, Kept.seen}
use Rattle.lean_holdings.proofs.{Named.named_least, Rooming.room_is}
use Rattle.lean_holdings.proofs.holdings.LeanHoldings.terms.Goals as goal

pub returns-clause-count : goal.returns-clause-count
returns-clause-count c =
    let a = c.self.inside in
    rw (← c.self.view_is) (c.terms.ensures.count ∙ room_is (meaning_by meaning a.holders.by_two) (counted_by a.names) a.store (seen a.pages a.table.records) c.self.invariant.kept.sound c.self.invariant.kept.lean)

pub returns-clause-least : goal.returns-clause-least
returns-clause-least c =
    let a = c.self.inside in
    rw
    (← c.self.view_is, c.terms.ensures.count ∙ room_is (meaning_by meaning a.holders.by_two) (counted_by a.names) a.store (seen a.pages a.table.records) c.self.invariant.kept.sound c.self.invariant.kept.lean)
    (named_least (meaning_by meaning a.holders.by_two) a.names (seen a.pages a.table.records) c.self.invariant.kept.named)
