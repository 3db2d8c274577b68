-- What is known of it stands beside its keys.
use Rattle.std.proofs.Common.{sym, ◌∙◌}
use Rattle.std.specs.Prelude.{IfSome}
use Rattle.fetched_pages.specs.Compared.{IsKnownPage}
use Rattle.holdings.specs.Keeping.{seen}
use Rattle.fetched_pages.proofs.ChangedPages.{known_has}
use Rattle.holdings.proofs.{Exchanging.known_if, holdings.Holdings.known_page.Goals.After-known_in}
use Rattle.holdings.proofs.holdings.Holdings.known_page.Goals as goal

known : (c : After-known_in) → IfSome c.known_in.result (IsKnownPage (seen c.self.inside.store c.self.inside.table.records) c.self.inside.holders.by_two c.args.version c.args.id)
known c =
    known_if c.self.inside.store c.self.inside.holders c.self.inside.table.records c.args.id c.args.version c.known_in.result c.self.invariant (sym c.has-named.ensures ∙ c.if-named.true)
    c.known_in.ensures.counts c.known_in.ensures.held

pub returns-then-named-clause-known : goal.returns-then-named-clause-known
returns-then-named-clause-known c = rw (← c.self.view_is) (known c)

pub returns-then-named-clause-entity : goal.returns-then-named-clause-entity
returns-then-named-clause-entity c = known_has (seen c.self.inside.store c.self.inside.table.records) c.self.inside.holders.by_two c.args.version c.args.id c.known_in.result (known c)
