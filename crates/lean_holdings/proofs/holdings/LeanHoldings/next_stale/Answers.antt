-- The stale entities are those of the other version.
use Rattle.std.proofs.Common.{sym, ap, ◌∙◌}
use Rattle.holders.specs.{Holders.held_by, Holders.other_version, Holding.first_of}
use Rattle.lean_holdings.specs.Kept.{holds_in, seen}
use Rattle.holders.proofs.ByVersion.{first_is_holder, stale_is}
use Rattle.lean_holdings.proofs.InStep.{links}
use Rattle.lean_holdings.proofs.holdings.LeanHoldings.next_stale.Goals as goal

pub returns-clause-entity : goal.returns-clause-entity
returns-clause-entity c = rw (← c.self.view_is) (c.least.ensures ∙ ap (λ v. first_of (held_by c.self.inside.holders v)) c.other.ensures
    ∙ ap first_of (sym (stale_is c.self.inside.holders (holds_in c.self.inside.table.records) (seen c.self.inside.pages c.self.inside.table.records) c.self.invariant.by
    (links c.self.inside.pages c.self.inside.table.records) c.args.version)))

pub returns-clause-holder : goal.returns-clause-holder
returns-clause-holder c = rw (← c.self.view_is) (first_is_holder c.self.inside.holders (holds_in c.self.inside.table.records) (seen c.self.inside.pages c.self.inside.table.records) c.self.invariant.by
    (links c.self.inside.pages c.self.inside.table.records) (other_version c.args.version) c.least.result (c.least.ensures ∙ ap (λ v. first_of (held_by c.self.inside.holders v)) c.other.ensures))
