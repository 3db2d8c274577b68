-- The stale entities are those of the other version.
use Rattle.std.proofs.Common.{sym, ap, ◌∙◌}
use Rattle.holders.specs.{Holders.held_by, Holders.other_version, Holding.first_of}
use Rattle.holdings.specs.Keeping.{seen}
use Rattle.holders.proofs.ByVersion.{first_is_holder, stale_is}
use Rattle.holdings.proofs.Stepping.{links}
use Rattle.holdings.proofs.holdings.Holdings.next_stale.Goals as goal

pub returns-clause-entity : goal.returns-clause-entity
returns-clause-entity c = rw (← c.self.view_is) (c.least.ensures ∙ ap (λ v. first_of (held_by c.self.inside.holders v)) c.other.ensures
    ∙ ap first_of (sym (stale_is c.self.inside.holders _ (seen c.self.inside.store c.self.inside.table.records) c.self.invariant.by
    (links c.self.inside.store c.self.inside.table.records) c.args.version)))

pub returns-clause-holder : goal.returns-clause-holder
returns-clause-holder c = rw (← c.self.view_is) (first_is_holder c.self.inside.holders _ (seen c.self.inside.store c.self.inside.table.records) c.self.invariant.by
    (links c.self.inside.store c.self.inside.table.records) (other_version c.args.version) c.least.result (c.least.ensures ∙ ap (λ v. first_of (held_by c.self.inside.holders v)) c.other.ensures))
