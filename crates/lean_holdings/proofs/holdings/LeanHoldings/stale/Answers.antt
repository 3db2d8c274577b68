-- The stale entities are those of the other version.
use Rattle.std.proofs.Common.{sym, ap, length, ◌∙◌}
use Rattle.holders.specs.Holders.{held_by}
use Rattle.lean_holdings.specs.Kept.{holds_in, seen}
use Rattle.holders.proofs.ByVersion.{none_stale, stale_is}
use Rattle.lean_holdings.proofs.InStep.{links}
use Rattle.lean_holdings.proofs.holdings.LeanHoldings.stale.Goals as goal

pub returns-clause-count : goal.returns-clause-count
returns-clause-count c = rw (← c.self.view_is) (c.len.ensures ∙ ap (λ v. length (held_by c.self.inside.holders v)) c.other.ensures
    ∙ ap length (sym (stale_is c.self.inside.holders (holds_in c.self.inside.table.records) (seen c.self.inside.pages c.self.inside.table.records) c.self.invariant.by
    (links c.self.inside.pages c.self.inside.table.records) c.args.version)))

pub returns-clause-none : goal.returns-clause-none
returns-clause-none c = rw (← c.self.view_is) (λ none.
    none_stale c.self.inside.holders (holds_in c.self.inside.table.records) (seen c.self.inside.pages c.self.inside.table.records) c.self.invariant.by
    (links c.self.inside.pages c.self.inside.table.records) c.args.version
    (sym (c.len.ensures ∙ ap (λ v. length (held_by c.self.inside.holders v)) c.other.ensures) ∙ none))
