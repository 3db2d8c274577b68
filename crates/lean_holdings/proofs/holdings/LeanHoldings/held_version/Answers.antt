-- An entity is named by the version of its page.
use Rattle.std.proofs.Common.{refl, sym, ◌∙◌}
use Rattle.lean_holdings.specs.Kept.{holds_in, seen}
use Rattle.holders.proofs.ByVersion.{version_is}
use Rattle.lean_holdings.proofs.InStep.{links}
use Rattle.lean_holdings.proofs.holdings.LeanHoldings.held_version.Goals as goal

pub returns-then-has : goal.returns-then-has
returns-then-has c = rw (← c.self.view_is) (sym (version_is c.self.inside.holders (holds_in c.self.inside.table.records) (seen c.self.inside.pages c.self.inside.table.records) c.self.invariant.by
    (links c.self.inside.pages c.self.inside.table.records) c.args.id _ _ refl (sym c.has.ensures ∙ c.if-has.true)))

pub returns-then-has-2 : goal.returns-then-has-2
returns-then-has-2 c = rw (← c.self.view_is) (sym (version_is c.self.inside.holders (holds_in c.self.inside.table.records) (seen c.self.inside.pages c.self.inside.table.records) c.self.invariant.by
    (links c.self.inside.pages c.self.inside.table.records) c.args.id _ _ (sym c.has-else-has.ensures ∙ c.if-has-2.true) (sym c.has.ensures ∙ c.if-has.false)))

pub returns-else-has-2 : goal.returns-else-has-2
returns-else-has-2 c = rw (← c.self.view_is) (sym (version_is c.self.inside.holders (holds_in c.self.inside.table.records) (seen c.self.inside.pages c.self.inside.table.records) c.self.invariant.by
    (links c.self.inside.pages c.self.inside.table.records) c.args.id _ _ (sym c.has-else-has.ensures ∙ c.if-has-2.false) (sym c.has.ensures ∙ c.if-has.false)))
