-- The map has the statement's rank where it is above the known one.
use Rattle.std.proofs.Common.{ap, sym, ◌∙◌}
use Rattle.std.specs.BTreeMap.{get}
use Rattle.entity_model.specs.EntityId.{entity_cmp}
use Rattle.statement_facts.specs.Ranking.{is_above}
use Rattle.statement_facts.proofs.Raising.{raised, unraised}
use Rattle.statement_facts.proofs.ranking.raise.Goals as goal

pub returns-in_ok-insert : goal.returns-in_ok-insert
returns-in_ok-insert c = raised (get entity_cmp c.args.highest.now) (get entity_cmp c.insert.new.self) c.args.statement.now
    (ap (is_above c.args.statement.now.rank) (sym (c.copied-known.ensures ∙ c.get.ensures.value)) ∙ sym c.is_above.ensures ∙ c.if-is_above.true)
    c.in_ok-insert.ensures.updates.0

pub returns-else-is_above : goal.returns-else-is_above
returns-else-is_above c = unraised (get entity_cmp c.args.highest.now) c.args.statement.now
    (ap (is_above c.args.statement.now.rank) (sym (c.copied-known.ensures ∙ c.get.ensures.value)) ∙ sym c.is_above.ensures ∙ c.if-is_above.false)
