-- An entity that is counted stays, and another one goes in.
use Rattle.std.proofs.Common.{refl, sym, ◌∙◌, ap, is_some}
use Rattle.entity_counts.proofs.Written.{counted_already, found, written_in}
use Rattle.entity_counts.proofs.counts.EntityCounts.count_in.Goals as goal

pub returns-in_ok-insert-clause-ok : goal.returns-in_ok-insert-clause-ok
returns-in_ok-insert-clause-ok c = rw (← c.self.view_is)
    (written_in c.args.id c.self.inside.pages.entries c.insert.new.self.entries
    (ap is_some (found c.args.id c.self.inside.pages.entries _ refl) ∙ sym c.contains_key.ensures ∙ c.if-not-contains_key.true) c.in_ok-insert.ensures.updates.0)

pub returns-else-not-contains_key-clause-ok : goal.returns-else-not-contains_key-clause-ok
returns-else-not-contains_key-clause-ok c = rw (← c.self.view_is)
    (counted_already _ c.args.id (ap is_some (found c.args.id c.self.inside.pages.entries _ refl) ∙ sym c.contains_key.ensures ∙ c.if-not-contains_key.false))
