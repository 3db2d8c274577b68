-- The map has what the look-up finds.
use Rattle.std.proofs.Common.{refl, sym, ◌∙◌, ap, is_some}
use Rattle.entity_counts.proofs.Written.{found}
use Rattle.entity_counts.proofs.counts.EntityCounts.is_counted.Goals as goal

pub returns : goal.returns
returns c = rw (← c.self.view_is) (c.contains_key.ensures ∙ sym (ap is_some (found c.args.id c.self.inside.pages.entries _ refl)))
