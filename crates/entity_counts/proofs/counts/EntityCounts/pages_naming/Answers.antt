-- The map has what the look-up finds.
use Rattle.std.proofs.Common.{sym, ◌∙◌, ap, unwrap_or}
use Rattle.entity_counts.proofs.Written.{found}
use Rattle.entity_counts.proofs.counts.EntityCounts.pages_naming.Goals as goal

pub returns : goal.returns
returns c = rw (← c.self.view_is) (c.unwrap_or.ensures ∙ sym (ap (λ v. unwrap_or v 0) (found c.args.id c.self.inside.pages.entries c.copied.result (c.copied.ensures ∙ c.get.ensures.value))))
