-- The line of the texts is that of the triple.
use Rattle.std.proofs.Common.{◌++◌, ◌∙◌, ap}
use Rattle.triple_catalog.proofs.Ordered.{row_line}
use Rattle.triple_catalog.proofs.rows.write_row.Goals as goal

pub returns-in-Ok-clause-ok : goal.returns-in-Ok-clause-ok
returns-in-Ok-clause-ok c = c.in-Ok.ensures ∙ ap (λ l. c.args.out.now.items ++ l) (row_line c.args.row.now c.requires)
