-- A binary search finds it.
use Rattle.std.proofs.Common.{◌∙◌}
use Rattle.page_parts.specs.Row.{row_cmp-total}
use Rattle.page_parts.proofs.Sought.{found_sorted}
use Rattle.page_parts.proofs.marking.is_among.Goals as goal

pub returns : goal.returns
returns c = c.is_ok.ensures.value ∙ found_sorted row_cmp-total c.args.rows.now c.args.row.now c.binary_search.result c.requires.sorted c.binary_search.ensures.bound c.binary_search.ensures.position
