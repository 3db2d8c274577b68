-- The row stands at the place that is tried, or a binary search finds it.
use Rattle.std.proofs.Common.{sym, ◌∙◌}
use Rattle.std.specs.Ordering.{eq_by_cmp}
use Rattle.std.proofs.lemmas.List.Folds.{list_any_at}
use Rattle.sorted_sets.proofs.Sorting.{found}
use Rattle.page_parts.specs.Row.{row_cmp, row_cmp-total}
use Rattle.page_parts.proofs.changing.find_from.Goals as goal

pub returns-then-eq-clause-there : goal.returns-then-eq-clause-there
returns-then-eq-clause-there c = sym (list_any_at (eq_by_cmp row_cmp c.args.row.now) c.args.rows.now c.args.next _ c.if-next-rows.true (sym c.eq.ensures ∙ c.if-eq.true))

pub returns-clause-there : goal.returns-clause-there
returns-clause-there c = found row_cmp-total c.args.rows.now c.args.row.now c.binary_search.result c.requires c.binary_search.ensures.bound c.binary_search.ensures.position
