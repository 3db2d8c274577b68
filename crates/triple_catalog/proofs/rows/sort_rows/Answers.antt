-- The comparison is the order.
use Rattle.std.proofs.Common.{rules, is_lt}
use Rattle.std.proofs.{lemmas.List.Sorted.ranks_by, lemmas.Fn.always_returns_same}
use Rattle.triple_catalog.specs.Rows.{text_cmp, text_cmp-total}
use Rattle.triple_catalog.proofs.rows.sort_rows.Goals as goal

pub returns-clause-sorted : goal.returns-clause-sorted
returns-clause-sorted c =
    c.sort_unstable_by.ensures.sorted (λ a b. is_lt (text_cmp a b)) (ranks_by text_cmp-total (λ row. row)) (always_returns_same _ _ _ (λ a r f k. search rules))
