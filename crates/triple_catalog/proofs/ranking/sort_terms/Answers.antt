-- The comparison is the order of the texts.
use Rattle.std.proofs.Common.{rules, is_lt}
use Rattle.std.specs.Cmp.Lexicographic.{nat_list_cmp_total}
use Rattle.std.proofs.{lemmas.List.Sorted.ranks_by, lemmas.Fn.always_returns_same}
use Rattle.slot_keys.specs.declared.ranking.SlotText.{SlotText}
use Rattle.triple_catalog.specs.Ranks.{text_order}
use Rattle.triple_catalog.proofs.ranking.sort_terms.Goals as goal

pub returns-clause-sorted : goal.returns-clause-sorted
returns-clause-sorted c =
    c.sort_unstable_by.ensures.sorted (λ a b. is_lt (text_order a b)) (ranks_by nat_list_cmp_total (λ (term : SlotText). term.text.now)) (always_returns_same _ _ _ (λ a r f k. search rules))
