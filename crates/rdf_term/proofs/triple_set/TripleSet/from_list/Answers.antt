use Rattle.std.proofs.Common.{◌∙◌, ap, sym, subst}
use Rattle.std.proofs.lemmas.List.Filters.{dedup_is}
use Rattle.sorted_sets.specs.Rising.{IsRising, sorted}
use Rattle.sorted_sets.proofs.Sorting.{deduped, deduped_rising}
use Rattle.rdf_term.specs.Order.{triple_cmp, triple_cmp-total}
use Rattle.rdf_term.proofs.Texts.{triple_cmp-IsAntisymmetric}
use Rattle.rdf_term.proofs.triple_set.TripleSet.from_list.Goals as goal

pub invariant_of-result : goal.invariant_of-result
invariant_of-result c =
    let is = c.from_vec.ensures ∙ dedup_is _ _ _ c.dedup.ensures.filtered in
    subst (IsRising triple_cmp) (sym is) (deduped_rising triple_cmp-total _ c.sort_unstable.ensures.sorted)

pub returns : goal.returns
returns c =
    c.from_vec.ensures
    ∙ dedup_is _ _ _ c.dedup.ensures.filtered
    ∙ deduped triple_cmp-total triple_cmp-IsAntisymmetric _ _ c.sort_unstable.ensures.permutation c.sort_unstable.ensures.sorted
    ∙ ap (sorted triple_cmp) c.into_vec-rows.ensures
