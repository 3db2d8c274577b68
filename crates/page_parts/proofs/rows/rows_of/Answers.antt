-- A sort and then `dedup` leave the rising list of the triples.
use Rattle.std.proofs.Common.{◌∙◌, ap, sym, subst}
use Rattle.std.specs.Prelude.{map}
use Rattle.std.specs.List.{All}
use Rattle.std.specs.Ordering.{eq_by_cmp}
use Rattle.std.proofs.lemmas.List.Filters.{All-dedup, dedup_is}
use Rattle.std.proofs.lemmas.List.Sorted.{All-permutation}
use Rattle.sorted_sets.specs.Rising.{IsRising, sorted}
use Rattle.sorted_sets.proofs.Sorting.{deduped_rising}
use Rattle.rdf_term.specs.Order.{triple_cmp, triple_cmp-total}
use Rattle.rdf_term.proofs.Texts.{triple_cmp-IsAntisymmetric}
use Rattle.page_parts.specs.Row.{IsRanked, row_cmp, row_cmp-total, row_triple, subject_texts}
use Rattle.page_parts.proofs.Lifting.{deduped_lifted}
use Rattle.page_parts.proofs.Ranking.{rows_ordered}
use Rattle.page_parts.proofs.rows.rows_of.Goals as goal

pub returns : goal.returns
returns c =
    let texts = subject_texts c.args.subjects.now in
    let is = dedup_is _ _ _ c.dedup.ensures.filtered in
    let listed = c.in_ok-rows.ensures in
    let moved = c.sort_unstable.ensures.permutation in
    record {
      ranked = subst (All (IsRanked texts)) (sym is) (All-dedup (eq_by_cmp row_cmp) (IsRanked texts) _ (All-permutation (IsRanked texts) _ _ moved listed.ranked));
      rising = subst (IsRising row_cmp) (sym is) (deduped_rising row_cmp-total _ c.sort_unstable.ensures.sorted);
      all = ap (map row_triple) is
          ∙ deduped_lifted row_cmp triple_cmp row_triple (IsRanked texts) (rows_ordered texts) triple_cmp-total triple_cmp-IsAntisymmetric _ _ moved listed.ranked c.sort_unstable.ensures.sorted
          ∙ ap (sorted triple_cmp) listed.triples;
    }
