-- The rows are those of the triples that the first list has more often.
use Rattle.std.proofs.Common.{sym, ◌∙◌, subst, filter, arith}
use Rattle.std.specs.List.{All}
use Rattle.std.specs.List.Sorted.{IsPermutation, IsSorted}
use Rattle.std.proofs.lemmas.List.Elements.{All-filter}
use Rattle.std.proofs.lemmas.List.Sorted.{All-permutation}
use Rattle.page_parts.specs.Row.{IsRanked, row_cmp, row_has_more, subject_texts}
use Rattle.page_parts.proofs.StayingRows.{more_marked}
use Rattle.page_parts.proofs.marks.Marks.of_more.Goals as goal

pub invariant_of-result : goal.invariant_of-result
invariant_of-result c =
    let texts = subject_texts c.in_ok-subjects.subjects.items in
    let all = c.in_ok-all.all.items in
    let others = c.in_ok-others.others.items in
    let all_ranked : All (IsRanked texts) all = subst (λ s. All (IsRanked (subject_texts s)) all) c.as_slice.ensures.value c.in_ok-all.ensures.ranked in
    let rows_are = c.in_ok-rows.ensures ∙ (λ i. filter (row_has_more (c.as_slice-3.ensures.value i) (c.as_slice-4.ensures.value i)) (c.as_slice-3.ensures.value i)) in
    let ranked : All (IsRanked texts) c.in_ok-rows.rows.items = subst (All (IsRanked texts)) (sym rows_are) (All-filter (row_has_more all others) (IsRanked texts) all all_ranked) in
    record {
      sorted = c.in_ok-subjects.ensures.sorted;
      first_ranked = All-permutation (IsRanked texts) c.in_ok-rows.rows.items c.sort_unstable.new.self.items c.sort_unstable.ensures.permutation ranked;
      first_sorted = c.sort_unstable.ensures.sorted;
      second_ranked = subst (All (IsRanked texts)) (sym c.new.ensures.items) (λ k d l. absurd (omega (arith, l)));
      second_sorted = subst (IsSorted row_cmp) (sym c.new.ensures.items) (λ k d low high. absurd (omega (arith, high)));
    }

pub returns : goal.returns
returns c t =
    let texts = subject_texts c.in_ok-subjects.subjects.items in
    let all = c.in_ok-all.all.items in
    let others = c.in_ok-others.others.items in
    let all_ranked : All (IsRanked texts) all = subst (λ s. All (IsRanked (subject_texts s)) all) c.as_slice.ensures.value c.in_ok-all.ensures.ranked in
    let others_ranked : All (IsRanked texts) others = subst (λ s. All (IsRanked (subject_texts s)) others) c.as_slice-2.ensures.value c.in_ok-others.ensures.ranked in
    let rows_are = c.in_ok-rows.ensures ∙ (λ i. filter (row_has_more (c.as_slice-3.ensures.value i) (c.as_slice-4.ensures.value i)) (c.as_slice-3.ensures.value i)) in
    let moved : IsPermutation (filter (row_has_more all others) all) c.sort_unstable.new.self.items = subst (λ l. IsPermutation l c.sort_unstable.new.self.items) rows_are c.sort_unstable.ensures.permutation in
    more_marked texts all others all_ranked others_ranked c.sort_unstable.new.self.items c.new.result.items c.args.many.now c.args.few.now t moved c.new.ensures.items c.in_ok-all.ensures.triples c.in_ok-others.ensures.triples
