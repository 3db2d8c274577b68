-- The rows of both lists are in order.
use Rattle.std.proofs.Common.{subst}
use Rattle.page_parts.specs.Row.{row_cmp-total, subject_texts}
use Rattle.page_parts.specs.Rows.{AreRowsOf}
use Rattle.page_parts.proofs.{MarkedRows.marks_of, Sought.sorted_rising}
use Rattle.page_parts.proofs.marks.Marks.of.Goals as goal

pub invariant_of-result : goal.invariant_of-result
invariant_of-result c =
    let first = c.in_ok-first.first.items in
    let second = c.in_ok-second.second.items in
    let texts = subject_texts c.in_ok-subjects.subjects.items in
    let first_are : AreRowsOf texts first c.args.first.now = subst (λ s. AreRowsOf (subject_texts s) first c.args.first.now) c.as_slice.ensures.value c.in_ok-first.ensures in
    let second_are : AreRowsOf texts second c.args.second.now = subst (λ s. AreRowsOf (subject_texts s) second c.args.second.now) c.as_slice-2.ensures.value c.in_ok-second.ensures in
    record {
      sorted = c.in_ok-subjects.ensures.sorted;
      first_ranked = first_are.ranked;
      first_sorted = sorted_rising row_cmp-total first first_are.rising;
      second_ranked = second_are.ranked;
      second_sorted = sorted_rising row_cmp-total second second_are.rising;
    }

pub returns : goal.returns
returns c t =
    let first = c.in_ok-first.first.items in
    let second = c.in_ok-second.second.items in
    let texts = subject_texts c.in_ok-subjects.subjects.items in
    let first_are : AreRowsOf texts first c.args.first.now = subst (λ s. AreRowsOf (subject_texts s) first c.args.first.now) c.as_slice.ensures.value c.in_ok-first.ensures in
    let second_are : AreRowsOf texts second c.args.second.now = subst (λ s. AreRowsOf (subject_texts s) second c.args.second.now) c.as_slice-2.ensures.value c.in_ok-second.ensures in
    marks_of texts first second c.args.first.now c.args.second.now t first_are second_are
