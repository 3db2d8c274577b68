-- Both sides are the rows of their triples, by the same subjects.
use Rattle.std.proofs.Common.{◌≡◌, ◌∙◌, subst}
use Rattle.std.specs.Prelude.{map}
use Rattle.sorted_sets.specs.Rising.{difference, sorted}
use Rattle.rdf_term.specs.Order.{triple_cmp}
use Rattle.triple_catalog.specs.Lines.{AreLinesOf}
use Rattle.page_parts.specs.Row.{row_cmp, row_triple, subject_texts}
use Rattle.page_parts.specs.Rows.{AreRowsOf}
use Rattle.page_parts.proofs.Changed.{rows_changed}
use Rattle.page_parts.proofs.changing.row_change.Goals as goal

pub returns : goal.returns
returns c =
    let texts = subject_texts c.in_ok-subjects.subjects.items in
    let old = c.in_ok-old_rows.old_rows.items in
    let new = c.in_ok-new_rows.new_rows.items in
    let before = c.args.old.now in
    let after = c.args.new.now in
    let old_are : AreRowsOf texts old before = subst (λ s. AreRowsOf (subject_texts s) old before) c.as_slice.ensures.value c.in_ok-old_rows.ensures in
    let new_are : AreRowsOf texts new after = subst (λ s. AreRowsOf (subject_texts s) new after) c.as_slice-2.ensures.value c.in_ok-new_rows.ensures in
    let came : map row_triple (difference row_cmp c.as_slice-3.result.now c.as_slice-4.result.now) ≡ difference triple_cmp (sorted triple_cmp after) (sorted triple_cmp before) =
    (λ i. map row_triple (difference row_cmp (c.as_slice-3.ensures.value i) (c.as_slice-4.ensures.value i))) ∙ rows_changed texts new old after before new_are old_are in
    let gone : map row_triple (difference row_cmp c.as_slice-5.result.now c.as_slice-6.result.now) ≡ difference triple_cmp (sorted triple_cmp before) (sorted triple_cmp after) =
    (λ i. map row_triple (difference row_cmp (c.as_slice-5.ensures.value i) (c.as_slice-6.ensures.value i))) ∙ rows_changed texts old new before after old_are new_are in
    record {
      came = subst (AreLinesOf c.in_ok-came.came) came c.in_ok-came.ensures;
      gone = subst (AreLinesOf c.in_ok-gone.gone) gone c.in_ok-gone.ensures;
    }
