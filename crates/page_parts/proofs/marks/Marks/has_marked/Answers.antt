-- A triple is looked for by its row.
use Rattle.std.proofs.Common.{◌≡◌, false, sym, ◌∙◌, ap, subst}
use Rattle.sorted_sets.specs.Rising.{has}
use Rattle.rdf_term.specs.{Order.bytes_cmp, Text.term_text}
use Rattle.triple_sink.specs.TermRef.{meant, meant_triple}
use Rattle.triple_texts.specs.Texts.{IsTextOf}
use Rattle.triple_texts.specs.declared.triple_text.TripleText.{TripleText}
use Rattle.page_parts.specs.declared.row.Row.{Row}
use Rattle.page_parts.specs.Row.{IsFirst, row_cmp, subject_texts}
use Rattle.page_parts.proofs.MarkedRows.{in_neither, marked}
use Rattle.page_parts.proofs.marks.Marks.has_marked.Goals as goal

pub returns-in_default : goal.returns-in_default
returns-in_default c =
    let marks = c.args.self.now in
    let texts = subject_texts marks.subjects.items in
    let t = meant_triple c.args.subject.now c.args.predicate.now c.args.object.now in
    let none : has bytes_cmp (term_text (meant c.args.subject.now)) texts ≡ false =
    (λ i. has bytes_cmp (sym (c.as_slice-2.ensures.value ∙ c.in_ok-rewrite.ensures) i) (subject_texts (sym c.as_slice.ensures.value i))) ∙ c.find_subject.ensures.none c.in_default.is in
    in_neither texts t none marks.first.items marks.second.items marks.first_ranked marks.second_ranked

pub returns : goal.returns
returns c =
    let marks = c.args.self.now in
    let texts = subject_texts marks.subjects.items in
    let t = meant_triple c.args.subject.now c.args.predicate.now c.args.object.now in
    let rank = c.in-Some.rank in
    let row : TripleText = record { subject = c.as_slice-3.result; predicate = c.as_slice-4.result; object = c.as_slice-5.result } in
    let its : IsTextOf row t = record {
      subject = c.as_slice-3.ensures.value ∙ c.in_ok-rewrite.ensures;
      predicate = c.as_slice-4.ensures.value ∙ c.in_ok-rewrite-2.ensures;
      object = c.as_slice-5.ensures.value ∙ c.in_ok-rewrite-3.ensures;
    } in
    let first : IsFirst texts rank row.subject.now =
    subst (λ s. IsFirst texts rank s) (c.as_slice-2.ensures.value ∙ sym c.as_slice-3.ensures.value)
    (subst (λ s. IsFirst (subject_texts s) rank c.as_slice-2.result.now) c.as_slice.ensures.value c.in-Some.ensures.first) in
    let sought : Row = record { rank = rank; texts = row } in
    marked texts t rank row its first marks.first.items marks.second.items c.is_among.result c.is_among-2.result marks.first_ranked marks.second_ranked
    (c.is_among.ensures ∙ ap (has row_cmp sought) c.as_slice-6.ensures.value) (c.is_among-2.ensures ∙ ap (has row_cmp sought) c.as_slice-7.ensures.value)
