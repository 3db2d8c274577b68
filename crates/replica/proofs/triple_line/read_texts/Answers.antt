-- Each term is read from its text.
use Rattle.replica.proofs.triple_line.read_texts.Goals as goal

pub returns : goal.returns
returns c = λ triple. (
  (λ found. let all = (c.triple_of.ensures triple).0 found in record {
    subject_is = (c.in_ok-subject.ensures triple.subject).0 all.0;
    predicate_is = (c.in-Ok.ensures triple.predicate).0 all.1;
    object_is = (c.in-Ok-canonical_term.ensures triple.object).0 all.2;
  }),
  (λ has. (c.triple_of.ensures triple).1 (
    (c.in_ok-subject.ensures triple.subject).1 has.subject_is,
    (c.in-Ok.ensures triple.predicate).1 has.predicate_is,
    (c.in-Ok-canonical_term.ensures triple.object).1 has.object_is,
  )),
)
