-- Text by text.
use Rattle.std.proofs.Common.{◌≡◌, ◌∙◌, sym, false, true≢false, List, ℕ, ◌∷◌, [], ◌++◌}
use Rattle.rdf_term.specs.{declared.triple.Triple.Triple, Text.term_text}
use Rattle.replica.proofs.TripleLines.{line_joins}
use Rattle.replica.proofs.triple_line.split_line.Goals as goal

-- what stands behind each text
abbrev after_object : List ℕ
after_object = 46 ∷ []

abbrev after_predicate : Triple → List ℕ
after_predicate triple = term_text triple.object ++ 32 ∷ after_object

abbrev after_subject : Triple → List ℕ
after_subject triple = term_text triple.predicate ++ 32 ∷ after_predicate triple

pub returns-in_err-subject-clause-whole : goal.returns-in_err-subject-clause-whole
returns-in_err-subject-clause-whole c = λ triple is.
    absurd (c.in_err-subject.ensures.term triple.subject (after_subject triple) is.readable.subject.canonical.fit (is.text ∙ line_joins triple))

pub returns-in_err-predicate-clause-whole : goal.returns-in_err-predicate-clause-whole
returns-in_err-predicate-clause-whole c = λ triple is.
    let subject = c.in_ok-subject.ensures.term triple.subject (after_subject triple) is.readable.subject.canonical.fit (is.text ∙ line_joins triple) in
    absurd (c.in_err-predicate.ensures.term triple.predicate (after_predicate triple) is.readable.predicate.canonical.fit subject.1)

pub returns-in_err-object-clause-whole : goal.returns-in_err-object-clause-whole
returns-in_err-object-clause-whole c = λ triple is.
    let subject = c.in_ok-subject.ensures.term triple.subject (after_subject triple) is.readable.subject.canonical.fit (is.text ∙ line_joins triple) in
    let predicate = c.in_ok-predicate.ensures.term triple.predicate (after_predicate triple) is.readable.predicate.canonical.fit subject.1 in
    absurd (c.in_err-object.ensures.term triple.object after_object is.readable.object.canonical.fit predicate.1)

pub returns-then-ne-clause-whole : goal.returns-then-ne-clause-whole
returns-then-ne-clause-whole c = λ triple is.
    let subject = c.in_ok-subject.ensures.term triple.subject (after_subject triple) is.readable.subject.canonical.fit (is.text ∙ line_joins triple) in
    let predicate = c.in_ok-predicate.ensures.term triple.predicate (after_predicate triple) is.readable.predicate.canonical.fit subject.1 in
    let object = c.in_ok-object.ensures.term triple.object after_object is.readable.object.canonical.fit predicate.1 in
    let differs = c.ne.ensures in
    let differ_not : c.ne.result ≡ false = rw (object.1, c.as_slice.ensures) at c.ne.ensures in
    true≢false (sym c.if-ne.true ∙ differ_not)

pub returns-clause-whole : goal.returns-clause-whole
returns-clause-whole c = λ triple is.
    let subject = c.in_ok-subject.ensures.term triple.subject (after_subject triple) is.readable.subject.canonical.fit (is.text ∙ line_joins triple) in
    let predicate = c.in_ok-predicate.ensures.term triple.predicate (after_predicate triple) is.readable.predicate.canonical.fit subject.1 in
    let object = c.in_ok-object.ensures.term triple.object after_object is.readable.object.canonical.fit predicate.1 in
    (subject.0, predicate.0, object.0)
