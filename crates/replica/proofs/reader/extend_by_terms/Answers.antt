-- The terms that were read are lent, and they are the triple with these texts.
use Rattle.std.proofs.Common.{refl, ⊎_elim}
use Rattle.std.proofs.lemmas.Result.{IfErr-weaker, IfOk-weaker}
use Rattle.replica.specs.{TripleLine.borrowed, declared.triple_line.TripleRef.TripleRef}
use Rattle.replica.proofs.ByTexts.{borrowed_is}
use Rattle.replica.proofs.reader.extend_by_terms.Goals as goal

pub follow-grown-requires-clause-texts : goal.follow-grown-requires-clause-texts
follow-grown-requires-clause-texts c =
    let read = rw c.in-Ok-Some.field-0-is at c.in-Ok-Some.ensures in
    borrowed_is c.args.texts (record { subject = c.of.result; predicate = c.of-in-Ok-Some.result; object = c.of-in-Ok-Some-2.result }) c.in-Ok-Some.triple
    c.of.ensures c.of-in-Ok-Some.ensures c.of-in-Ok-Some-2.ensures ((read c.in-Ok-Some.triple).0 refl)

pub returns-in-Ok-Some-clause-ok : goal.returns-in-Ok-Some-clause-ok
returns-in-Ok-Some-clause-ok c =
    let lent : TripleRef = record { subject = c.of.result; predicate = c.of-in-Ok-Some.result; object = c.of-in-Ok-Some-2.result } in
    let read = rw c.in-Ok-Some.field-0-is at c.in-Ok-Some.ensures in
    let is = borrowed_is c.args.texts lent c.in-Ok-Some.triple c.of.ensures c.of-in-Ok-Some.ensures c.of-in-Ok-Some-2.ensures ((read c.in-Ok-Some.triple).0 refl) in
    IfOk-weaker c.follow-grown.result _ _ (λ next h. ((borrowed lent, is, h.0, h.1), h.2)) c.follow-grown.ensures.ok

pub returns-in-Ok-Some-clause-err : goal.returns-in-Ok-Some-clause-err
returns-in-Ok-Some-clause-err c =
    let lent : TripleRef = record { subject = c.of.result; predicate = c.of-in-Ok-Some.result; object = c.of-in-Ok-Some-2.result } in
    let read = rw c.in-Ok-Some.field-0-is at c.in-Ok-Some.ensures in
    let is = borrowed_is c.args.texts lent c.in-Ok-Some.triple c.of.ensures c.of-in-Ok-Some.ensures c.of-in-Ok-Some-2.ensures ((read c.in-Ok-Some.triple).0 refl) in
    IfErr-weaker c.follow-grown.result _ _ (λ fault h. ⊎_elim (λ refused. rw refused tt) (λ order. rw order.0 (borrowed lent, is, order.1)) h) c.follow-grown.ensures.err
