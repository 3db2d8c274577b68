-- The triple of the line follows, or it may not.
use Rattle.std.proofs.Common.{⊎_elim}
use Rattle.std.proofs.lemmas.Result.{IfErr-weaker, IfOk-weaker}
use Rattle.replica.specs.TripleLine.{borrowed}
use Rattle.replica.proofs.ByTexts.{cause_of}
use Rattle.replica.proofs.reader.extend.Goals as goal

pub returns-in_default-clause-err : goal.returns-in_default-clause-err
returns-in_default-clause-err c = (λ e. cc, c.in_default.ensures.none)

pub returns-in-Some-plain_triple-clause-ok : goal.returns-in-Some-plain_triple-clause-ok
returns-in-Some-plain_triple-clause-ok c =
    let triple = borrowed c.in-Some-plain_triple.triple in
    let line = (c.in-Some.ensures.some triple).1 c.in-Some-plain_triple.ensures in
    IfOk-weaker c.follow.result _ _ (λ next h. ((triple, line, h.0, h.1), h.2)) c.follow.ensures.ok

pub returns-in-Some-plain_triple-clause-err : goal.returns-in-Some-plain_triple-clause-err
returns-in-Some-plain_triple-clause-err c =
    let triple = borrowed c.in-Some-plain_triple.triple in
    let line = (c.in-Some.ensures.some triple).1 c.in-Some-plain_triple.ensures in
    IfErr-weaker c.follow.result _ _ (λ fault h. ⊎_elim (λ refused. rw refused tt) (λ order. rw order.0 (triple, line, order.1)) h) c.follow.ensures.err

pub returns-in-None-clause-ok : goal.returns-in-None-clause-ok
returns-in-None-clause-ok c =
    IfOk-weaker c.extend_by_terms.result _ _ (λ next h. ((h.0.0, (c.in-Some.ensures.some h.0.0).1 h.0.1, h.0.2, h.0.3), h.1)) c.extend_by_terms.ensures.ok

pub returns-in-None-clause-err : goal.returns-in-None-clause-err
returns-in-None-clause-err c =
    IfErr-weaker c.extend_by_terms.result _ _ (λ fault h. cause_of fault c.args.begun c.args.line.now c.in-Some.texts c.in-Some.ensures.some h) c.extend_by_terms.ensures.err
