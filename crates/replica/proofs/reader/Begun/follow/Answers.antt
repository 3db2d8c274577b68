-- A triple that may follow goes on with the record.
use Rattle.std.proofs.Common.{◌≡◌, ◌∙◌, true, inr, refl, sym}
use Rattle.std.proofs.lemmas.Result.{IfOk-weaker}
use Rattle.replica.specs.{Reader.may_come_next, TripleLine.borrowed}
use Rattle.replica.proofs.{ByTexts.readable_of, ByTexts.texts_of, Records.grown}
use Rattle.replica.proofs.reader.Begun.follow.Goals as goal

pub returns-then-may_come_next-clause-ok : goal.returns-then-may_come_next-clause-ok
returns-then-may_come_next-clause-ok c =
    let triple = borrowed c.args.triple in
    let asked = c.may_come_next.ensures triple (texts_of c.args.texts triple c.requires.texts) in
    let follows : may_come_next c.args.self triple ≡ true = sym asked ∙ c.if-may_come_next.true in
    IfOk-weaker c.with_triple.result _ _ (λ next is. (follows, is, rw is (grown c.args.self triple c.requires.unfinished follows (readable_of c.args.texts triple c.requires.texts)))) c.with_triple.ensures.ok

pub returns-else-may_come_next-clause-err : goal.returns-else-may_come_next-clause-err
returns-else-may_come_next-clause-err c =
    let triple = borrowed c.args.triple in
    let asked = c.may_come_next.ensures triple (texts_of c.args.texts triple c.requires.texts) in
    inr (refl, sym asked ∙ c.if-may_come_next.false)
