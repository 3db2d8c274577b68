-- The line ends a record, or is within one.
use Rattle.std.proofs.Common.{inl, inr, ⊎_elim, ◌++◌, ◌∷◌, []}
use Rattle.std.proofs.lemmas.Result.{IfErr-weaker, on_ok_weaker}
use Rattle.following.proofs.RecordLines.{ends_record, ends_record_new, within_record}
use Rattle.following.proofs.taking.take_line.Goals as goal

pub take_record-requires : goal.take_record-requires
take_record-requires c = rw c.in-Ok-Some.field-0-is at c.in-Ok-Some.ensures.sound

pub returns-in-Ok-Some-clause-ok : goal.returns-in-Ok-Some-clause-ok
returns-in-Ok-Some-clause-ok c =
    let takes = rw c.in-Ok-Some.field-0-is at c.in-Ok-Some.ensures.takes in
    let lines = rw c.in-Ok-Some.field-0-is at c.in-Ok-Some.ensures.lines in
    on_ok_weaker c.take_record.result
    (λ taken items done are applied. (items ++ c.in-Ok-Some.item ∷ [], ends_record_new _ _ items done are _ c.in-Ok-Some.item takes lines, taken items applied)) c.take_record.ensures.ok

pub returns-in-Ok-Some-clause-err : goal.returns-in-Ok-Some-clause-err
returns-in-Ok-Some-clause-err c =
    let takes = rw c.in-Ok-Some.field-0-is at c.in-Ok-Some.ensures.takes in
    let lines = rw c.in-Ok-Some.field-0-is at c.in-Ok-Some.ensures.lines in
    IfErr-weaker c.take_record.result _ _ (λ stop h. inr (⊎_elim
    (λ full. inl (full.0, λ items done are applied. (c.in-Ok-Some.item, ends_record _ _ items done are _ c.in-Ok-Some.item takes lines, full.1 items applied)))
    (λ refused. inr refused) h)) c.take_record.ensures.err

pub returns-in-Ok-None-clause-ok : goal.returns-in-Ok-None-clause-ok
returns-in-Ok-None-clause-ok c =
    let lines = rw c.in-Ok-None.field-0-is at c.in-Ok-None.ensures.lines in
    λ items done are applied. (items, within_record _ _ items done are _ c.line.ensures.unfinished lines, applied)

pub returns-in-Err-clause-err : goal.returns-in-Err-clause-err
returns-in-Err-clause-err c = inl (c.in-Err.fault, c.at_line.ensures, c.in-Err.ensures.cause)
