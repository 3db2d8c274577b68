-- What is received is applied as far as it goes.
use Rattle.std.proofs.Common.{◌∷◌, ◌++◌, [], ap, inl, inr, subst, ⊎_elim}
use Rattle.std.proofs.lemmas.Result.{IfErr-weaker, on_ok_weaker}
use Rattle.replica.specs.Replica.{ReplicaState}
use Rattle.following.specs.Taking.{IsRecordOverfull}
use Rattle.following.proofs.Received.{receives}
use Rattle.following.proofs.taking.take_record.Goals as goal

pub returns-in-Ok-clause-ok : goal.returns-in-Ok-clause-ok
returns-in-Ok-clause-ok c =
    on_ok_weaker c.apply_due.result (λ due items applied. due (items ++ c.args.item ∷ [])
    (receives items c.args.item c.args.replica.now c.receive.new.self c.receive.ensures.others (c.in-Ok.ensures.follows items applied.received.follows) applied.received)) c.apply_due.ensures.ok

pub returns-in-Ok-clause-err : goal.returns-in-Ok-clause-err
returns-in-Ok-clause-err c =
    IfErr-weaker c.apply_due.result _ _ (λ stop h. ⊎_elim
    (λ full. inl (
      full.0,
      λ items applied. subst (λ n. IsRecordOverfull n (items ++ c.args.item ∷ [])) (ap (λ (s : ReplicaState). s.limit) c.receive.ensures.others) (full.1 (items ++ c.args.item ∷ [])
          (receives items c.args.item c.args.replica.now c.receive.new.self c.receive.ensures.others (c.in-Ok.ensures.follows items applied.received.follows) applied.received)),
    ))
    (λ refused. inr refused) h) c.apply_due.ensures.err
