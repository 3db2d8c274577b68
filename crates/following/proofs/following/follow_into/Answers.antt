-- The taking stopped, and what is printed.
use Rattle.std.proofs.Common.{◌∙◌, inl, refl, ap}
use Rattle.std.proofs.lemmas.Result.{err_from_is_err_and}
use Rattle.replica.specs.Replica.{ReplicaState}
use Rattle.following.specs.Following.{follow_moment}
use Rattle.following.proofs.{Ended.broken_off, Ended.ended}
use Rattle.following.proofs.following.follow_into.Goals as goal

pub returns-in_err-take_records-clause-err : goal.returns-in_err-take_records-clause-err
returns-in_err-take_records-clause-err g c =
    let p = err_from_is_err_and c.from_residual.result c.from_residual.ensures.1 in
    let halted = rw (c.max_bytes.ensures.value, c.requires) at c.in_err-take_records.ensures.err in
    rw (p.1, p.2) (inl (halted, refl))

pub returns-in-Ok-clause-ok : goal.returns-in-Ok-clause-ok
returns-in-Ok-clause-ok g c =
    let limit = c.take_records.ensures.limit ∙ ap (λ (s : ReplicaState). s.limit) c.requires in
    let taken = rw c.max_bytes.ensures.value at c.in_ok-take_records.ensures.ok in
    ended c.args.options.now (follow_moment g.S.Source g.K.Sink c.args.events.now c.args.out.now) (follow_moment g.S.Source g.K.Sink c.take_records.new.events c.print_replica.new.out) c.take_records.new.replica taken limit
    (rw c.export.ensures at c.in-Ok.ensures)

pub returns-in-Err-clause-err : goal.returns-in-Err-clause-err
returns-in-Err-clause-err g c =
    let limit = c.take_records.ensures.limit ∙ ap (λ (s : ReplicaState). s.limit) c.requires in
    let taken = rw c.max_bytes.ensures.value at c.in_ok-take_records.ensures.ok in
    rw c.from.ensures (broken_off c.args.options.now (follow_moment g.S.Source g.K.Sink c.args.events.now c.args.out.now) (follow_moment g.S.Source g.K.Sink c.take_records.new.events c.print_replica.new.out) c.take_records.new.replica taken limit c.in-Err.why
    (rw c.export.ensures at c.in-Err.ensures))

pub returns-in_err-take_records-clause-taken : goal.returns-in_err-take_records-clause-taken
returns-in_err-take_records-clause-taken g c = rw c.max_bytes.ensures.value at c.take_records.ensures.taken

pub returns-in-Ok-clause-taken : goal.returns-in-Ok-clause-taken
returns-in-Ok-clause-taken g c = rw c.max_bytes.ensures.value at c.take_records.ensures.taken

pub returns-in-Err-clause-taken : goal.returns-in-Err-clause-taken
returns-in-Err-clause-taken g c = rw c.max_bytes.ensures.value at c.take_records.ensures.taken
