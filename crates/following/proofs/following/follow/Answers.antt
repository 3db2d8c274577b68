-- No memory.
use Rattle.std.proofs.Common.{inl, refl}
use Rattle.std.proofs.lemmas.Result.{err_from_is_err_and}
use Rattle.following.proofs.KnownBytes.{nothing_taken_of}
use Rattle.following.proofs.following.follow.Goals as goal

pub returns-in_err-replica-clause-err : goal.returns-in_err-replica-clause-err
returns-in_err-replica-clause-err g c =
    let p = err_from_is_err_and c.from_residual.result c.from_residual.ensures.1 in
    rw (p.1, p.2) (inl (tt, refl))

pub returns-in_err-replica-clause-taken : goal.returns-in_err-replica-clause-taken
returns-in_err-replica-clause-taken g c = nothing_taken_of _ _
