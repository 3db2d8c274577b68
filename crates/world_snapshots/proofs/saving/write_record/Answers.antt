-- Want of memory before the first byte.
use Rattle.std.proofs.lemmas.Result.{err_from_is_err_and}
use Rattle.checkpoint.specs.Archive.{archive}
use Rattle.world_snapshots.proofs.Written.{fails_at_once}
use Rattle.world_snapshots.proofs.saving.write_record.Goals as goal

pub returns-in_err-entity : goal.returns-in_err-entity
returns-in_err-entity g c =
    let p = err_from_is_err_and c.from_residual.result c.from_residual.ensures.1 in
    rw (p.1, p.2) (fails_at_once _ (archive g.F.Snapshots c.args.out.now))
