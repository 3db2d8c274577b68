-- Where memory is refused, no line is written.
use Rattle.std.proofs.lemmas.Result.{err_from_is_err_and}
use Rattle.checkpoint.specs.Archive.{archive}
use Rattle.world_snapshots.proofs.Written.{fails_at_once}
use Rattle.world_snapshots.proofs.saving.write_lines.Goals as goal

pub returns-in_err-events : goal.returns-in_err-events
returns-in_err-events g c =
    let p = err_from_is_err_and c.from_residual.result c.from_residual.ensures.1 in
    rw (p.1, p.2) (fails_at_once _ (archive g.F.Snapshots c.args.out.now))

pub returns-in_default : goal.returns-in_default
returns-in_default g c = fails_at_once _ (archive g.F.Snapshots c.args.out.now)
