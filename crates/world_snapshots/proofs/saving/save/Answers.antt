-- What isn't kept is let go.
use Rattle.checkpoint.specs.Archive.{archive}
use Rattle.world_snapshots.proofs.Written.{let_go}
use Rattle.world_snapshots.proofs.saving.save.Goals as goal

pub returns-in-Err : goal.returns-in-Err
returns-in-Err g c =
    let_go _ _ (archive g.F.Snapshots c.args.snapshots.now) (archive g.F.Snapshots c.write_and_keep.new.snapshots) (archive g.F.Snapshots c.discard.new.self) c.in-Err.ensures c.discard.ensures.same
    c.discard.ensures.quiet c.discard.ensures.most
