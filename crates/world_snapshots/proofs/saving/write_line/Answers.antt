-- Want of memory before the first byte, and the text of the line.
use Rattle.checkpoint.specs.Archive.{archive}
use Rattle.world_snapshots.proofs.Written.{fails_at_once}
use Rattle.world_snapshots.proofs.saving.write_line.Goals as goal

pub returns-in_default : goal.returns-in_default
returns-in_default g c = fails_at_once _ (archive g.F.Snapshots c.args.out.now)
