-- A new world has no record.
use Rattle.std.specs.FinMap.{len-empty}
use Rattle.world_snapshots.proofs.loader.set_limit.Goals as goal

pub set_limit-requires-clause-records : goal.set_limit-requires-clause-records
set_limit-requires-clause-records c = rw c.requires.records (len-empty _ _)
