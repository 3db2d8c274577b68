-- What a sound record adds can be read.
use Rattle.replica.proofs.Applied.{left_part}
use Rattle.replica.proofs.record.PatchRecord.added.Goals as goal

pub read_set-requires-clause-readable : goal.read_set-requires-clause-readable
read_set-requires-clause-readable c = left_part c.args.self.now.adds c.args.self.now.removes c.requires.readable
