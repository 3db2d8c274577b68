-- Each part of a sound record can be read.
use Rattle.replica.proofs.{Applied.left_part, AtOnce.right_part}
use Rattle.replica.proofs.applying.effect.Goals as goal

pub read_some-requires-clause-readable : goal.read_some-requires-clause-readable
read_some-requires-clause-readable c = left_part c.args.item.now.adds c.args.item.now.removes c.requires.sound.readable

pub read_some-requires-2-clause-readable : goal.read_some-requires-2-clause-readable
read_some-requires-2-clause-readable c = right_part c.args.item.now.adds c.args.item.now.removes c.requires.sound.readable
