-- The record that waits is sound.
use Rattle.std.proofs.Common.{sym}
use Rattle.replica.proofs.applying.apply_waiting.Goals as goal

pub apply-requires-clause-sound : goal.apply-requires-clause-sound
apply-requires-clause-sound c = c.requires.sound c.in-Some.item.now (sym c.in-Some.ensures.value)
