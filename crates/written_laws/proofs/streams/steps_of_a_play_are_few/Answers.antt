-- By the lemma.
use Rattle.written_laws.proofs.Bounds.{steps_few}
use Rattle.written_laws.proofs.streams.steps_of_a_play_are_few.Goals as goal

pub returns : goal.returns
returns c = steps_few
