-- One delivery after the other: a question goes to each part, and at all others nothing is printed.
use Rattle.replay_parts.proofs.PartAnswers.{said-routed}
use Rattle.replay_parts.proofs.parts.part_answers_where_the_whole_does.Goals as goal

pub returns : goal.returns
returns c = said-routed
