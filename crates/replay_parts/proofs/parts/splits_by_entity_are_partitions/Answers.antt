-- An entity passes a test or its opposite, and has one number.
use Rattle.replay_parts.proofs.Numbered.{has_triple-numbered, modulo-partition, numbered-partition, two-partition}
use Rattle.replay_parts.proofs.parts.splits_by_entity_are_partitions.Goals as goal

pub returns-clause-two : goal.returns-clause-two
returns-clause-two c = two-partition

pub returns-clause-numbered : goal.returns-clause-numbered
returns-clause-numbered c = numbered-partition

pub returns-clause-modulo : goal.returns-clause-modulo
returns-clause-modulo c = modulo-partition

pub returns-clause-some_number : goal.returns-clause-some_number
returns-clause-some_number c = has_triple-numbered
