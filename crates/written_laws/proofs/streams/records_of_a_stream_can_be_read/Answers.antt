-- Their parts are sets of readable triples, and their numbers fit.
use Rattle.patch_stream.specs.Stream.{steps_to_end}
use Rattle.written_laws.proofs.{Bounds.few_enough, Chains.chain_to_end, Readable.can_be_read, Sides.sides_to_end}
use Rattle.written_laws.proofs.streams.records_of_a_stream_can_be_read.Goals as goal

pub returns : goal.returns
returns c = λ h replies ds small. can_be_read _ (steps_to_end h replies ds) (chain_to_end h replies ds) (sides_to_end h replies ds small) (few_enough h replies ds small)
