-- The records are those of a producer, whose triples at the end are the union.
use Rattle.patch_stream.specs.Stream.{steps_to_end}
use Rattle.written_laws.proofs.{Chains.chain_to_end, Streamed.replica_has}
use Rattle.written_laws.proofs.streams.a_replica_of_a_stream_has_its_union.Goals as goal

pub returns : goal.returns
returns c = λ h replies ds items state are follows rests. replica_has _ (steps_to_end h replies ds) items (chain_to_end h replies ds) are state follows rests
