-- By the lemma.
use Rattle.written_laws.proofs.Chains.{chain_to_end}
use Rattle.written_laws.proofs.streams.steps_of_a_play_are_a_chain.Goals as goal

pub returns : goal.returns
returns c = chain_to_end
