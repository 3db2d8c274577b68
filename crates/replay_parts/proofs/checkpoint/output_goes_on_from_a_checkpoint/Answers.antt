-- What one delivery adds, one after the other.
use Rattle.replay_parts.proofs.GoingOn.{said-append, transcript-append, fetches-append, fetches_to_end-append}
use Rattle.replay_parts.proofs.checkpoint.output_goes_on_from_a_checkpoint.Goals as goal

pub returns-clause-said : goal.returns-clause-said
returns-clause-said c h meaning = said-append meaning h

pub returns-clause-all : goal.returns-clause-all
returns-clause-all c h meaning = transcript-append meaning h

pub returns-clause-fetches : goal.returns-clause-fetches
returns-clause-fetches c = fetches-append

pub returns-clause-fetches_to_end : goal.returns-clause-fetches_to_end
returns-clause-fetches_to_end c = fetches_to_end-append
