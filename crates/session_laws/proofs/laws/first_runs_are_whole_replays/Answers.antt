-- By one delivery after the other.
use Rattle.run_model.proofs.FromNothing.{ended_first, fetches_end_first, fetches_first, led_first, said_by_first, said_first, steps_end_first, steps_first, stream_first, version_first}
use Rattle.session_laws.proofs.laws.first_runs_are_whole_replays.Goals as goal

pub returns-clause-state : goal.returns-clause-state
returns-clause-state c = led_first

pub returns-clause-the_end : goal.returns-clause-the_end
returns-clause-the_end c = ended_first

pub returns-clause-version : goal.returns-clause-version
returns-clause-version c = version_first

pub returns-clause-fetches : goal.returns-clause-fetches
returns-clause-fetches c = fetches_first

pub returns-clause-fetches_to_end : goal.returns-clause-fetches_to_end
returns-clause-fetches_to_end c = fetches_end_first

pub returns-clause-said : goal.returns-clause-said
returns-clause-said c = said_first

pub returns-clause-steps : goal.returns-clause-steps
returns-clause-steps c = steps_first

pub returns-clause-steps_to_end : goal.returns-clause-steps_to_end
returns-clause-steps_to_end c = steps_end_first

pub returns-clause-stream : goal.returns-clause-stream
returns-clause-stream c = stream_first

pub returns-clause-said_of_graphs : goal.returns-clause-said_of_graphs
returns-clause-said_of_graphs c = said_by_first
