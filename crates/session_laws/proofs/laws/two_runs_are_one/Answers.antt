-- What is saved is read back, and the second run goes on from there.
use Rattle.session_laws.proofs.GoesOn.{fates_of_both, holds_of_both, printed_by_both, printed_by_routes, streamed_by_both, world_of_both}
use Rattle.session_laws.proofs.laws.two_runs_are_one.Goals as goal

pub returns-clause-world : goal.returns-clause-world
returns-clause-world c = λ one two before_one now_one before_two now_two runs.
    world_of_both one two before_one now_one before_two now_two runs (c.a_saved_replay_is_read_back.ensures.first one before_one now_one runs.is_first runs.first runs.open_still runs.told runs.fit)

pub returns-clause-fates : goal.returns-clause-fates
returns-clause-fates c = λ one two before_one now_one before_two now_two runs.
    fates_of_both one two before_one now_one before_two now_two runs (c.a_saved_replay_is_read_back.ensures.first one before_one now_one runs.is_first runs.first runs.open_still runs.told runs.fit)

pub returns-clause-holds : goal.returns-clause-holds
returns-clause-holds c = λ one two before_one now_one before_two now_two runs.
    holds_of_both one two before_one now_one before_two now_two runs (c.a_saved_replay_is_read_back.ensures.first one before_one now_one runs.is_first runs.first runs.open_still runs.told runs.fit)

pub returns-clause-printed : goal.returns-clause-printed
returns-clause-printed c = λ one two before_one now_one before_two now_two runs.
    printed_by_both one two before_one now_one before_two now_two runs (c.a_saved_replay_is_read_back.ensures.first one before_one now_one runs.is_first runs.first runs.open_still runs.told runs.fit)

pub returns-clause-streamed : goal.returns-clause-streamed
returns-clause-streamed c = λ one two before_one now_one before_two now_two runs.
    streamed_by_both one two before_one now_one before_two now_two runs (c.a_saved_replay_is_read_back.ensures.first one before_one now_one runs.is_first runs.first runs.open_still runs.told runs.fit)

pub returns-clause-routed : goal.returns-clause-routed
returns-clause-routed c = λ one two before_one now_one before_two now_two runs.
    printed_by_routes one two before_one now_one before_two now_two runs (c.a_saved_replay_is_read_back.ensures.first one before_one now_one runs.is_first runs.first runs.open_still runs.told runs.fit)
