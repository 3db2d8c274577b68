-- The later run goes on from the checkpoint behind the lines of the snapshot.
use Rattle.session_laws.proofs.Killed.{fates_of_all, holds_of_all, mapped_of_all, printed_by_all, streamed_by_all, world_of_all}
use Rattle.session_laws.proofs.kept.killed_runs_go_on_as_one.Goals as goal

pub returns-clause-world : goal.returns-clause-world
returns-clause-world c = λ h earlier ds run later start before now stands runs. world_of_all h earlier ds run later start before now stands runs (c.kept_snapshots_stand_behind_their_lines.ensures.read_back h earlier ds run start stands runs.taken runs.text runs.kept runs.fit)

pub returns-clause-fates : goal.returns-clause-fates
returns-clause-fates c = λ h earlier ds run later start before now stands runs. fates_of_all h earlier ds run later start before now stands runs (c.kept_snapshots_stand_behind_their_lines.ensures.read_back h earlier ds run start stands runs.taken runs.text runs.kept runs.fit)

pub returns-clause-holds : goal.returns-clause-holds
returns-clause-holds c = λ h earlier ds run later start before now stands runs. holds_of_all h earlier ds run later start before now stands runs (c.kept_snapshots_stand_behind_their_lines.ensures.read_back h earlier ds run start stands runs.taken runs.text runs.kept runs.fit)

pub returns-clause-mapped : goal.returns-clause-mapped
returns-clause-mapped c = λ h earlier ds run later start before now stands runs. mapped_of_all h earlier ds run later start before now stands runs (c.kept_snapshots_stand_behind_their_lines.ensures.read_back h earlier ds run start stands runs.taken runs.text runs.kept runs.fit)

pub returns-clause-streamed : goal.returns-clause-streamed
returns-clause-streamed c = λ h earlier ds run later start before now stands runs one two counts. streamed_by_all h earlier ds run later start before now stands runs (c.kept_snapshots_stand_behind_their_lines.ensures.read_back h earlier ds run start stands runs.taken runs.text runs.kept runs.fit) one two counts

pub returns-clause-printed : goal.returns-clause-printed
returns-clause-printed c = λ h earlier ds run later start before now stands runs one two same counts. printed_by_all h earlier ds run later start before now stands runs (c.kept_snapshots_stand_behind_their_lines.ensures.read_back h earlier ds run start stands runs.taken runs.text runs.kept runs.fit) one two counts same
