-- The run goes on from the checkpoint of the replay.
use Rattle.session_laws.proofs.OneRun.{fates_are, holds_are, mapped_is, next_counts, next_patches, next_stands, prints_by, prints_rest, streams_rest, world_is}
use Rattle.session_laws.proofs.laws.runs_go_on_as_one.Goals as goal

pub returns-clause-world : goal.returns-clause-world
returns-clause-world c = world_is

pub returns-clause-mapped : goal.returns-clause-mapped
returns-clause-mapped c = mapped_is

pub returns-clause-fates : goal.returns-clause-fates
returns-clause-fates c = fates_are

pub returns-clause-holds : goal.returns-clause-holds
returns-clause-holds c = holds_are

pub returns-clause-printed : goal.returns-clause-printed
returns-clause-printed c = prints_rest

pub returns-clause-stands : goal.returns-clause-stands
returns-clause-stands c = next_stands

pub returns-clause-counts : goal.returns-clause-counts
returns-clause-counts c = next_counts

pub returns-clause-streamed : goal.returns-clause-streamed
returns-clause-streamed c = streams_rest

pub returns-clause-patches : goal.returns-clause-patches
returns-clause-patches c = next_patches

pub returns-clause-routed : goal.returns-clause-routed
returns-clause-routed c = prints_by
