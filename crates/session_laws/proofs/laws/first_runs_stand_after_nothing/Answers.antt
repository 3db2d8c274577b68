-- By what a first run is.
use Rattle.session_laws.proofs.OneRun.{first_counts, first_patches, first_stands}
use Rattle.session_laws.proofs.laws.first_runs_stand_after_nothing.Goals as goal

pub returns-clause-stands : goal.returns-clause-stands
returns-clause-stands c = first_stands

pub returns-clause-counts : goal.returns-clause-counts
returns-clause-counts c = first_counts

pub returns-clause-patches : goal.returns-clause-patches
returns-clause-patches c = first_patches
