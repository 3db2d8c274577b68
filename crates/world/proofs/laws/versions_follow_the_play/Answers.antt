-- What an application and a change of the mapping make of the versions.
use Rattle.world.proofs.OneVersion.{applied_by_one, applied_by_play, remapped_by_play}
use Rattle.world.proofs.laws.versions_follow_the_play.Goals as goal

pub returns-clause-application : goal.returns-clause-application
returns-clause-application c = applied_by_play

pub returns-clause-remapping : goal.returns-clause-remapping
returns-clause-remapping c = remapped_by_play

pub returns-clause-one_version : goal.returns-clause-one_version
returns-clause-one_version c = applied_by_one
