-- Each delivery leaves all that is held mapped by one version, the one in force.
use Rattle.replay_model.proofs.PlayedVersions.{by_two-played, version-played}
use Rattle.replay_model.proofs.version_laws.documents_are_by_the_version_in_force.Goals as goal

pub returns-clause-ids : goal.returns-clause-ids
returns-clause-ids c = by_two-played

pub returns-clause-each : goal.returns-clause-each
returns-clause-each c = version-played
