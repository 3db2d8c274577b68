-- The last version that was brought is in force.
use Rattle.replay_model.proofs.InForce.{version-mapping, version-kept}
use Rattle.replay_model.proofs.step_laws.version_follows_deliveries.Goals as goal

pub returns-clause-mapping : goal.returns-clause-mapping
returns-clause-mapping c = version-mapping

pub returns-clause-others : goal.returns-clause-others
returns-clause-others c = version-kept
