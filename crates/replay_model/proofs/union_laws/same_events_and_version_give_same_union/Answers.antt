-- The union and the owners are those of the same records by the same version.
use Rattle.replay_model.proofs.Confluence.{union-confluent, owners-confluent}
use Rattle.replay_model.proofs.union_laws.same_events_and_version_give_same_union.Goals as goal

pub returns-clause-union : goal.returns-clause-union
returns-clause-union g c order meaning = union-confluent order meaning

pub returns-clause-owners : goal.returns-clause-owners
returns-clause-owners g c order meaning = owners-confluent order meaning
