-- Each holder holds by this version.
use Rattle.replay_model.proofs.Versions.{owners-all, union-all}
use Rattle.replay_model.proofs.version_laws.one_version_gives_its_union.Goals as goal

pub returns-clause-union : goal.returns-clause-union
returns-clause-union g c order meaning v records = union-all meaning v records order

pub returns-clause-owners : goal.returns-clause-owners
returns-clause-owners g c order meaning v records t = owners-all meaning v records order t
