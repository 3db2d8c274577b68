-- Each entry of the records means the same.
use Rattle.replay_model.proofs.Versions.{owners-agree, union-agree}
use Rattle.replay_model.proofs.version_laws.what_is_held_decides_the_union.Goals as goal

pub returns-clause-union : goal.returns-clause-union
returns-clause-union g c order m n records agree = union-agree order m n records agree

pub returns-clause-owners : goal.returns-clause-owners
returns-clause-owners g c order m n records agree t = owners-agree order m n records agree t
