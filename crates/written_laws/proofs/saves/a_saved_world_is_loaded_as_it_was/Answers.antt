-- By the laws of the format.
use Rattle.std.proofs.Common.{◌≡◌}
use Rattle.checkpoint.specs.Saved.{saved_of}
use Rattle.written_laws.proofs.GivenBack.{given_back}
use Rattle.written_laws.proofs.saves.a_saved_world_is_loaded_as_it_was.Goals as goal

pub returns-clause-back : goal.returns-clause-back
returns-clause-back c w counts s rest fit by_one is =
    let same : s ≡ saved_of w counts = cc (is, c.snapshots_read_back.ensures.bytes (saved_of w counts) rest fit) in
    given_back w counts s same by_one

pub returns-clause-cut : goal.returns-clause-cut
returns-clause-cut c w counts k s fit fewer is = cc (is, c.snapshots_read_back.ensures.bytes_cut (saved_of w counts) k fit fewer)
