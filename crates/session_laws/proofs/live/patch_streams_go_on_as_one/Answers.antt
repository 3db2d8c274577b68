-- They are one play.
use Rattle.std.proofs.Common.{refl, false}
use Rattle.session_laws.proofs.{Archived.stage_read, Mirrored.counts_of, Mirrored.reached, Mirrored.records_after, Tried.tried_written}
use Rattle.session_laws.proofs.live.patch_streams_go_on_as_one.Goals as goal

pub returns-clause-counts : goal.returns-clause-counts
returns-clause-counts c = counts_of

pub returns-clause-records : goal.returns-clause-records
returns-clause-records c = records_after

pub returns-clause-one : goal.returns-clause-one
returns-clause-one c = reached

pub returns-clause-read_back : goal.returns-clause-read_back
returns-clause-read_back c = λ stage numbers steps chain fit.
    let there = reached false stage numbers steps chain in
    stage_read c.replays_can_be_saved.ensures.at_rest c.snapshots_read_back.ensures.bytes there.h there.replies there.ds stage numbers (there.stands refl) fit

pub returns-clause-tried : goal.returns-clause-tried
returns-clause-tried c = λ closed stage numbers steps chain bytes lines saved run before now again done stop contents left left_again tried resumed. tried_written closed stage numbers steps chain bytes lines saved run before now again done stop contents left left_again tried resumed
