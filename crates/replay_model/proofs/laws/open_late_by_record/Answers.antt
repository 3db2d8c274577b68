-- The record has the greatest due reconciliation.
use Rattle.replay_model.proofs.OpenLate.{open_late-played}
use Rattle.replay_model.proofs.laws.open_late_by_record.Goals as goal

pub returns : goal.returns
returns c = open_late-played
