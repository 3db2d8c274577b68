-- The late entries are the late events.
use Rattle.replay_model.proofs.LateEntries.{late-played}
use Rattle.replay_model.proofs.laws.late_entries_are_late_events.Goals as goal

pub returns : goal.returns
returns c = late-played
