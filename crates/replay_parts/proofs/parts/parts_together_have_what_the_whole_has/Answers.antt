-- Each record, entry and fetch of the whole is in one part.
use Rattle.replay_parts.proofs.PartCounts.{fetches-counted, side-counted}
use Rattle.replay_parts.proofs.PartRecords.{records-together}
use Rattle.replay_parts.proofs.parts.parts_together_have_what_the_whole_has.Goals as goal

pub returns-clause-records : goal.returns-clause-records
returns-clause-records c = records-together

pub returns-clause-side : goal.returns-clause-side
returns-clause-side c = side-counted

pub returns-clause-fetches : goal.returns-clause-fetches
returns-clause-fetches c = fetches-counted
