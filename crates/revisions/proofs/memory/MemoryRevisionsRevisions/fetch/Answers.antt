-- Where an entry is found, neither count moves.
use Rattle.std.proofs.Common.{refl}
use Rattle.revisions.proofs.Counts.{both_still}
use Rattle.revisions.proofs.memory.MemoryRevisionsRevisions.fetch.Goals as goal

pub returns-clause-quiet : goal.returns-clause-quiet
returns-clause-quiet c = rw (← c.self.view_is) (both_still _ _ _ _ _ refl c.if-next_fails.ensures.still)
