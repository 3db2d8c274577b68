-- A term that is found is used.
use Rattle.term_pool.proofs.Lying.{used_at}
use Rattle.vectors.proofs.pools.release.Goals as goal

pub release-requires-clause-used : goal.release-requires-clause-used
release-requires-clause-used c = used_at c.args.pool.now c.args.region.now c.requires c.in_ok-slot.slot.number _ c.in_ok-slot.ensures.found
