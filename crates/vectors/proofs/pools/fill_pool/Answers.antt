-- A new pool lies in each region.
use Rattle.vectors.proofs.pools.fill_pool.Goals as goal

pub take_steps-filled-requires : goal.take_steps-filled-requires
take_steps-filled-requires c = c.new-pool.ensures.lies _
