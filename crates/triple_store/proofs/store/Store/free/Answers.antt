-- The piece lies beside the store's.
use Rattle.std.proofs.Common.{None, ap, sym, ◌∙◌}
use Rattle.std.specs.Prelude.{IsSome, is_some}
use Rattle.term_pool.specs.Pool.{beside as pool_beside}
use Rattle.term_pool.proofs.Beside.{MovesBeside, freed, live_beside}
use Rattle.triple_store.proofs.Unchanged.{moved, moved_counts, moved_keys, moved_stored}
use Rattle.triple_store.proofs.store.Store.free.Goals as goal

pub free-requires : goal.free-requires
free-requires c =
    let given = rw (← c.self.view_is) at c.requires in
    let live : IsSome (pool_beside c.self.inside.catalog.pool c.self.inside.region c.args.piece) = given.live in
    sym (ap is_some (live_beside c.self.inside.catalog.pool c.self.inside.region c.args.piece live)) ∙ live

moves : (c : goal.After-free) → MovesBeside c.self.inside.catalog.pool c.self.inside.region c.free.new.self c.args.piece (pool_beside c.self.inside.catalog.pool c.self.inside.region c.args.piece) None
moves c =
    let given = rw (← c.self.view_is) at c.requires in
    freed c.self.inside.catalog.pool c.self.inside.region c.free.new.self c.args.piece c.self.invariant.lies given.live c.free.ensures.updates

pub invariant_of-self : goal.invariant_of-self
invariant_of-self c = moved_stored c.self.inside.catalog _ _ _ _ _ c.self.invariant (moves c)

pub returns-clause-sound : goal.returns-clause-sound
returns-clause-sound c = moved_stored c.self.inside.catalog _ _ _ _ _ c.self.invariant (moves c)

pub returns-clause-counts : goal.returns-clause-counts
returns-clause-counts c = rw (← c.self.view_is) (moved_counts c.self.inside.catalog _ _ _ _ _ c.self.invariant (moves c))

pub returns-clause-freed : goal.returns-clause-freed
returns-clause-freed c = rw (← c.self.view_is) (moved c.self.inside.catalog _ _ _ _ _ c.self.invariant (moves c))

pub returns-clause-kept : goal.returns-clause-kept
returns-clause-kept c = rw (← c.self.view_is) (moved_keys c.self.inside.catalog _ _ _ _ _ c.self.invariant (moves c))
