-- The new piece lies beside the store's.
use Rattle.std.proofs.Common.{Some, None}
use Rattle.term_pool.proofs.Beside.{MovesBeside, placed}
use Rattle.triple_store.proofs.Unchanged.{moved, moved_counts, moved_keys, moved_stored}
use Rattle.triple_store.proofs.store.Store.place.Goals as goal

moves : (c : goal.In_ok-piece) → MovesBeside c.self.inside.catalog.pool c.self.inside.region c.place.new.self c.in_ok-piece.piece None (Some c.args.bytes.now)
moves c = placed c.self.inside.catalog.pool c.self.inside.region c.place.new.self c.in_ok-piece.piece c.args.bytes.now c.self.invariant.lies c.in_ok-piece.ensures.was_vacant c.in_ok-piece.ensures.updates

pub invariant_of-self-2 : goal.invariant_of-self-2
invariant_of-self-2 c = moved_stored c.self.inside.catalog _ _ _ _ _ c.self.invariant (moves c)

pub returns-clause-sound : goal.returns-clause-sound
returns-clause-sound c = moved_stored c.self.inside.catalog _ _ _ _ _ c.self.invariant (moves c)

pub returns-clause-counts : goal.returns-clause-counts
returns-clause-counts c = rw (← c.self.view_is) (moved_counts c.self.inside.catalog _ _ _ _ _ c.self.invariant (moves c))

pub returns-clause-ok : goal.returns-clause-ok
returns-clause-ok c = rw (← c.self.view_is) (moved c.self.inside.catalog _ _ _ _ _ c.self.invariant (moves c))

pub returns-clause-kept : goal.returns-clause-kept
returns-clause-kept c = rw (← c.self.view_is) (moved_keys c.self.inside.catalog _ _ _ _ _ c.self.invariant (moves c))
