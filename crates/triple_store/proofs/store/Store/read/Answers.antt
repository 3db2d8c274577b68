-- The piece lies beside the store's.
use Rattle.std.proofs.Common.{ap, sym, ◌∙◌}
use Rattle.std.specs.Prelude.{IsSome, is_some}
use Rattle.term_pool.specs.Pool.{beside as pool_beside}
use Rattle.term_pool.proofs.Beside.{live_beside}
use Rattle.triple_store.proofs.store.Store.read.Goals as goal

pub read-requires : goal.read-requires
read-requires c =
    let given = rw (← c.self.view_is) at c.requires in
    let live : IsSome (pool_beside c.self.inside.catalog.pool c.self.inside.region c.args.piece.now) = given.live in
    sym (ap is_some (live_beside c.self.inside.catalog.pool c.self.inside.region c.args.piece.now live)) ∙ live

pub returns : goal.returns
returns c =
    let given = rw (← c.self.view_is) at c.requires in
    rw (← c.self.view_is) (live_beside c.self.inside.catalog.pool c.self.inside.region c.args.piece.now given.live ∙ c.read.ensures)
