-- The one triple that goes has an owner.
use Rattle.std.proofs.Common.{◌<◌, arith}
use Rattle.rdf_term.specs.declared.triple.Triple.{Triple}
use Rattle.triple_store.specs.Counts.{count_of}
use Rattle.triple_store.specs.StoreState.{counts_in}
use Rattle.vectors.proofs.Single.{of_each}
use Rattle.vectors.proofs.stores.is_full_beside.Goals as goal

pub is_full_for-requires-clause-there : goal.is_full_for-requires-clause-there
is_full_for-requires-clause-there c =
    of_each (λ (t : Triple). 0 < count_of (counts_in c.args.store.now) t) _ _ c.in_ok-removes.ensures
    (omega (arith, c.if-owners-eq0.false, c.owners.ensures.count))
