-- Without triples no term is there, and a limit changes no count.
use Rattle.std.proofs.Common.{ap, sym, subst, ◌∙◌}
use Rattle.term_pool.specs.{declared.pool.Pool.Pool, Pool.beside as pool_beside}
use Rattle.triple_catalog.specs.Stored.{IsStored, counts_in}
use Rattle.triple_catalog.proofs.Unchanged.{len_image}
use Rattle.triple_store.proofs.Unchanged.{limited, limited_beside, limited_counts}
use Rattle.triple_store.proofs.store.Store.set_limit.Goals as goal

sound : (c : goal.After-set_limit) → IsStored (record { alloc = c.self.inside.catalog.alloc; pool = c.set_limit.new.self; index = c.self.inside.catalog.index }) c.self.inside.region
sound c = subst (λ (p : Pool). IsStored (record { alloc = c.self.inside.catalog.alloc; pool = p; index = c.self.inside.catalog.index }) c.self.inside.region) (sym c.set_limit.ensures)
    (limited c.self.inside.catalog c.self.inside.region c.args.limit (sym (len_image c.self.inside.catalog c.self.inside.region c.self.invariant) ∙ (rw (← c.self.view_is) at c.requires)) c.self.invariant)

pub invariant_of-self : goal.invariant_of-self
invariant_of-self c = sound c

pub returns-clause-sound : goal.returns-clause-sound
returns-clause-sound c = sound c

pub returns-clause-counts : goal.returns-clause-counts
returns-clause-counts c = rw (← c.self.view_is)
    (ap (λ (p : Pool). counts_in (record { alloc = c.self.inside.catalog.alloc; pool = p; index = c.self.inside.catalog.index }) c.self.inside.region) c.set_limit.ensures ∙ limited_counts c.self.inside.catalog c.self.inside.region c.args.limit)

pub returns-clause-beside : goal.returns-clause-beside
returns-clause-beside c = rw (← c.self.view_is) (λ piece. ap (λ (p : Pool). pool_beside p c.self.inside.region piece) c.set_limit.ensures ∙ limited_beside c.self.inside.catalog.pool c.self.inside.region c.args.limit piece)
