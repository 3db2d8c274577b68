-- As many triples agree as keys do with the pattern of slots.
use Rattle.std.proofs.Common.{◌∙◌, length, ap, arith}
use Rattle.triple_catalog.proofs.{Matched.none_matched, Ordered.rows_counted, Unchanged.len_image}
use Rattle.triple_store.proofs.store.Store.matching_len.Goals as goal

pub returns-in-Some-clause-len : goal.returns-in-Some-clause-len
returns-in-Some-clause-len g c = rw (← c.self.view_is) (c.range_len.ensures.len ∙ rows_counted c.self.inside.catalog c.self.inside.region c.args.pattern.now c.in-Some.wanted c.self.invariant c.in-Some.ensures)

pub returns-in-Some-clause-cost : goal.returns-in-Some-clause-cost
returns-in-Some-clause-cost g c = rw (← c.self.view_is) (λ d below.
    let long = len_image c.self.inside.catalog c.self.inside.region c.self.invariant in
    c.range_len.ensures.cost d (omega arith))

pub returns-in-None-clause-len : goal.returns-in-None-clause-len
returns-in-None-clause-len g c = rw (← c.self.view_is) (ap length (none_matched c.self.inside.catalog.pool c.self.inside.region c.self.inside.catalog.index c.args.pattern.now c.in-None.ensures))
