use Rattle.std.proofs.Common.{sym, ◌∙◌}
use Rattle.triple_catalog.proofs.Unchanged.{len_image}
use Rattle.triple_store.proofs.store.Store.triples.Goals as goal

pub returns : goal.returns
returns c = rw (← c.self.view_is) (c.len.ensures.len ∙ sym (len_image c.self.inside.catalog c.self.inside.region c.self.invariant))
