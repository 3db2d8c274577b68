-- The keys of one owner tell its triples.
use Rattle.triple_catalog.proofs.OneOwner.{rows_are}
use Rattle.triple_store.proofs.store.Store.rows_of.Goals as goal

pub returns : goal.returns
returns c = record { rows = rw (← c.self.view_is) (rows_are c.self.inside.catalog c.self.inside.region c.args.keys.rising.now c.rows_of.result c.rows_of.ensures) }
