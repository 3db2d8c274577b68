-- The stored triples are the union, and the count of each is the number of its owners.
use Rattle.replay_model.specs.Versions.{meaning_by}
use Rattle.fetched_pages.specs.Meaning.{meaning}
use Rattle.holdings.proofs.Rooming.{stored_union}
use Rattle.holdings.proofs.holdings.Holdings.store.Goals as goal

pub returns-clause-triples : goal.returns-clause-triples
returns-clause-triples c = rw (← c.self.view_is) (stored_union (meaning_by meaning c.self.inside.holders.by_two) c.self.inside.store c.self.inside.table.records c.self.invariant.kept)

pub returns-clause-counts : goal.returns-clause-counts
returns-clause-counts c = rw (← c.self.view_is) c.self.invariant.kept.counted.owned
