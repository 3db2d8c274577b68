-- Store and records say what lies in the region.
use Rattle.holdings.proofs.Laying.{laid}
use Rattle.replay_model.specs.Versions.{meaning_by}
use Rattle.fetched_pages.specs.Meaning.{meaning}
use Rattle.holdings.proofs.holdings.Holdings.region.Goals as goal

pub returns : goal.returns
returns c = rw (← c.self.view_is, c.region.ensures.region) (laid (meaning_by meaning c.self.inside.holders.by_two) c.self.inside.store c.self.inside.table.records c.self.invariant.kept c.region.ensures.laid)
