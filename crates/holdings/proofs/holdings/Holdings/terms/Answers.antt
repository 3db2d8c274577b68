-- The stored triples are the union.
use Rattle.std.proofs.Common.{[], refl, ◌∙◌}
use Rattle.holdings.proofs.Rooming.{room_is}
use Rattle.replay_model.specs.Versions.{meaning_by}
use Rattle.fetched_pages.specs.Meaning.{meaning}
use Rattle.holdings.proofs.holdings.Holdings.terms.Goals as goal

pub returns-clause-count : goal.returns-clause-count
returns-clause-count c = rw (← c.self.view_is)
    (c.terms.ensures.count ∙ room_is (meaning_by meaning c.self.inside.holders.by_two) c.self.inside.store c.self.inside.table.records c.self.invariant.kept _ refl [] [] (λ _. refl))
