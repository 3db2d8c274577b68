-- Without records nothing is stored, and another limit changes nothing else.
use Rattle.holdings.proofs.{Rooming.no_triples, Stepping.refused_step}
use Rattle.replay_model.specs.Versions.{meaning_by}
use Rattle.fetched_pages.specs.Meaning.{meaning}
use Rattle.holdings.proofs.holdings.Holdings.set_limit.Goals as goal

pub set_limit-requires : goal.set_limit-requires
set_limit-requires c = no_triples (meaning_by meaning c.self.inside.holders.by_two) c.self.inside.store c.self.inside.table.records c.self.invariant.kept (rw (← c.self.view_is) at c.requires)

pub invariant_of-self : goal.invariant_of-self
invariant_of-self c = refused_step c.self.inside.store c.self.inside.holders c.self.inside.table.records c.self.invariant c.set_limit.new.self
    c.set_limit.ensures.sound c.set_limit.ensures.counts (record { kept = λ key t is _. c.set_limit.ensures.kept key t is }) c.set_limit.ensures.beside
