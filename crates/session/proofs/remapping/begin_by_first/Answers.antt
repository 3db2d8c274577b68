-- Whoever is named as mapped by version Two holds a page, and nobody does.
use Rattle.std.proofs.Common.{◌∙◌, ap, subst}
use Rattle.replay_model.specs.ReplayState.{ReplayState}
use Rattle.holders.specs.Holding.{AreHolders}
use Rattle.world.specs.WorldState.{WorldState}
use Rattle.world.proofs.OneVersion.{none_named}
use Rattle.session.proofs.remapping.begin_by_first.Goals as goal

pub returns-clause-first : goal.returns-clause-first
returns-clause-first c =
    let is = ap (λ (w : WorldState). w.replay) c.set_mapping.ensures.set ∙ c.requires.world in (
      ap (λ (w : WorldState). w.mapping) c.set_mapping.ensures.set,
      none_named c.set_mapping.new.self.by_two (subst (λ (w : ReplayState). AreHolders c.set_mapping.new.self.by_two w.played.records) is c.set_mapping.ensures.holders),
    )
