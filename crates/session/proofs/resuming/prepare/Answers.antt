-- Nothing was delivered, so nothing is held.
use Rattle.std.proofs.Common.{◌∙◌, ap}
use Rattle.replay_model.specs.ReplayState.{ReplayState}
use Rattle.world.specs.WorldState.{WorldState}
use Rattle.run_model.proofs.FromNothing.{still_nothing}
use Rattle.session.proofs.Limited.{holds_nothing, still_unplayed}
use Rattle.session.proofs.resuming.prepare.Goals as goal

pub returns-in-None-clause-held : goal.returns-in-None-clause-held
returns-in-None-clause-held c = holds_nothing c.begin.new.world (ap (λ (w : WorldState). w.replay.played) c.begin.ensures.world)

pub returns-in-None-clause-unplayed : goal.returns-in-None-clause-unplayed
returns-in-None-clause-unplayed c = still_unplayed c.begin.new.world _ (ap (λ (w : WorldState). w.replay) c.begin.ensures.world)

pub returns-in-Some-clause-held : goal.returns-in-Some-clause-held
returns-in-Some-clause-held c = holds_nothing c.set_limit.new.world (ap (λ (w : WorldState). w.replay.played) c.set_limit.ensures.rest ∙ ap (λ (s : ReplayState). s.played) c.requires.world)

pub returns-in-Some-clause-unplayed : goal.returns-in-Some-clause-unplayed
returns-in-Some-clause-unplayed c = still_nothing _ (ap (λ (w : WorldState). w.replay) c.set_limit.ensures.rest ∙ c.requires.world)
