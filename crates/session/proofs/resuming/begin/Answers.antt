-- The world is that at the start, but for its limit.
use Rattle.std.proofs.Common.{◌∙◌, ap}
use Rattle.replay_model.specs.ReplayState.{ReplayState}
use Rattle.world.specs.{Limit.Limit, WorldState.WorldState}
use Rattle.session.proofs.resuming.begin.Goals as goal

pub set_limit-requires : goal.set_limit-requires
set_limit-requires c = record {
  nothing = ap (λ (s : ReplayState). s.played) c.set_horizon.ensures.replay;
  lean = ap (λ (l : Limit). l.lean) (c.set_horizon.ensures.limit ∙ c.begin_by_first.ensures.limit) ∙ c.requires.lean;
}

pub returns-clause-world : goal.returns-clause-world
returns-clause-world c = c.set_limit.ensures.rest ∙ (λ i. record {
  replay = c.set_horizon.ensures.replay i;
  limit = c.set_limit.new.world.limit;
  mapping = c.set_horizon.ensures.first.0 i;
  by_two = c.set_horizon.ensures.first.1 i;
})
