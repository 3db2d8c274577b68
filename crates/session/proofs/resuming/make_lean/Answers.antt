-- Nothing is held, so nobody is named as mapped by version Two.
use Rattle.std.proofs.Common.{◌≡◌, ◌∙◌, ap, subst}
use Rattle.replay_model.specs.Play.{Played, nothing_played}
use Rattle.holders.specs.Holding.{AreHolders}
use Rattle.world.specs.WorldState.{WorldState}
use Rattle.world.proofs.OneVersion.{none_named}
use Rattle.session.proofs.resuming.make_lean.Goals as goal

pub make_lean-requires : goal.make_lean-requires
make_lean-requires c =
    let is : c.set_mapping.new.self.replay.played ≡ nothing_played = ap (λ (w : WorldState). w.replay.played) c.set_mapping.ensures.set ∙ c.requires in
    record {
      records = ap (λ (p : Played). p.records) is;
      by_two = none_named c.set_mapping.new.self.by_two (subst (λ (p : Played). AreHolders c.set_mapping.new.self.by_two p.records) is c.set_mapping.ensures.holders);
    }
