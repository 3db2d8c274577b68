-- A new world has no record.
use Rattle.std.proofs.Common.{◌∙◌, ap, refl, subst, sym}
use Rattle.world.specs.{Limit.Limit, WorldState.WorldState}
use Rattle.checkpoint.specs.{declared.stage.Stage.TheVariants.Unbegun, Loading.IsReady}
use Rattle.world_snapshots.proofs.Steps.{new_ready}
use Rattle.world_snapshots.proofs.loader.Loader.new.Goals as goal

pub returns-in-Ok-clause-fresh : goal.returns-in-Ok-clause-fresh
returns-in-Ok-clause-fresh c =
    let room : Limit = record { terms = c.args.room; lean = c.args.lean } in
    let is = c.in-Ok.ensures ∙ ap (λ (w : WorldState). record w { limit = room }) c.in_ok-world.ensures in
    (refl, subst (λ (w : WorldState). IsReady w Unbegun 0) (sym is) (new_ready room))
