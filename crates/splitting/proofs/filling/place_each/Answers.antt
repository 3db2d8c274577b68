-- No entity has an entry at first, and one more has it then.
use Rattle.std.proofs.Common.{◌∙◌, ap, subst, refl, sym, take, add-one}
use Rattle.std.proofs.Math.Seq.{take-suc}
use Rattle.splitting.specs.Filling.{HaveEntries}
use Rattle.splitting.proofs.Placed.{none_yet, one_more}
use Rattle.splitting.proofs.filling.place_each.Goals as goal

pub loop-id-init : goal.loop-id-init
loop-id-init c = (none_yet c.args.routes.now c.args.world.now c.args.split.now.entries c.requires.fresh, refl, refl)

pub loop-id-preserved : goal.loop-id-preserved
loop-id-preserved c = (
  subst (λ ids. HaveEntries c.args.routes.now c.args.world.now ids c.place.new.split.entries) (sym (ap (λ n. take n c.args.ids.now) (add-one c.loop-id.id-index) ∙ take-suc c.args.ids.now c.loop-id.id-index _ c.loop-id-test.true))
      (one_more c.args.routes.now c.args.world.now (take c.loop-id.id-index c.args.ids.now) _ c.loop-id.split.entries c.place.new.split.entries c.loop-id.invariant.0 c.in_ok-place.ensures.entries),
  c.place.ensures.graphs ∙ c.loop-id.invariant.1,
  c.place.ensures.limit ∙ c.loop-id.invariant.2,
)
