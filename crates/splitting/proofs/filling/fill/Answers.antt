-- All entities with a record have their entries.
use Rattle.std.proofs.Common.{◌∙◌, ap, sym}
use Rattle.world.specs.Limit.{whole}
use Rattle.splitting.proofs.Placed.{placed_if}
use Rattle.splitting.proofs.filling.fill.Goals as goal

pub returns-clause-entries : goal.returns-clause-entries
returns-clause-entries c =
    placed_if c.args.routes.now c.args.world.now c.requires.ready c.place_each.new.split.limit (c.requires.limit ∙ ap whole (sym c.place_each.ensures.limit)) c.place_each.new.split.entries c.as_slice.result.now
    (c.as_slice.ensures ∙ c.in_ok-ids.ensures) c.place_each.result c.place_each.ensures.entries
