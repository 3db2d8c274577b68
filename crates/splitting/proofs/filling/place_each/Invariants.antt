-- The entities so far have their entries, and no other has one.
use Rattle.std.proofs.Common.{◌≡◌, take}
use Rattle.splitting.specs.Filling.{HaveEntries}
use Rattle.splitting.proofs.filling.place_each.Given as goal

abbrev pub invariant-loop-id : goal.invariant-loop-id
invariant-loop-id l =
    HaveEntries l.routes l.world (take l.id-index l.ids) l.split.entries
    × (l.split.graphs ≡ l.fn.split.graphs)
    × (l.split.limit ≡ l.fn.split.limit)
