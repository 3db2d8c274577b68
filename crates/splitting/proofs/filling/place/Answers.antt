-- The world isn't lean. The page that the entity holds has room, and is its entry.
use Rattle.std.proofs.Common.{ap}
use Rattle.world.specs.Limit.{Limit}
use Rattle.splitting.proofs.Placed.{page_has_room, page_placed}
use Rattle.splitting.proofs.filling.place.Goals as goal

pub held-requires : goal.held-requires
held-requires c = ap (λ (l : Limit). l.lean) c.requires.limit

pub set-requires-clause-room : goal.set-requires-clause-room
set-requires-clause-room c =
    page_has_room c.args.routes.now c.args.world.now c.requires.ready c.args.split.now.limit c.requires.limit c.args.split.now.entries c.requires.among c.args.id _ c.in-Some.ensures.value
    c.in_ok-page-in-Some.page (rw c.mapping.ensures at c.in_ok-page-in-Some.ensures.routed)

pub returns-in_ok-page-in-Some-clause-entries : goal.returns-in_ok-page-in-Some-clause-entries
returns-in_ok-page-in-Some-clause-entries c =
    rw (page_placed c.args.routes.now c.args.world.now c.requires.ready c.args.id _ c.in-Some.ensures.value c.in_ok-page-in-Some.page (rw c.mapping.ensures at c.in_ok-page-in-Some.ensures.routed)) c.set.ensures.entries
