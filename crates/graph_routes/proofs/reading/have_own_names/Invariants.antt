-- The routes from here on decide.
use Rattle.std.proofs.Common.{◌≡◌, length}
use Rattle.graph_routes.specs.Routes.{have_own_names}
use Rattle.graph_routes.proofs.reading.have_own_names.Given as goal

abbrev pub invariant-loop-route : goal.invariant-loop-route
invariant-loop-route l = have_own_names l.rest ≡ have_own_names l.routes

abbrev pub decreases-loop-route : goal.decreases-loop-route
decreases-loop-route l = length l.rest
