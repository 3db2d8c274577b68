-- The route is the first that leads there.
use Rattle.std.proofs.Common.{◌∙◌, length, refl, sym}
use Rattle.std.proofs.lemmas.Option.{slice_get_read}
use Rattle.graph_routes.specs.Routing.{leads}
use Rattle.graph_routes.proofs.Leading.{first_here}
use Rattle.graph_routes.proofs.routing.first_leading.Goals as goal

pub returns-then-leads-clause-first : goal.returns-then-leads-clause-first
returns-then-leads-clause-first c = sym (first_here (leads c.args.classes.now) c.args.routes.now c.loop-index.index c.index-routes-index.result
    (slice_get_read c.args.routes.now (length c.args.routes.now) c.loop-index.index c.index-routes-index.result refl c.loop-index-test.true c.index-routes-index.is)
    c.loop-index.invariant (sym c.leads.ensures ∙ c.if-leads.true))
