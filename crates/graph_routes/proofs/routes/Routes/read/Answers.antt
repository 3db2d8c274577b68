-- The routes that are computed are those whose text it is.
use Rattle.std.proofs.Common.{◌≡◌, List, Option, Some, None, sym, ◌∙◌, subst}
use Rattle.std.specs.Prelude.{◌↔◌}
use Rattle.graph_routes.specs.declared.routes.Route.{Route}
use Rattle.graph_routes.specs.Reading.{routes_in}
use Rattle.graph_routes.specs.Routes.{AreRoutesIn}
use Rattle.graph_routes.proofs.Parsed.{routes_are}
use Rattle.graph_routes.proofs.routes.Routes.read.Goals as goal

pub invariant_of-result : goal.invariant_of-result
invariant_of-result c =
    let is : routes_in c.args.text.now ≡ Some c.in-Some.routes = sym c.in_ok-routes.ensures ∙ c.in-Some.is in
    ((routes_are c.args.text.now c.in-Some.routes).0 is).routes_are

pub returns-in-Some : goal.returns-in-Some
returns-in-Some c =
    let is : routes_in c.args.text.now ≡ Some c.in-Some.routes = sym c.in_ok-routes.ensures ∙ c.in-Some.is in
    λ routes. subst (λ (o : Option (List Route)). (o ≡ Some routes) ↔ AreRoutesIn c.args.text.now routes) is (routes_are c.args.text.now routes)

pub returns-in-None : goal.returns-in-None
returns-in-None c =
    let is : routes_in c.args.text.now ≡ None = sym c.in_ok-routes.ensures ∙ c.in-None.is in
    λ routes. subst (λ (o : Option (List Route)). (o ≡ Some routes) ↔ AreRoutesIn c.args.text.now routes) is (routes_are c.args.text.now routes)
