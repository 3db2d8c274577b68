-- How the value of graphs is stored, so that contracts can tell them apart.
use Rattle.std.specs.Prelude.{ℕ, List, Option, refl}
use Rattle.std.specs.Coded.{Coded, code_by, coded×, coded_list, coded_option, coded_ℕ}
use Rattle.std.specs.FinMap as map
use Rattle.entity_model.specs.contracts.id.EntityId as entity_id
use Rattle.subgraph.specs.{Codes.entry_code, Entries.Entries}
use Rattle.graph_routes.specs.contracts.routes.Route as route
use Rattle.graph_routes.specs.declared.routes.Route.{Route}
use Rattle.splitting.specs.Graphs.{GraphsState}

abbrev pub graphs_code : Coded GraphsState
graphs_code =
    code_by (List Route × (ℕ × Option Entries)) (coded× (coded_list (route.the_row).coded) (coded× coded_ℕ (coded_option (map.code (entity_id.the_row).coded entry_code))))
    (λ g. (g.routes, (g.limit, g.entries))) (λ c. record { routes = c.0; limit = c.1.0; entries = c.1.1 }) (λ _. refl)
