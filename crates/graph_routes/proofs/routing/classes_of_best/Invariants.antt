-- The classes are those of the statements so far.
use Rattle.std.proofs.Common.{◌≡◌, take}
use Rattle.std.specs.List.{flat_map}
use Rattle.std.specs.Option.{option_to_list}
use Rattle.statement_facts.specs.Ranking.{is_best}
use Rattle.graph_routes.specs.Routing.{class_if}
use Rattle.graph_routes.proofs.routing.classes_of_best.Given as goal

abbrev pub invariant-loop-index : goal.invariant-loop-index
invariant-loop-index l = l.classes ≡ flat_map (λ s. option_to_list (class_if (is_best l.statements s) s)) (take l.index l.statements)
