-- With the rows that are left, the command has an argument for each.
use Rattle.std.proofs.Common.{◌≡◌, length, map}
use Rattle.std.specs.Prelude.{fold}
use Rattle.clap.specs.Words.{app_of, with_rule}
use Rattle.arguments.specs.Matching.{rule_of_row}
use Rattle.arguments.proofs.matching.with_items.Given as goal

abbrev pub invariant-loop-table : goal.invariant-loop-table
invariant-loop-table l =
    fold with_rule (app_of l.command) (map (λ row. rule_of_row row.0.now row.1.now row.2) l.table)
    ≡ fold with_rule (app_of l.initial.command) (map (λ row. rule_of_row row.0.now row.1.now row.2) l.initial.table)

abbrev pub decreases-loop-table : goal.decreases-loop-table
decreases-loop-table l = length l.table
