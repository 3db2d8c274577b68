-- The kind is that in the rows that are left.
use Rattle.std.proofs.Common.{◌≡◌, length, map}
use Rattle.arguments.specs.Table.{entry, kind_in}
use Rattle.arguments.proofs.table.kind_in.Given as goal

abbrev pub invariant-loop-table : goal.invariant-loop-table
invariant-loop-table l = kind_in (map (λ row. entry row.0.now row.2) l.table) l.name ≡ kind_in (map (λ row. entry row.0.now row.2) l.initial.table) l.name

abbrev pub decreases-loop-table : goal.decreases-loop-table
decreases-loop-table l = length l.table
