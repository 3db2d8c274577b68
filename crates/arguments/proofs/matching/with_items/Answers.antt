-- The argument of a row comes to the command.
use Rattle.std.proofs.Common.{arith}
use Rattle.std.proofs.lemmas.Grind.{common_steps}
use Rattle.arguments.proofs.matching.with_items.Goals as goal

pub loop-table-preserved : goal.loop-table-preserved
loop-table-preserved c = grind (arith, common_steps)
