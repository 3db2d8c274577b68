use Rattle.std.proofs.Common.{rules, arith}
use Rattle.std.proofs.lemmas.Grind.{common_steps}
use Rattle.wb_values.proofs.DecimalLemmas.{is_decimal-is}
use Rattle.wb_values.proofs.decimal.is_decimal.Goals as goal

pub returns-in-43-clause-grammar : goal.returns-in-43-clause-grammar
returns-in-43-clause-grammar c = is_decimal-is _ _ (first_of (search rules, grind (arith, common_steps)))

pub returns-in_default-clause-grammar : goal.returns-in_default-clause-grammar
returns-in_default-clause-grammar c = is_decimal-is _ _ (first_of (search rules, grind (arith, common_steps)))
