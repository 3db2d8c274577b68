use Rattle.std.proofs.Common.{length, arith}
use Rattle.event_line.proofs.TimeLemmas.{scaled}
use Rattle.event_line.proofs.time.millionths.Goals as goal

pub overflow_mul-result : goal.overflow_mul-result
overflow_mul-result c = omega (arith, scaled _ (length c.args.digits.now) _ c.decimal_value-number.ensures.places c.requires.short c.pow.ensures)

pub returns-clause-bound : goal.returns-clause-bound
returns-clause-bound c = scaled _ (length c.args.digits.now) _ c.decimal_value-number.ensures.places c.requires.short c.pow.ensures
