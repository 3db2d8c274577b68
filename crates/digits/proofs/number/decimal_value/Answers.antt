use Rattle.std.proofs.Common.{arith}
use Rattle.digits.proofs.Places.{few_places}
use Rattle.digits.proofs.number.decimal_value.Goals as goal

pub overflow_mul-value : goal.overflow_mul-value
overflow_mul-value c = omega (arith, few_places _ 18 _ c.loop-digit.invariant.bounded (omega (arith, c.requires.short)))

pub overflow_add-value : goal.overflow_add-value
overflow_add-value c = omega (arith, few_places _ 18 _ c.loop-digit.invariant.bounded (omega (arith, c.requires.short)))

pub returns-clause-bound : goal.returns-clause-bound
returns-clause-bound c = few_places _ 18 _ c.loop-digit.invariant.bounded (omega (arith, c.requires.short))
