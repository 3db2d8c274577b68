use Rattle.std.proofs.Common.{◌≡◌, ◌<◌, ◌^◌, take}
use Rattle.digits.specs.Number.{decimal_value}
use Rattle.digits.proofs.number.decimal_value.Given as goal

abbrev pub invariant-loop-digit : goal.invariant-loop-digit
invariant-loop-digit l = record {
  value_is : l.value ≡ decimal_value (take l.digit-index l.digits);
  bounded : l.value < 10 ^ l.digit-index;
}
