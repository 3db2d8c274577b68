-- The text of a number begins with 1 to 9, and then `parse` reads the number that is written so.
use Rattle.std.proofs.Common.{◌≡◌, true, arith, sym, ap, ◌∙◌}
use Rattle.std.specs.Result.{result_ok}
use Rattle.std.proofs.lemmas.Fmt.{parse-decimal}
use Rattle.std.proofs.lemmas.Option.{IfSome_then}
use Rattle.digits.proofs.Decimals.{first_digit, number_read}
use Rattle.arguments.proofs.numbers.positive_number.Goals as goal

pub returns-then-starts_above_zero-clause-sound : goal.returns-then-starts_above_zero-clause-sound
returns-then-starts_above_zero-clause-sound c =
    let first = c.starts_above_zero.ensures.0 c.if-starts_above_zero.true in
    rw c.ok.ensures.value (IfSome_then (result_ok c.parse.result) (number_read 64 c.args.digits.now c.parse.result (omega arith) c.parse.ensures.value.0 first.0) (λ n h. h.1))

pub returns-then-starts_above_zero-clause-complete : goal.returns-then-starts_above_zero-clause-complete
returns-then-starts_above_zero-clause-complete c = λ n low high is.
    c.ok.ensures.value ∙ ap result_ok (parse-decimal 64 n c.args.digits.now _ (omega arith) (omega arith) (sym is) c.parse.ensures.value.0)

pub returns-else-starts_above_zero-clause-complete : goal.returns-else-starts_above_zero-clause-complete
returns-else-starts_above_zero-clause-complete c = λ n low high is.
    let first = first_digit n c.args.digits.now low high is in
    let starts : c.starts_above_zero.result ≡ true = c.starts_above_zero.ensures.1 (first.0, first.1) in
    cc (starts, c.if-starts_above_zero.false)
