-- A number in decimal is parsed.
use Rattle.std.proofs.Common.{ap, ◌∙◌, arith}
use Rattle.std.specs.Result.{result_ok}
use Rattle.std.proofs.lemmas.Fmt.{parse-decimal}
use Rattle.replica.proofs.head.number.Goals as goal

pub returns : goal.returns
returns c = λ n small is. c.ok.ensures.value ∙ ap result_ok (parse-decimal 64 n c.args.digits.now _ small (omega arith) is c.parse.ensures.value.0)
