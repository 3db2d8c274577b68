-- What is sound and complete is the number that the text is, where it lies in the range.
use Rattle.std.proofs.Common.{◌∙◌, arith}
use Rattle.arguments.proofs.Written.{between-value}
use Rattle.arguments.proofs.numbers.read_number.Goals as goal

pub returns-clause-value : goal.returns-clause-value
returns-clause-value c =
    c.between.ensures.value
    ∙ between-value c.args.least c.args.greatest c.args.digits.now (omega arith) c.written_number.result c.written_number.ensures.sound c.written_number.ensures.complete
