-- The split at the first space.
use Rattle.std.proofs.Common.{arith}
use Rattle.std.proofs.lemmas.Str.Pattern.{split_after}
use Rattle.replica.proofs.head.first_word.Goals as goal

pub returns-in_err-word : goal.returns-in_err-word
returns-in_err-word c = λ word rest no_space is.
    absurd (rw c.in_err-word.was at (split_after 32 c.args.text.now word rest c.split_once.result c.split_once.ensures.cases (omega arith) is no_space))

pub returns : goal.returns
returns c = λ word rest no_space is.
    rw c.in_ok-word.was at (split_after 32 c.args.text.now word rest c.split_once.result c.split_once.ensures.cases (omega arith) is no_space)
