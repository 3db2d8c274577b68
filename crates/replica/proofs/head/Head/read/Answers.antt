-- A line that isn't UTF-8 is no head's.
use Rattle.replica.proofs.Heads.{head_utf8}
use Rattle.replica.proofs.head.Head.read.Goals as goal

pub returns-in_default : goal.returns-in_default
returns-in_default c = λ head. (
  (λ none. cc),
  (λ is. absurd (c.in_default.ensures.cases.0 (head_utf8 c.args.line.now head is))),
)
