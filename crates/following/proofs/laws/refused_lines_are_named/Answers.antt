-- The input is refused at one line alone, and isn't records.
use Rattle.following.proofs.Complete.{not_ended, refused_line}
use Rattle.following.proofs.laws.refused_lines_are_named.Goals as goal

pub returns : goal.returns
returns c = λ choices before now bytes cause number known within at reads. (
  (λ ending. not_ended choices before now bytes known within reads cause number at ending.items ending.followed.are),
  refused_line choices before now bytes known within reads cause number at,
)
