-- Both are the same function of the same deliveries.
use Rattle.session_laws.proofs.Again.{same_bytes, same_counts, same_mapped, same_world}
use Rattle.session_laws.proofs.reruns.reruns_are_the_same.Goals as goal

pub returns-clause-world : goal.returns-clause-world
returns-clause-world c = λ run before now again done contents bytes place a one two. (
  same_world run before now again done one two bytes a.left a.left_again place contents a.known a.unfailed a.unfailed_again,
  same_mapped run before now again done one two bytes a.left a.left_again place contents a.known a.unfailed a.unfailed_again,
)

pub returns-clause-output : goal.returns-clause-output
returns-clause-output c = λ run before now again done contents bytes place a one two same. same_bytes run before now again done one two bytes a.left a.left_again place contents a.known a.unfailed a.unfailed_again same

pub returns-clause-counts : goal.returns-clause-counts
returns-clause-counts c = λ run before now again done contents bytes place a one two answers. same_counts run before now again done one two bytes a.left a.left_again place contents a.known a.unfailed a.unfailed_again answers
