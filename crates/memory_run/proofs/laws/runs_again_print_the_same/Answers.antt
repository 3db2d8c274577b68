-- Both print the same function of the same.
use Rattle.memory_run.proofs.Again.{printed_again}
use Rattle.memory_run.proofs.laws.runs_again_print_the_same.Goals as goal

pub returns : goal.returns
returns c = λ lent printed again kept kept_again few one two. printed_again c.reruns_are_the_same.ensures.output lent printed again kept kept_again few one two
