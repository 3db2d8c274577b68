-- The play of a first run is that of its deliveries from nothing.
use Rattle.memory_run.proofs.Printed.{first_printed, told_run}
use Rattle.memory_run.proofs.laws.first_runs_print_what_is_there.Goals as goal

pub returns : goal.returns
returns c = λ lent printed kept x plan is run is_run none.
    first_printed c.runs_without_failures_are_functions.ensures.output lent run (told_run plan lent.pages run is_run) x.before x.now x.begun x.unfailed_before x.unfailed printed kept x.left
    ((x.ended.replay plan is run is_run).begun none).outcome
