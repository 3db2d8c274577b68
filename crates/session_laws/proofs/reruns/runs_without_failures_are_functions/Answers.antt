-- No other failed fetch is named.
use Rattle.session_laws.proofs.Again.{bytes_told, named_same, world_told}
use Rattle.session_laws.proofs.reruns.runs_without_failures_are_functions.Goals as goal

pub returns-clause-named : goal.returns-clause-named
returns-clause-named c = λ run before now ending unfailed. named_same run before now ending unfailed

pub returns-clause-world : goal.returns-clause-world
returns-clause-world c = λ run before now contents ending known unfailed. world_told run before now ending unfailed contents known

pub returns-clause-output : goal.returns-clause-output
returns-clause-output c = λ run before now contents ending known unfailed. bytes_told run before now ending unfailed contents known
