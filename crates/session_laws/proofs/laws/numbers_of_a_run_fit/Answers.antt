-- There are no more deliveries than bytes.
use Rattle.session_laws.proofs.Followed.{numbers_in_run}
use Rattle.session_laws.proofs.laws.numbers_of_a_run_fit.Goals as goal

pub returns : goal.returns
returns c = λ run start end first ended bytes item known bounded there. numbers_in_run run start end first ended bytes known bounded item there
