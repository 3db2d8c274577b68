-- The bytes give back one world with one set of counts.
use Rattle.session_laws.proofs.GoesOn.{begins_there}
use Rattle.session_laws.proofs.laws.resumed_runs_begin_where_others_stood.Goals as goal

pub returns : goal.returns
returns c = begins_there
