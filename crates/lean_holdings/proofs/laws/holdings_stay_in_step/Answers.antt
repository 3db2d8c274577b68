-- The laws of pages and counts, with the keys, the pieces and the names.
use Rattle.lean_holdings.proofs.{Going.goes_counted, Going.goes_in, GoingOut.goes_out}
use Rattle.lean_holdings.proofs.laws.holdings_stay_in_step.Goals as goal

pub returns-clause-counted_in : goal.returns-clause-counted_in
returns-clause-counted_in c = goes_counted

pub returns-clause-counted_out : goal.returns-clause-counted_out
returns-clause-counted_out c = goes_out

pub returns-clause-put_in : goal.returns-clause-put_in
returns-clause-put_in c = goes_in
