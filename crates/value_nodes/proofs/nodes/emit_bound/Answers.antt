-- Where the bound is there, its amount is handed on.
use Rattle.value_nodes.proofs.nodes.emit_bound.Goals as goal

pub returns-in-Some-clause-gains : goal.returns-in-Some-clause-gains
returns-in-Some-clause-gains g c = rw c.in-Some.is (rw (c.new.ensures, c.as_str.ensures) at c.emit_amount.ensures.gains)
