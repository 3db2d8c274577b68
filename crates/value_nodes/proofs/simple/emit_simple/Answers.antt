-- The amount of a quantity is handed on.
use Rattle.value_nodes.proofs.simple.emit_simple.Goals as goal

pub returns-in-Quantity-clause-gains : goal.returns-in-Quantity-clause-gains
returns-in-Quantity-clause-gains g c = rw c.in-Quantity.is (rw c.as_str-in-Quantity.ensures at c.emit_amount.ensures.gains)
