-- Rows that are the same have one object.
use Rattle.page_parts.proofs.Sought.{same_rows}
use Rattle.page_parts.proofs.marking.may_be_row.Goals as goal

pub returns-then-one-other : goal.returns-then-one-other
returns-then-one-other c same = c.may_be.ensures (same_rows c.args.one.now c.args.other.now same).1
