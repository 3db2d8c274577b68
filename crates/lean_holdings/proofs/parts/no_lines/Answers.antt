-- Nothing is written.
use Rattle.std.proofs.Common.{refl}
use Rattle.lean_holdings.proofs.parts.no_lines.Goals as goal

pub returns : goal.returns
returns c = record { count = refl; text = c.new.ensures.items }
