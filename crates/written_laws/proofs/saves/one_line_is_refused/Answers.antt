-- Two lines that are refused.
use Rattle.written_laws.proofs.OneRefusal.{one_number}
use Rattle.written_laws.proofs.saves.one_line_is_refused.Goals as goal

pub returns : goal.returns
returns c = one_number
