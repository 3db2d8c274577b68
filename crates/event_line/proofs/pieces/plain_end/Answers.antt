use Rattle.event_line.proofs.PlainLines.{plain_place}
use Rattle.event_line.proofs.pieces.plain_end.Goals as goal

pub returns : goal.returns
returns c = rw c.first_unplain.ensures (plain_place c.args.bytes.now)
