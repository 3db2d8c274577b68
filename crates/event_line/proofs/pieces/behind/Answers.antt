use Rattle.std.proofs.Common.{sym, ◌∙◌}
use Rattle.event_line.proofs.PlainLines.{begins, some_then}
use Rattle.event_line.proofs.pieces.behind.Goals as goal

pub returns : goal.returns
returns c = some_then _ c.strip.result c.strip.ensures (λ rest is. begins c.args.front.now c.args.bytes.now rest.now (sym c.past_spaces.ensures ∙ is))
