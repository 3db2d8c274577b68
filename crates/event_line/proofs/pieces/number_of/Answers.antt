-- The text of a number begins with 1 to 9, and then `parse` reads the number that is written so.
use Rattle.std.proofs.Common.{arith}
use Rattle.digits.proofs.Decimals.{number_read}
use Rattle.event_line.proofs.pieces.number_of.Goals as goal

pub returns-in-Ok-clause-text : goal.returns-in-Ok-clause-text
returns-in-Ok-clause-text c =
    let first = c.starts_above_zero.ensures.0 c.if-not-starts_above_zero.false in
    let read = number_read 64 c.args.text.now c.parse.result (omega arith) c.parse.ensures.value.0 first.0 in
    (rw c.in-Ok.is at read).1
