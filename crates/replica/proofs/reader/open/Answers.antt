-- A head is read, and no triple yet.
use Rattle.std.proofs.Common.{refl}
use Rattle.replica.proofs.Records.{opened_part}
use Rattle.replica.proofs.reader.open.Goals as goal

pub returns-in-Ok-Some-clause-ok : goal.returns-in-Ok-Some-clause-ok
returns-in-Ok-Some-clause-ok c =
    let read = rw c.in-Ok-Some.field-0-is at c.in-Ok-Some.ensures in
    let is = (read c.in-Ok-Some.head).0 refl in
    rw (c.new.ensures, c.new-in-Ok-Some.ensures) ((is, refl), opened_part c.args.line.now c.in-Ok-Some.head is)
