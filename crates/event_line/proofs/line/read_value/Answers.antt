-- A line that is read is UTF-8, and so the value of the line is what is read.
use Rattle.std.proofs.Common.{refl, inr}
use Rattle.std.proofs.lemmas.Bool.{false≢true}
use Rattle.event_line.proofs.Reading.{data_of-read, data_of-unread}
use Rattle.event_line.proofs.line.read_value.Goals as goal

pub returns-in-Ok : goal.returns-in-Ok
returns-in-Ok c = data_of-read _ _ c.in-Ok.ensures.ok.0 c.in-Ok.ensures.ok.1

pub returns-else-is_memory : goal.returns-else-is_memory
returns-else-is_memory c = inr (refl, data_of-unread _ (c.in-Err.ensures.err (λ memory. false≢true (c.if-is_memory.ensures.1 memory))))
