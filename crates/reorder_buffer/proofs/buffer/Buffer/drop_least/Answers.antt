-- The first waiting event is the first due one.
use Rattle.reorder_buffer.proofs.Due.{dropped}
use Rattle.reorder_buffer.proofs.buffer.Buffer.drop_least.Goals as goal

pub returns : goal.returns
returns c =
    let first = c.pop_first.ensures in
    let due = rw (← c.self.view_is) at c.requires in
    let waiting = dropped c.self.inside.closed c.self.inside.mark c.pop_first.result c.self.inside.waiting.keys c.pop_first.new.self.keys first.variant.1 first.removal first.all_above due in
    rw (← c.self.view_is) (λ i. record { kept = c.self.inside.kept.keys; waiting = waiting i; mark = c.self.inside.mark; horizon = c.self.inside.horizon; closed = c.self.inside.closed })
