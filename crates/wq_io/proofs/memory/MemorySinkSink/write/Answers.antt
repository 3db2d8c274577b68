-- A refusal of memory is no failed call.
use Rattle.std.proofs.Common.{◌≡◌}
use Rattle.wq_io.specs.declared.sink.NoWrite.TheVariants.{OutOfMemory}
use Rattle.wq_io.proofs.Refusals.{holds_where_refused}
use Rattle.wq_io.proofs.memory.MemorySinkSink.write.Goals as goal

pub returns-clause-refused : goal.returns-clause-refused
returns-clause-refused c =
    rw (← c.self.view_is) (holds_where_refused (λ e. e ≡ OutOfMemory) _ c.if-next_fails.ensures.still)
