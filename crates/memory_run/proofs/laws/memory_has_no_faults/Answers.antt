-- A counter of failed calls that is 0 didn't rise.
use Rattle.memory_run.proofs.Faultless.{no_read_fails, no_write_fails}
use Rattle.memory_run.proofs.laws.memory_has_no_faults.Goals as goal

pub returns-clause-reads : goal.returns-clause-reads
returns-clause-reads c = no_read_fails

pub returns-clause-writes : goal.returns-clause-writes
returns-clause-writes c = no_write_fails
