-- A fit term whose text isn't too long.
use Rattle.std.proofs.Common.{arith}
use Rattle.replica.proofs.PlainTerms.{short_fits}
use Rattle.replica.proofs.triple_line.short_term.Goals as goal

pub returns-else-bytes-gt-LONGEST_TERM : goal.returns-else-bytes-gt-LONGEST_TERM
returns-else-bytes-gt-LONGEST_TERM c = short_fits c.args.bytes.now c.plain_term.result (omega arith) c.plain_term.ensures
