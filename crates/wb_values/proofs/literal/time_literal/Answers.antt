use Rattle.std.proofs.Common.{rules}
use Rattle.wb_values.proofs.LiteralLemmas.{only_literal}
use Rattle.wb_values.proofs.literal.time_literal.Goals as goal

pub returns-in_ok-date_time-in-Some-clause-rules :
    goal.returns-in_ok-date_time-in-Some-clause-rules
returns-in_ok-date_time-in-Some-clause-rules c = only_literal _ _ _ _ (search rules)

pub returns-in-None-clause-rules : goal.returns-in-None-clause-rules
returns-in-None-clause-rules c = only_literal _ _ _ _ (search rules)
