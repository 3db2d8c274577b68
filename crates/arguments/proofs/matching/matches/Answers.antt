-- The command is simple, so its matches are known, and it refuses these words for want of memory alone.
use Rattle.arguments.proofs.Commands.{items_by, taken_by, values_by}
use Rattle.arguments.proofs.matching.matches.Goals as goal

pub returns-in-Ok-clause-items : goal.returns-in-Ok-clause-items
returns-in-Ok-clause-items c = λ are. items_by c.args.command _ are _ c.in_ok-clap_command.ensures c.in-Ok.matches c.in-Ok.ensures.matches

pub returns-in-Ok-clause-values : goal.returns-in-Ok-clause-values
returns-in-Ok-clause-values c = values_by c.args.command _ c.requires _ c.in_ok-clap_command.ensures c.in-Ok.matches c.in-Ok.ensures.matches

pub memory_refused-requires : goal.memory_refused-requires
memory_refused-requires c = c.in-Err.ensures.passes (taken_by c.args.command _ c.requires _ c.in_ok-clap_command.ensures)
