-- Line by line.
use Rattle.written_laws.proofs.{Loadable.is_snapshot, LoadedRoom.full_only}
use Rattle.written_laws.proofs.saves.no_line_of_a_saved_world_is_refused.Goals as goal

pub returns-clause-lines : goal.returns-clause-lines
returns-clause-lines c w counts n is = is_snapshot w counts is n

pub returns-clause-room : goal.returns-clause-room
returns-clause-room c w counts room is = full_only w counts is room
