-- Both write the stream of all their lines.
use Rattle.run_model.specs.Moment.{start_of}
use Rattle.session_laws.proofs.Onward.{head_counts, written_again}
use Rattle.session_laws.proofs.kept.killed_runs_wrote_what_is_written_again.Goals as goal

pub returns-clause-again : goal.returns-clause-again
returns-clause-again c = λ h earlier ds run later before now again done stands runs contents bytes told stopped outcome no_page one two old written unwritten there empty onward.
    written_again run later before now again done runs (c.kept_snapshots_stand_behind_their_lines.ensures.read_back h earlier ds run (start_of run before) stands runs.taken runs.text runs.kept runs.fit) contents bytes told one two stopped outcome no_page old written unwritten there empty onward

pub returns-clause-counted : goal.returns-clause-counted
returns-clause-counted c = λ run before taken text kept contents known unfailed one old told short short_there. head_counts run before taken text kept contents known unfailed one old told short short_there
