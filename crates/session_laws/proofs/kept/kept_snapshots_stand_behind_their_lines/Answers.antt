-- By the laws of the format.
use Rattle.std.proofs.Common.{◌≡◌, ◌+◌, refl, length, List}
use Rattle.delivery.specs.declared.Delivery.{Delivery}
use Rattle.replay_model.specs.Play.{Replies}
use Rattle.run_model.specs.{Moment.Beginning, Moment.numbers_of, declared.report.Report.Report}
use Rattle.run_model.specs.declared.report.Report.TheVariants.{Answers, Changes}
use Rattle.patch_stream.specs.Stream.{Step}
use Rattle.session_laws.proofs.Archived.{snapshot_read, snapshot_stands}
use Rattle.session_laws.proofs.kept.kept_snapshots_stand_behind_their_lines.Goals as goal

lines_are : (report : Report) (steps : Replies → List Step) (ds : List Delivery) (start : Beginning) (replies : Replies) → (numbers_of report steps ds start replies).lines ≡ start.numbered.lines + length ds
lines_are Answers steps ds start replies = refl
lines_are Changes steps ds start replies = refl

pub returns-clause-stands : goal.returns-clause-stands
returns-clause-stands c = λ h earlier ds run start stands taken text is. snapshot_stands h earlier ds run start stands taken text is

pub returns-clause-read_back : goal.returns-clause-read_back
returns-clause-read_back c = λ h earlier ds run start stands taken text is fit.
    snapshot_read h earlier ds run start stands taken text is c.replays_can_be_saved.ensures.at_rest c.snapshots_read_back.ensures.bytes fit

pub returns-clause-lines : goal.returns-clause-lines
returns-clause-lines c = λ run start taken text is. lines_are run.environment.report _ taken start is.played.replies
