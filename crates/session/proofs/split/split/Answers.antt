-- Where memory is refused before the first line, the world is that at the start, or as it was.
use Rattle.std.proofs.Common.{Some, inr}
use Rattle.run_model.specs.{declared.report.Report.TheVariants.Answers, Moment.limit_of, Moment.run_of}
use Rattle.session.proofs.Limited.{kept_limit}
use Rattle.session.proofs.Starved.{starved_run}
use Rattle.session.proofs.split.split.Goals as goal

pub returns-in-Err-clause-ending : goal.returns-in-Err-clause-ending
returns-in-Err-clause-ending g c = λ routes are.
    starved_run g.S.Source g.R.Revisions g.K.Sink g.F.Snapshots c.args.ports.now c.args.world c.prepared.result (run_of (Some routes) Answers (g.R.Revisions.contents c.args.ports.now.revisions) c.args.options.now.replay)
    (rw c.replay-asked.ensures at c.prepared.ensures.begun) (rw c.replay-asked.ensures at c.prepared.ensures.resumed)

pub returns-in-Err-clause-limit : goal.returns-in-Err-clause-limit
returns-in-Err-clause-limit g c = inr (kept_limit (limit_of c.args.options.now.replay) _ (rw c.replay-asked.ensures at c.prepared.ensures.terms) c.prepared.ensures.held (rw c.replay-asked.ensures at c.prepared.ensures.whole))
