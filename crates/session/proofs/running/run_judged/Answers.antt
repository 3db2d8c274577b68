-- What the plan leaves that clap read, or what is left where memory was refused.
use Rattle.std.proofs.Common.{◌≡◌, Some}
use Rattle.session.specs.Plans.{PlanEnding}
use Rattle.session.proofs.{Plans.for_plan, Starved.starved}
use Rattle.session.proofs.running.run_judged.Goals as goal

pub returns-in_default : goal.returns-in_default
returns-in_default g c = λ plan is. starved g.S.Source g.R.Revisions g.K.Sink g.F.Snapshots c.args.ports.now c.args.world c.unbegun.result plan (c.unbegun.ensures plan is)

pub returns : goal.returns
returns g c = λ plan is. starved g.S.Source g.R.Revisions g.K.Sink g.F.Snapshots c.args.ports.now c.args.world c.unbegun-in-Err.result plan (c.unbegun-in-Err.ensures plan is)

pub returns-in-Ok-plan : goal.returns-in-Ok-plan
returns-in-Ok-plan g c = λ plan is.
    let read = c.in-Ok-plan.ensures.value in
    let items = c.items.view_is in
    let given = c.in-Ok.ensures in
    let same : Some c.in-Ok-plan.plan ≡ Some plan = cc in
    for_plan (λ x. PlanEnding g.S.Source g.R.Revisions g.K.Sink g.F.Snapshots x c.run_plan.result.0 c.args.ports.now c.run_plan.new.ports c.args.world c.run_plan.result.1) c.in-Ok-plan.plan plan same c.run_plan.ensures
