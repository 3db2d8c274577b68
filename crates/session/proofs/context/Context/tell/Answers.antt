-- Where no step changed what is stored before this one, what is told of it says whether it did.
use Rattle.std.proofs.Common.{refl, sym, ap, ◌∙◌, ◌||◌}
use Rattle.run_model.specs.Moment.{reported_as}
use Rattle.run_model.proofs.Reports.{told_change}
use Rattle.session.proofs.context.Context.tell.Goals as goal

pub returns-else-reported-clause-tells : goal.returns-else-reported-clause-tells
returns-else-reported-clause-tells g c = rw c.in-Answers.is (λ before after tells. (
  ap (reported_as c.args.reported.number) (ap (λ b. b || c.changes_something-differs.result) (sym c.if-reported.false)
      ∙ told_change c.args.reported before after c.args.change c.changes_something-differs.result c.changes_something-differs.ensures tells),
  refl,
))
