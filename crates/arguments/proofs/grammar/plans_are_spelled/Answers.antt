-- Both ways.
use Rattle.arguments.proofs.Spelling.{planned, plan_spelled}
use Rattle.arguments.proofs.grammar.plans_are_spelled.Goals as goal

pub returns : goal.returns
returns c = λ words plan. (plan_spelled words plan, planned words plan)
