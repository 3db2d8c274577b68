-- The answers of graphs that follow the world are those of what is routed to them; without graphs the answer is the world's.
use Rattle.session.proofs.context.Context.print.Goals as goal

pub returns-in-Some : goal.returns-in-Some
returns-in-Some g c = rw (← c.replay.view_is, c.in-Some.is) (c.print_answers.ensures.prints c.replay.inside.world (rw c.in-Some.is at c.replay.invariant.0))

pub returns-in-None : goal.returns-in-None
returns-in-None g c = rw (← c.replay.view_is, c.in-None.is) c.print_answer.ensures
