-- Graphs pass over a match: nothing is printed.
use Rattle.text_output.specs.Printing.{output}
use Rattle.text_output.proofs.Parts.{prints_nothing}
use Rattle.session.proofs.context.Context.print_rows.Goals as goal

pub returns-in-Some : goal.returns-in-Some
returns-in-Some g c = rw (← c.replay.view_is, c.in-Some.is) (prints_nothing (output g.K.Sink c.args.out.now))

pub returns-in-None : goal.returns-in-None
returns-in-None g c = rw (← c.replay.view_is, c.in-None.is) c.print_match.ensures
