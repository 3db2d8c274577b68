-- What graphs that follow the world have is what is routed to them; without graphs the sections are printed.
use Rattle.std.proofs.Common.{None, subst}
use Rattle.replay_model.specs.{Transcript.Sections, Versions.meaning_by}
use Rattle.text_output.specs.Printing.{Prints, output}
use Rattle.fetched_pages.specs.Meaning.{meaning}
use Rattle.run_model.specs.Course.{closing_held}
use Rattle.session.proofs.replaying.print_end.Goals as goal

pub returns-in-Some : goal.returns-in-Some
returns-in-Some g c = rw (← c.replay.view_is, c.in-Some.is) (c.print.ensures.prints c.replay.inside.world (rw c.in-Some.is at c.replay.invariant.0))

pub returns-in-None : goal.returns-in-None
returns-in-None g c = rw (← c.replay.view_is, c.in-None.is)
    (subst (λ (s : Sections). Prints (closing_held None (meaning_by meaning c.replay.inside.world.by_two) s c.replay.inside.world.replay.played) (output g.K.Sink c.args.out.now) (output g.K.Sink c.print_closing.new.out) c.print_closing.result)
    c.sections.ensures c.print_closing.ensures)
