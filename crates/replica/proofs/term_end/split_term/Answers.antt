-- By the first space outside quotes.
use Rattle.std.proofs.Common.{◌∙◌, ap}
use Rattle.replica.specs.{declared.term_end.TermState.TheVariants.Outside, TermEnd.split_term}
use Rattle.replica.proofs.TermEnds.{slices_are, slices_join, term_ends}
use Rattle.replica.proofs.term_end.split_term.Goals as goal

pub returns-clause-parts : goal.returns-clause-parts
returns-clause-parts c = slices_join c.split_first.result c.args.bytes.now c.split_first.ensures

pub returns-clause-term : goal.returns-clause-term
returns-clause-term c = λ term rest fit is.
    slices_are c.split_first.result _ rest (c.split_first.ensures ∙ ap (split_term Outside) is ∙ term_ends term rest fit)
