-- The texts between the spaces are those of the line's triple.
use Rattle.replica.proofs.TripleLines.{texts_if}
use Rattle.replica.proofs.triple_line.line_texts.Goals as goal

pub returns-clause-some : goal.returns-clause-some
returns-clause-some c = texts_if c.args.line.now c.split_line.result c.split_line.ensures.parts c.split_line.ensures.whole
