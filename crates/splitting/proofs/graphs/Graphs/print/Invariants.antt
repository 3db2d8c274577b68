-- The sections of the graphs so far were printed.
use Rattle.std.proofs.Common.{Ok}
use Rattle.text_output.specs.Printing.{Prints, output}
use Rattle.subgraph.specs.Sections.{texts_below}
use Rattle.splitting.proofs.Printed.{section_in}
use Rattle.splitting.proofs.graphs.Graphs.print.Given as goal

abbrev pub invariant-loop-graph : goal.invariant-loop-graph
invariant-loop-graph g l = Prints (texts_below l.graph (section_in l.self-inside.routes l.split.entries)) (output g.K.Sink l.fn.out) (output g.K.Sink l.out) (Ok tt)
