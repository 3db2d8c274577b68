-- One section more, and where one isn't begun or isn't ended.
use Rattle.std.proofs.Common.{◌≡◌, ◌+◌, ◌≤◌, suc, length, subst, Ok, arith}
use Rattle.std.proofs.lemmas.Result.{err_from_is_err_and}
use Rattle.text_output.specs.Printing.{Prints, output}
use Rattle.text_output.proofs.Parts.{prints_nothing}
use Rattle.subgraph.specs.Sections.{texts_below}
use Rattle.splitting.proofs.Pieces.{below_cut_short, below_not_begun, below_printed}
use Rattle.splitting.proofs.Printed.{section_in, sections_printed}
use Rattle.splitting.proofs.graphs.Graphs.print.Goals as goal

pub loop-graph-init : goal.loop-graph-init
loop-graph-init g c = prints_nothing _

pub returns-in_err-rows-clause-prints : goal.returns-in_err-rows-clause-prints
returns-in_err-rows-clause-prints g c =
    let p = err_from_is_err_and c.from_residual.result c.from_residual.ensures.1 in
    let few : c.loop-graph.graph ≤ suc (length c.self.inside.routes) = omega (arith, c.graphs-graph-end.ensures.count, c.loop-graph-test.true) in
    rw (← c.self.view_is, c.in-Some.is, p.1, p.2) (λ world follows.
    sections_printed c.self.inside.routes c.in-Some.split.entries c.self.inside.limit world follows _ _ _
    (below_not_begun (section_in c.self.inside.routes c.in-Some.split.entries) c.loop-graph.graph (suc (length c.self.inside.routes)) _ _ few c.loop-graph.invariant))

pub returns-in_err-print_graph-clause-prints : goal.returns-in_err-print_graph-clause-prints
returns-in_err-print_graph-clause-prints g c =
    let p = err_from_is_err_and c.from_residual-in_err-print_graph.result c.from_residual-in_err-print_graph.ensures.1 in
    let few : c.loop-graph.graph + 1 ≤ suc (length c.self.inside.routes) = omega (arith, c.graphs-graph-end.ensures.count, c.loop-graph-test.true) in
    let prints = rw (c.name.ensures, c.in_ok-rows.ensures) at c.in_err-print_graph.ensures in
    rw (← c.self.view_is, c.in-Some.is, p.1, p.2) (λ world follows.
    sections_printed c.self.inside.routes c.in-Some.split.entries c.self.inside.limit world follows _ _ _
    (below_cut_short (section_in c.self.inside.routes c.in-Some.split.entries) _ c.loop-graph.graph (suc (length c.self.inside.routes)) _ _ _ few c.loop-graph.invariant prints))

pub loop-graph-preserved : goal.loop-graph-preserved
loop-graph-preserved g c =
    let prints = rw (c.name.ensures, c.in_ok-rows.ensures) at c.in_ok-print_graph.ensures in
    below_printed (section_in c.self.inside.routes c.in-Some.split.entries) c.loop-graph.graph _ _ _ c.loop-graph.invariant prints

pub returns-clause-prints : goal.returns-clause-prints
returns-clause-prints g c =
    let all : c.loop-graph.graph ≡ suc (length c.self.inside.routes) = omega (arith, c.graphs-graph-end.ensures.count, c.loop-graph-test.false, c.loop-graph.auto.graph-end) in
    rw (← c.self.view_is, c.in-Some.is) (λ world follows.
    sections_printed c.self.inside.routes c.in-Some.split.entries c.self.inside.limit world follows _ _ _
    (subst (λ n. Prints (texts_below n (section_in c.self.inside.routes c.in-Some.split.entries)) (output g.K.Sink c.args.out.now) (output g.K.Sink c.loop-graph.out) (Ok tt)) all c.loop-graph.invariant))

pub returns-in_err-rows-clause-lost : goal.returns-in_err-rows-clause-lost
returns-in_err-rows-clause-lost g c = rw (← c.self.view_is, c.in-Some.is) tt

pub returns-in_err-print_graph-clause-lost : goal.returns-in_err-print_graph-clause-lost
returns-in_err-print_graph-clause-lost g c = rw (← c.self.view_is, c.in-Some.is) tt

pub returns-clause-lost : goal.returns-clause-lost
returns-clause-lost g c = rw (← c.self.view_is, c.in-Some.is) tt
