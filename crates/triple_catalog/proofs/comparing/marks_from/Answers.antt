-- The lanes that aren't equal.
use Rattle.std.proofs.Common.{not, arith, ◌==◌}
use Rattle.std.proofs.slice.Marked.{compared, loaded}
use Rattle.triple_catalog.proofs.comparing.marks_from.Goals as goal

pub returns : goal.returns
returns c =
    let from = c.args.from in
    compared (λ x y. not (x == y)) (omega arith) (loaded c.args.a.now from 16 c.requires.first) (loaded c.args.b.now from 16 c.requires.second)
