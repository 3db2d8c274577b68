use Rattle.std.proofs.Common.{arith}
use Rattle.replica.proofs.PlainTerms.{plain_fits}
use Rattle.replica.proofs.plain_term.literal_term.Goals as goal

pub returns-in-empty : goal.returns-in-empty
returns-in-empty c =
    let e = c.in_ok-parts.ensures in
    plain_fits c.args.rest.now c.in_ok-parts.parts.content.now c.in_ok-parts.parts.suffix.now e.0 (omega (arith, c.in-empty.len_below)) e.1 e.2
