-- A term without quotes ends at the first space.
use Rattle.replica.proofs.PlainTerms.{ends_unquoted}
use Rattle.replica.proofs.term_end.split_first.Goals as goal

pub returns-in-Some : goal.returns-in-Some
returns-in-Some c =
    let e = c.in-Some.ensures in
    ends_unquoted c.args.bytes.now c.in-Some.parts.0.now c.in-Some.parts.1.now e.0 e.1
