use Rattle.replica.proofs.PlainTerms.{typed_fits}
use Rattle.replica.proofs.plain_term.typed_term.Goals as goal

pub returns : goal.returns
returns c =
    let e = c.in_ok-datatype.ensures in
    typed_fits c.args.content.now c.args.rest.now c.in_ok-datatype.datatype.now e.0 e.1 e.3 c.requires c.utf8.content e.2
