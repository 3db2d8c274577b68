use Rattle.replica.proofs.PlainTerms.{iri_fits}
use Rattle.replica.proofs.plain_term.iri_term.Goals as goal

pub returns : goal.returns
returns c =
    let e = c.in_ok-iri.ensures in
    iri_fits c.args.rest.now c.in_ok-iri.iri.now e.0 e.1 e.2
