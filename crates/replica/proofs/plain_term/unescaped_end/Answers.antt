use Rattle.rdf_term.specs.Text.{is_escaped}
use Rattle.replica.proofs.PlainTerms.{first_place}
use Rattle.replica.proofs.plain_term.unescaped_end.Goals as goal

pub returns : goal.returns
returns c = rw c.first_escaped.ensures (first_place is_escaped c.args.bytes.now)
