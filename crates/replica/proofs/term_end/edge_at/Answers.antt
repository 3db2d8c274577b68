use Rattle.replica.specs.TermEnd.{is_edge}
use Rattle.replica.proofs.PlainTerms.{first_place}
use Rattle.replica.proofs.term_end.edge_at.Goals as goal

pub returns : goal.returns
returns c = rw c.first_edge.ensures (first_place is_edge c.args.bytes.now)
