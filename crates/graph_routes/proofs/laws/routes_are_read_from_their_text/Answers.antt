-- The lemma says it.
use Rattle.graph_routes.proofs.Parsed.{routes_are}
use Rattle.graph_routes.proofs.laws.routes_are_read_from_their_text.Goals as goal

pub returns : goal.returns
returns c = routes_are
