-- The lemma says it.
use Rattle.subgraph.proofs.Routed.{need_no_more_room}
use Rattle.subgraph.proofs.laws.graphs_need_no_more_room.Goals as goal

pub returns : goal.returns
returns c = need_no_more_room
