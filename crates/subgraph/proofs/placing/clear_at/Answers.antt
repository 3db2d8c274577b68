-- One graph of the list has the set no longer.
use Rattle.std.proofs.Common.{◌≡◌, Some, length, slice_get, refl}
use Rattle.std.proofs.lemmas.Option.{slice_get_read}
use Rattle.subgraph.proofs.Placed.{clear_one}
use Rattle.subgraph.proofs.placing.clear_at.Goals as goal

pub returns : goal.returns
returns c =
    let at : slice_get c.args.graphs.now.items c.args.graph ≡ Some c.index_mut.result.now = slice_get_read c.args.graphs.now.items (length c.args.graphs.now.items) c.args.graph c.index_mut.result.now refl c.requires c.index_mut.ensures.value in
    clear_one c.args.graphs.now.items c.args.graph c.index_mut.result.now c.clear.new.self c.args.id c.requires at c.clear.ensures
