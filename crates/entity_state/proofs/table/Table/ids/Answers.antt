-- Sorted, the ids are those of the map by id.
use Rattle.std.proofs.Common.{◌∙◌}
use Rattle.entity_state.proofs.Records.{sorted_ids}
use Rattle.entity_state.proofs.table.Table.ids.Goals as goal

pub returns : goal.returns
returns g c =
    let keys = c.in_ok-ids.ensures in
    let sorted = c.sort_unstable.ensures in
    rw (← c.self.view_is) (c.from_vec.ensures ∙ sorted_ids c.self.inside.records.entries _ _ keys.distinct keys.keys sorted.permutation sorted.sorted)
