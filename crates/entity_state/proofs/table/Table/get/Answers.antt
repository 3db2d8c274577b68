-- The map by id has what the look-up finds.
use Rattle.std.proofs.Common.{◌∙◌, sym}
use Rattle.entity_state.proofs.Records.{got}
use Rattle.entity_state.proofs.table.Table.get.Goals as goal

pub returns : goal.returns
returns g c = rw (← c.self.view_is) (c.get.ensures.value ∙ sym (got c.args.id c.self.inside.records.entries))
