-- The map by id has the ids of the list, each once.
use Rattle.std.proofs.Common.{◌∙◌, sym}
use Rattle.entity_state.proofs.Records.{there, counted}
use Rattle.entity_state.proofs.table.Table.len.Goals as goal

pub returns-clause-records : goal.returns-clause-records
returns-clause-records g c = rw (← c.self.view_is) (c.len.ensures.len ∙ sym (counted c.self.inside.records.entries c.len.ensures.unique))

pub returns-clause-each : goal.returns-clause-each
returns-clause-each g c = rw (← c.self.view_is) (λ id. sym (there id c.self.inside.records.entries))
