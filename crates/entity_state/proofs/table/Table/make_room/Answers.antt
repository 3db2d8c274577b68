-- An id that is there has room; otherwise one more id does.
use Rattle.std.proofs.Common.{◌∙◌, sym, ap, is_some}
use Rattle.std.specs.Map.{keys_of}
use Rattle.entity_state.specs.Tabled.{records_of}
use Rattle.entity_state.proofs.Records.{got}
use Rattle.entity_state.proofs.Room.{with_room_there, with_room_new, has_given_room}
use Rattle.entity_state.proofs.table.Table.make_room.Goals as goal

pub returns-then-contains_key-clause-ok : goal.returns-then-contains_key-clause-ok
returns-then-contains_key-clause-ok g c =
    let there = ap is_some (got c.args.id c.self.inside.records.entries) ∙ sym c.contains_key.ensures ∙ c.if-contains_key.true in
    rw (← c.self.view_is) (with_room_there _ c.args.id there)

pub returns-clause-ok : goal.returns-clause-ok
returns-clause-ok g c =
    let new = ap is_some (got c.args.id c.self.inside.records.entries) ∙ sym c.contains_key.ensures ∙ c.if-contains_key.false in
    let entries = c.in_ok-reserve.ensures.entries in
    let room = c.in_ok-insert.ensures.keys in
    rw (← c.self.view_is) ((λ i. record { records = records_of (entries i); places = keys_of (entries i); room = room i }) ∙ with_room_new _ c.args.id new)

pub returns-then-contains_key-clause-room : goal.returns-then-contains_key-clause-room
returns-then-contains_key-clause-room g c = has_given_room _ c.args.self.now c.args.id (returns-then-contains_key-clause-ok g c)

pub returns-clause-room : goal.returns-clause-room
returns-clause-room g c = has_given_room _ c.args.self.now c.args.id (returns-clause-ok g c)
