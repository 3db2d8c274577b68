-- A record that is there is replaced; otherwise the id has room.
use Rattle.std.proofs.Common.{Some, is_some, ◌∙◌, sym, ap, arith}
use Rattle.std.specs.FinMap as map
use Rattle.entity_state.specs.Tabled.{records_of}
use Rattle.entity_state.proofs.Records.{got, inserted}
use Rattle.entity_state.proofs.Room.{found, some_room, among_room, after_putting_there, after_putting_new}
use Rattle.entity_state.proofs.table.Table.put.Goals as goal

pub insert_new-requires-clause-room : goal.insert_new-requires-clause-room
insert_new-requires-clause-room g c =
    let absent = found c.args.id _ c.self.inside.records.entries c.in-None.ensures.value in
    let fits = rw (← c.self.view_is) at c.requires in
    let some = some_room c.self.inside.records.entries c.self.inside.promised.keys c.args.id fits absent in
    let kept = c.get_mut.follows.holds-at-none in
    rw kept (omega (arith, some, c.self.invariant))

pub invariant_of-self-in-None : goal.invariant_of-self-in-None
invariant_of-self-in-None g c =
    let absent = found c.args.id _ c.self.inside.records.entries c.in-None.ensures.value in
    let fits = rw (← c.self.view_is) at c.requires in
    let promised = c.remove.ensures.test ∙ among_room c.self.inside.records.entries c.self.inside.promised.keys c.args.id fits absent in
    let fewer = rw promised at c.remove.ensures.len in
    let room = rw c.get_mut.follows.holds-at-none at c.insert_new.ensures.room in
    omega (arith, fewer, room, c.self.invariant)

pub returns-in-Some-clause-before : goal.returns-in-Some-clause-before
returns-in-Some-clause-before g c =
    rw (← c.self.view_is) (ap Some c.replace.ensures.value ∙ c.in-Some.ensures.value ∙ sym (got c.args.id c.self.inside.records.entries))

pub returns-in-Some-clause-after : goal.returns-in-Some-clause-after
returns-in-Some-clause-after g c =
    let written = c.get_mut.follows.holds c.replace.new.dest in
    let there = found c.args.id _ c.self.inside.records.entries c.in-Some.ensures.value in
    let written_records = inserted c.args.id c.replace.new.dest c.self.inside.records.entries (c.get_mut.follows.lender c.replace.new.dest).entries (written.3 (sym (ap is_some c.in-Some.ensures.value))).0 in
    let records = written_records ∙ ap (map.insert (records_of c.self.inside.records.entries) c.args.id) c.replace.ensures.after in
    rw (← c.self.view_is) ((λ i. record { records = records i; places = written.1 i; room = c.self.inside.promised.keys }) ∙ after_putting_there _ c.args.id c.args.value there)

pub returns-in-None-clause-before : goal.returns-in-None-clause-before
returns-in-None-clause-before g c =
    rw (← c.self.view_is) (c.in-None.ensures.value ∙ sym (got c.args.id c.self.inside.records.entries))

pub returns-in-None-clause-after : goal.returns-in-None-clause-after
returns-in-None-clause-after g c =
    let absent = found c.args.id _ c.self.inside.records.entries c.in-None.ensures.value in
    let records = rw c.get_mut.follows.holds-at-none at c.insert_new.ensures.records in
    let places = rw c.get_mut.follows.holds-at-none at c.insert_new.ensures.keys in
    let room = c.remove.ensures.keys in
    rw (← c.self.view_is) ((λ i. record { records = records i; places = places i; room = room i }) ∙ after_putting_new _ c.args.id c.args.value absent)
