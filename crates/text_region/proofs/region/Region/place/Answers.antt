-- One shelf takes the text, and the others are as they were.
use Rattle.std.proofs.Common.{◌<◌, length, Some, arith, refl}
use Rattle.text_region.proofs.Steps.{places, shelves_put, updates}
use Rattle.text_region.proofs.region.Region.place.Goals as goal

there : (c : goal.In_ok-number) → c.class_of-class.result < length c.self.inside.shelves.items
there c = omega (arith, c.class_of-class.ensures.known, c.self.invariant.all)

pub invariant_of-self-2 : goal.invariant_of-self-2
invariant_of-self-2 c =
    shelves_put c.self.inside.shelves.items c.class_of-class.result c.index_mut.result.now c.place.new.self (there c) c.index_mut.ensures.value c.self.invariant c.place.ensures.size c.in_ok-number.number c.args.bytes.now c.in_ok-number.ensures.ok c.class_of-class.ensures

pub returns-clause-updates : goal.returns-clause-updates
returns-clause-updates c =
    rw (← c.self.view_is) (updates c.self.inside.shelves.items c.class_of-class.result c.index_mut.result.now c.place.new.self (there c) c.index_mut.ensures.value (record { class = c.class_of-class.result; number = c.in_ok-number.number }) (Some c.args.bytes.now) refl c.in_ok-number.ensures.ok.there c.in_ok-number.ensures.ok.others)

pub returns-clause-places : goal.returns-clause-places
returns-clause-places c =
    rw (← c.self.view_is) (places c.self.inside.shelves.items c.class_of-class.result c.index_mut.result.now c.place.new.self (there c) c.index_mut.ensures.value c.in_ok-number.number c.args.bytes.now c.in_ok-number.ensures.ok)
