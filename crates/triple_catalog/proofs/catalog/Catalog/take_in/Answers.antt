use Rattle.std.proofs.Common.{◌≡◌, ◌+◌, ◌<◌, arith, length, take, vec_len, refl, sym, ◌∙◌}
use Rattle.slot_keys.proofs.{Adding.held_with, AtHand.held_again, AtHand.on_ok}
use Rattle.triple_catalog.proofs.{Along.along_held, Along.along_later, Along.along_new, Costs.at_most, Costs.both, Rooming.same_fault}
use Rattle.triple_catalog.proofs.Known.{known_text, last_added, last_found}
use Rattle.triple_catalog.proofs.Listed.{next_fits, next_full, next_held, next_new, row_canonical}
use Rattle.triple_catalog.proofs.Taking.{none_more}
use Rattle.triple_catalog.proofs.catalog.Catalog.take_in.Goals as goal

pub find_held-requires-clause-known : goal.find_held-requires-clause-known
find_held-requires-clause-known g c =
    let low : c.loop-index.index < length c.args.swap.new.now = omega arith in
    known_text c.loop-index.self.pool c.loop-index.region c.args.swap.new.now c.loop-index.index c.get-texts.result low c.get-texts.ensures c.known_subject-subject.result c.known_subject-subject.ensures

pub loop-index-preserved-in-Ok : goal.loop-index-preserved-in-Ok
loop-index-preserved-in-Ok g c =
    let low : c.loop-index.index < length c.args.swap.new.now = omega arith in
    record {
      takes = rw c.push_reserved.ensures.items (next_held _ _ _ _ c.args.swap.left.keys.rising.now c.loop-index.met.keys.items c.loop-index.met.keys.items c.args.swap.new.now c.loop-index.index c.get-texts.result low c.get-texts.ensures c.requires.stored c.requires.there c.loop-index.invariant.takes (λ k. refl) c.in-Ok.found.key c.in-Ok.ensures.texts (sym (c.loop-index.invariant.held c.in-Ok.found.key) ∙ c.in-Ok.ensures.held));
      along = rw c.push_reserved.ensures.items (along_held c.loop-index.self c.loop-index.region c.loop-index.met.keys.items c.args.swap.new.now c.loop-index.index c.get-texts.result low c.get-texts.ensures c.in-Ok.found.key c.in-Ok.ensures.texts c.loop-index.invariant.along);
      cost = at_most _ _ c.loop-index.index (c.loop-index.index + 1) 0 0 _ _ (omega arith) (omega arith) c.loop-index.invariant.cost;
      done = omega (arith, c.push_reserved.ensures.len, c.loop-index.invariant.done);
      room = omega (arith, c.push_reserved.ensures.capacity, c.loop-index.invariant.room);
      indexed = omega (arith, c.push_reserved-in-Ok.ensures.len, c.loop-index.invariant.indexed);
      room_for_indices = omega (arith, c.push_reserved-in-Ok.ensures.capacity, c.loop-index.invariant.room_for_indices);
      last = last_found c.loop-index.self.pool c.loop-index.region c.args.swap.new.now c.loop-index.index c.get-texts.result low c.get-texts.ensures c.in-Ok.found.key c.in-Ok.ensures.texts;
      held = rw c.push_reserved.ensures.items (λ k. c.loop-index.invariant.held k ∙ held_again c.args.swap.left.keys.rising.now c.loop-index.met.keys.items c.loop-index.met.keys.items (λ q. refl) c.in-Ok.found.key (sym (c.loop-index.invariant.held c.in-Ok.found.key) ∙ c.in-Ok.ensures.held) k);
      apart = c.loop-index.invariant.apart;
    }

pub add-requires-clause-canonical : goal.add-requires-clause-canonical
add-requires-clause-canonical g c =
    let low : c.loop-index.index < length c.args.swap.new.now = omega arith in
    row_canonical c.args.swap.new.now c.loop-index.index c.get-texts.result low c.get-texts.ensures c.requires.fit

pub add-requires-clause-countable : goal.add-requires-clause-countable
add-requires-clause-countable g c =
    let low : c.loop-index.index < length c.args.swap.new.now = omega arith in
    next_fits _ _ _ _ c.args.swap.left.keys.rising.now c.loop-index.met.keys.items c.loop-index.met.keys.items c.args.swap.new.now c.loop-index.index c.get-texts.result low c.get-texts.ensures c.requires.stored c.requires.there c.loop-index.invariant.takes (λ k. refl) (λ k is. sym (c.loop-index.invariant.held k) ∙ c.in-Err.ensures.none k is) _ c.requires.countable

pub returns-in-Err-add-clause-takes : goal.returns-in-Err-add-clause-takes
returns-in-Err-add-clause-takes g c = rw c.loop-index.invariant.done (none_more _ _ _ _ c.args.swap.left.keys.rising.now c.loop-index.met.keys.items (take c.loop-index.index c.args.swap.new.now) c.requires.stored c.requires.there c.loop-index.invariant.takes _ _ c.in-Err-add.ensures.stored c.in-Err-add.ensures.err c.in-Err-add.ensures.kept c.in-Err-add.ensures.beside c.in-Err-add.ensures.limit)

pub returns-in-Err-add-clause-full : goal.returns-in-Err-add-clause-full
returns-in-Err-add-clause-full g c full =
    let low : c.loop-index.index < length c.args.swap.new.now = omega arith in
    next_full _ _ _ _ c.args.swap.left.keys.rising.now c.loop-index.met.keys.items c.loop-index.met.keys.items c.args.swap.new.now c.loop-index.index c.get-texts.result low c.get-texts.ensures c.requires.stored c.requires.there c.loop-index.invariant.takes (λ k. refl) (c.in-Err-add.ensures.full (same_fault c.in-Err-add.fault full))

pub returns-then-is_err-clause-takes : goal.returns-then-is_err-clause-takes
returns-then-is_err-clause-takes g c =
    let low : c.loop-index.index < length c.args.swap.new.now = omega arith in
    let done : vec_len c.push_reserved-in-loop-index.new.self ≡ c.loop-index.index + 1 = omega (arith, c.push_reserved-in-loop-index.ensures.len, c.loop-index.invariant.done) in
    rw (c.push_reserved-in-loop-index.ensures.items, done) (next_new _ _ _ _ c.args.swap.left.keys.rising.now c.loop-index.met.keys.items c.loop-index.met.keys.items c.args.swap.new.now c.loop-index.index c.get-texts.result low c.get-texts.ensures c.requires.stored c.requires.there c.loop-index.invariant.takes (λ k. refl) (λ k is. sym (c.loop-index.invariant.held k) ∙ c.in-Err.ensures.none k is) _ _ c.in-Ok-add.key c.in-Ok-add.ensures.stored c.in-Ok-add.ensures.ok c.in-Ok-add.ensures.key c.in-Ok-add.ensures.kept c.in-Ok-add.ensures.beside c.in-Ok-add.ensures.limit)

pub loop-index-preserved : goal.loop-index-preserved
loop-index-preserved g c =
    let low : c.loop-index.index < length c.args.swap.new.now = omega arith in
    record {
      takes = rw c.push_reserved-in-loop-index.ensures.items (next_new _ _ _ _ c.args.swap.left.keys.rising.now c.loop-index.met.keys.items c.loop-index.met.keys.items c.args.swap.new.now c.loop-index.index c.get-texts.result low c.get-texts.ensures c.requires.stored c.requires.there c.loop-index.invariant.takes (λ k. refl) (λ k is. sym (c.loop-index.invariant.held k) ∙ c.in-Err.ensures.none k is) _ _ c.in-Ok-add.key c.in-Ok-add.ensures.stored c.in-Ok-add.ensures.ok c.in-Ok-add.ensures.key c.in-Ok-add.ensures.kept c.in-Ok-add.ensures.beside c.in-Ok-add.ensures.limit);
      along = rw c.push_reserved-in-loop-index.ensures.items (along_new _ _ _ _ c.args.swap.left.keys.rising.now c.loop-index.met.keys.items c.args.swap.new.now c.loop-index.index c.get-texts.result low c.get-texts.ensures c.loop-index.invariant.takes _ _ c.in-Ok-add.ensures.kept c.in-Ok-add.key c.in-Ok-add.ensures.key c.loop-index.invariant.along);
      cost = both _ _ _ c.loop-index.index 1 0 0 _ _ _ c.loop-index.invariant.cost c.in-Ok-add.ensures.cost;
      done = omega (arith, c.push_reserved-in-loop-index.ensures.len, c.loop-index.invariant.done);
      room = omega (arith, c.push_reserved-in-loop-index.ensures.capacity, c.loop-index.invariant.room);
      indexed = omega (arith, c.push_reserved-in-loop-index-2.ensures.len, c.loop-index.invariant.indexed);
      room_for_indices = omega (arith, c.push_reserved-in-loop-index-2.ensures.capacity, c.loop-index.invariant.room_for_indices);
      last = last_added c.loop-index.self.pool c.loop-index.region c.args.swap.new.now c.loop-index.index c.get-texts.result low c.get-texts.ensures _ _ c.in-Ok-add.key c.in-Ok-add.ensures.key.has;
      held = rw c.push_reserved-in-loop-index.ensures.items (held_with c.args.swap.left.keys.rising.now c.loop-index.added c.insert.new.self c.loop-index.met.keys.items c.loop-index.invariant.held c.in-Ok-add.key (on_ok c.insert.result _ (sym c.is_err.ensures.value ∙ c.if-is_err.false) c.insert.ensures.added));
      apart = on_ok c.insert.result _ (sym c.is_err.ensures.value ∙ c.if-is_err.false) c.insert.ensures.apart;
    }

pub returns-in-Err-add-clause-cost : goal.returns-in-Err-add-clause-cost
returns-in-Err-add-clause-cost g c =
    let low : c.loop-index.index < length c.args.swap.new.now = omega arith in
    at_most _ _ (c.loop-index.index + 1) (length c.args.swap.new.now) 0 0 _ _ (omega arith) (omega arith) (both _ _ _ c.loop-index.index 1 0 0 _ _ _ c.loop-index.invariant.cost c.in-Err-add.ensures.cost)

pub returns-then-is_err-clause-cost : goal.returns-then-is_err-clause-cost
returns-then-is_err-clause-cost g c =
    let low : c.loop-index.index < length c.args.swap.new.now = omega arith in
    at_most _ _ (c.loop-index.index + 1) (length c.args.swap.new.now) 0 0 _ _ (omega arith) (omega arith) (both _ _ _ c.loop-index.index 1 0 0 _ _ _ c.loop-index.invariant.cost c.in-Ok-add.ensures.cost)

pub returns-in-Err-add-clause-along : goal.returns-in-Err-add-clause-along
returns-in-Err-add-clause-along g c = rw c.loop-index.invariant.done (along_later _ _ _ _ c.args.swap.left.keys.rising.now c.loop-index.met.keys.items _ c.loop-index.invariant.takes _ _ c.in-Err-add.ensures.kept ∙ c.loop-index.invariant.along)

pub returns-then-is_err-clause-along : goal.returns-then-is_err-clause-along
returns-then-is_err-clause-along g c =
    let low : c.loop-index.index < length c.args.swap.new.now = omega arith in
    let done : vec_len c.push_reserved-in-loop-index.new.self ≡ c.loop-index.index + 1 = omega (arith, c.push_reserved-in-loop-index.ensures.len, c.loop-index.invariant.done) in
    rw (c.push_reserved-in-loop-index.ensures.items, done) (along_new _ _ _ _ c.args.swap.left.keys.rising.now c.loop-index.met.keys.items c.args.swap.new.now c.loop-index.index c.get-texts.result low c.get-texts.ensures c.loop-index.invariant.takes _ _ c.in-Ok-add.ensures.kept c.in-Ok-add.key c.in-Ok-add.ensures.key c.loop-index.invariant.along)
