-- The page is mapped by another version, or all is as it was.
use Rattle.std.proofs.Common.{◌≡◌, ◌<◌, ◌≤◌, true, Err, is_some, refl, sym, ap, subst, ◌∙◌, arith}
use Rattle.std.specs.FinMap as map
use Rattle.term_pool.specs.declared.fault.PoolFault.TheVariants.{Full}
use Rattle.triple_catalog.specs.Room.{room_for}
use Rattle.triple_store.specs.StoreState.{counts_in, limit_of}
use Rattle.replay_model.specs.{Records.record_of, Versions.meaning_by, Versions.with_version}
use Rattle.fetched_pages.specs.Meaning.{meaning}
use Rattle.holders.specs.Holders.{ByVersion}
use Rattle.lean_holdings.specs.{Holding.counted_by, InStep.AreInStep, Kept.holds_in, Kept.kept_of, Kept.seen}
use Rattle.holders.proofs.ByVersion.{moved_by_two, moved_to, moves, undone}
use Rattle.lean_holdings.specs.Moving.{lists_of}
use Rattle.lean_holdings.proofs.{CountedIn.are_stored, CountedIn.countable, InStep.links, Rooming.room_more, Staying.keys_unseen, Staying.put_same}
use Rattle.lean_holdings.proofs.Stepping.{again_step, may_move, tells_step, undone_step}
use Rattle.lean_holdings.proofs.holdings.LeanHoldings.put_again.Goals.{After-remove, After-take_back}
use Rattle.lean_holdings.proofs.holdings.LeanHoldings.put_again.Goals as goal

is_moved : (c : After-remove) → c.remove.new.self ≡ moved_to c.self.inside.holders c.args.id c.args.version
is_moved c = moves c.self.inside.holders c.add.new.self c.remove.new.self c.args.id c.args.version c.other.result c.in-Ok.ensures.ok c.other.ensures c.remove.ensures

by2 : (c : After-remove) → c.remove.new.self.by_two ≡ with_version c.args.version c.args.id c.self.inside.holders.by_two
by2 c = ap (λ (ids : ByVersion). ids.by_two) (is_moved c) ∙ moved_by_two c.self.inside.holders c.args.id c.args.version

there : (c : After-remove) → is_some (kept_of c.self.inside.table.records c.args.id).held ≡ true
there c = sym (links c.self.inside.pages c.self.inside.table.records c.args.id) ∙ (rw (← c.self.view_is) at c.requires.holds)

after : (c : After-remove) → AreInStep c.move_parts.new.store c.self.inside.pages c.move_parts.new.names c.remove.new.self c.set_keys.new.table.records
after c = rw c.set_keys.ensures
    (again_step c.self.inside.store c.self.inside.pages c.self.inside.names c.self.inside.holders c.self.inside.table.records c.args.id c.self.invariant
    c.args.version c.remove.new.self (by2 c) c.move_parts.new.store c.move_parts.new.names c.keys_of-keys.result.rising.now (lists_of c.args.gone.now) (lists_of c.args.come.now) c.in-Ok-move_parts.field-0
    (rw (← c.self.view_is) at c.requires.gone) c.keys_of-keys.ensures c.in-Ok-move_parts.ensures.moved
    (there c) (rw (← c.self.view_is) at c.requires.come) (rw (← c.self.view_is) at c.requires.known) (is_moved c))

was_seen : (c : After-remove) → seen c.self.inside.pages c.set_keys.new.table.records ≡ seen c.self.inside.pages c.self.inside.table.records
was_seen c = ap (seen c.self.inside.pages) c.set_keys.ensures ∙ keys_unseen c.self.inside.table.records c.args.id c.in-Ok-move_parts.field-0.keys (there c) c.self.inside.pages

-- what was taken back
back : (c : After-take_back) → c.take_back.new.self ≡ c.self.inside.holders
back c = undone c.self.inside.holders c.add.new.self c.take_back.new.self (holds_in c.self.inside.table.records) c.args.id c.args.version c.in-Ok.added c.self.invariant.by
    c.in-Ok.ensures.ok c.in-Ok.ensures.added c.take_back.ensures

refused : (c : After-take_back) → AreInStep c.move_parts.new.store c.self.inside.pages c.move_parts.new.names c.take_back.new.self c.self.inside.table.records
refused c = rw (c.in-Err.ensures.err_names, back c)
    (undone_step c.self.inside.store c.self.inside.pages c.self.inside.names c.self.inside.holders c.self.inside.table.records c.args.id c.self.invariant
    c.move_parts.new.store c.self.inside.pages c.move_parts.ensures.rest.sound c.in-Err.ensures.err c.move_parts.ensures.rest.keeps (λ p. refl))

pub move_parts-requires-clause-stored : goal.move_parts-requires-clause-stored
move_parts-requires-clause-stored c = rw c.keys_of-keys.ensures
    (are_stored (meaning_by meaning c.self.inside.holders.by_two) c.self.inside.store c.self.inside.pages c.self.inside.names c.self.inside.table.records c.args.id c.self.invariant.kept)

pub move_parts-requires-clause-countable : goal.move_parts-requires-clause-countable
move_parts-requires-clause-countable c =
    let few : map.len c.self.inside.table.records < 18446744073709551615 = omega arith in
    λ t. countable (meaning_by meaning c.self.inside.holders.by_two) c.self.inside.store c.self.inside.pages c.self.inside.names c.self.inside.table.records c.self.invariant.kept _ few t

pub move_parts-requires-clause-fit : goal.move_parts-requires-clause-fit
move_parts-requires-clause-fit c = c.requires.come.fit

pub move_parts-requires-clause-may_move : goal.move_parts-requires-clause-may_move
move_parts-requires-clause-may_move c =
    let few : map.len c.self.inside.table.records < 18446744073709551615 = omega arith in
    may_move c.self.inside.store c.self.inside.pages c.self.inside.names c.self.inside.holders c.self.inside.table.records c.args.id c.self.invariant
    (meaning c.args.version) _ (lists_of c.args.gone.now) (lists_of c.args.come.now) few
    (rw (← c.self.view_is) at c.requires.gone) (rw (← c.self.view_is) at c.requires.come) (rw (← c.self.view_is) at c.requires.known)

pub set_keys-requires : goal.set_keys-requires
set_keys-requires c = sym (links c.self.inside.pages c.self.inside.table.records c.args.id) ∙ (rw (← c.self.view_is) at c.requires.holds)

pub invariant_of-self : goal.invariant_of-self
invariant_of-self c = rw c.in_default.ensures.err c.self.invariant

pub invariant_of-self-in-Ok-move_parts : goal.invariant_of-self-in-Ok-move_parts
invariant_of-self-in-Ok-move_parts c = after c

pub invariant_of-self-in-Err : goal.invariant_of-self-in-Err
invariant_of-self-in-Err c = refused c

pub returns-in-Ok-move_parts-clause-records : goal.returns-in-Ok-move_parts-clause-records
returns-in-Ok-move_parts-clause-records c = rw (← c.self.view_is) (was_seen c)

pub returns-in-Ok-move_parts-clause-by_two : goal.returns-in-Ok-move_parts-clause-by_two
returns-in-Ok-move_parts-clause-by_two c = rw (← c.self.view_is) (by2 c)

pub returns-in-Ok-move_parts-clause-limit : goal.returns-in-Ok-move_parts-clause-limit
returns-in-Ok-move_parts-clause-limit c = rw (← c.self.view_is) c.move_parts.ensures.rest.limit

pub returns-in-Ok-move_parts-clause-change : goal.returns-in-Ok-move_parts-clause-change
returns-in-Ok-move_parts-clause-change c =
    let records = seen c.self.inside.pages c.self.inside.table.records in
    rw (← c.self.view_is)
    (tells_step c.self.inside.store c.self.inside.pages c.self.inside.names c.self.inside.holders c.self.inside.table.records c.args.id c.self.invariant
    c.args.version c.remove.new.self (by2 c) c.move_parts.new.store c.move_parts.new.names c.keys_of-keys.result.rising.now (lists_of c.args.gone.now) (lists_of c.args.come.now) c.in-Ok-move_parts.field-0
    (rw (← c.self.view_is) at c.requires.gone) c.keys_of-keys.ensures c.in-Ok-move_parts.ensures.moved
    c.self.inside.pages c.set_keys.new.table.records (record_of records c.args.id) (after c)
    (was_seen c ∙ sym (put_same records c.args.id (rw (← c.self.view_is) at c.requires.holds))) (rw (← c.self.view_is) at c.requires.come))

pub returns-in-Ok-move_parts-clause-within : goal.returns-in-Ok-move_parts-clause-within
returns-in-Ok-move_parts-clause-within c =
    let a = c.self.inside in
    rw (← c.self.view_is)
    (subst (λ n. n ≤ limit_of a.store) (room_more (meaning_by meaning a.holders.by_two) (counted_by a.names) a.store (seen a.pages a.table.records) c.self.invariant.kept.sound c.self.invariant.kept.lean
    c.args.come.now.parts.shared c.args.come.now.parts.shared (λ t. refl)) c.in-Ok-move_parts.ensures.moved.exchanged.within)

pub returns-in-Err-clause-limit : goal.returns-in-Err-clause-limit
returns-in-Err-clause-limit c = rw (← c.self.view_is) c.move_parts.ensures.rest.limit

pub returns-in-Err-clause-err : goal.returns-in-Err-clause-err
returns-in-Err-clause-err c = rw (← c.self.view_is) (λ i. record {
  records = seen c.self.inside.pages c.self.inside.table.records;
  limit = c.move_parts.ensures.rest.limit i;
  by_two = ap (λ (ids : ByVersion). ids.by_two) (back c) i;
  names = c.in-Err.ensures.err_names i;
})

pub returns-in-Err-clause-full : goal.returns-in-Err-clause-full
returns-in-Err-clause-full c = rw (← c.self.view_is) (λ is.
    let a = c.self.inside in
    let same : c.in-Err.refused ≡ Full = cc in
    let few : limit_of a.store < room_for (counts_in a.store) c.args.come.now.parts.shared = c.in-Err.ensures.full (ap (λ fault. Err fault) same) in
    subst (λ n. limit_of a.store < n) (room_more (meaning_by meaning a.holders.by_two) (counted_by a.names) a.store (seen a.pages a.table.records) c.self.invariant.kept.sound c.self.invariant.kept.lean
    c.args.come.now.parts.shared c.args.come.now.parts.shared (λ t. refl)) few)
