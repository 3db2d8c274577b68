-- The page comes in the place of what was held, or all is as it was.
use Rattle.std.proofs.Common.{◌≡◌, ◌<◌, ◌≤◌, List, Err, Some, refl, sym, ap, subst, ◌∙◌, arith}
use Rattle.std.specs.FinMap as map
use Rattle.term_pool.specs.declared.fault.PoolFault.TheVariants.{Full}
use Rattle.triple_catalog.specs.Room.{room_for}
use Rattle.sorted_sets.specs.Rising.{has}
use Rattle.sorted_sets.proofs.Rising.{has-sorted}
use Rattle.rdf_term.specs.{declared.triple.Triple.Triple, Order.triple_cmp, Order.triple_cmp-total}
use Rattle.triple_store.specs.StoreState.{AreKeysOf, counts_in, limit_of}
use Rattle.replay_model.specs.{Records.record_of, Versions.meaning_by, Versions.with_version}
use Rattle.shared_triples.specs.Lean.{stored_of, triples_of}
use Rattle.fetched_pages.specs.Meaning.{meaning}
use Rattle.holders.specs.Holders.{ByVersion}
use Rattle.lean_holdings.specs.{Holding.counted_by, InStep.AreInStep, Kept.holds_in, Kept.kept_of, Kept.keys_held, Kept.seen}
use Rattle.holders.proofs.ByVersion.{moved_by_two, moved_to, moves, undone}
use Rattle.lean_holdings.proofs.{Apart.IsStep, Apart.may_bring, Apart.no_step, Apart.stepped, CountedIn.are_stored, CountedIn.countable, Rooming.room_more}
use Rattle.lean_holdings.proofs.Stepping.{back_again, may_move, page_step, page_step_seen, seen_again, tells_step, undone_step}
use Rattle.lean_holdings.proofs.holdings.LeanHoldings.put_page.Goals.{After-remove, After-take_back-in-Err}
use Rattle.lean_holdings.proofs.holdings.LeanHoldings.put_page.Goals as goal

is_moved : (c : After-remove) → c.remove.new.self ≡ moved_to c.self.inside.holders c.args.wanted.id c.args.wanted.version
is_moved c = moves c.self.inside.holders c.add.new.self c.remove.new.self c.args.wanted.id c.args.wanted.version c.other.result c.in-Ok.ensures.ok c.other.ensures c.remove.ensures

by2 : (c : After-remove) → c.remove.new.self.by_two ≡ with_version c.args.wanted.version c.args.wanted.id c.self.inside.holders.by_two
by2 c = ap (λ (ids : ByVersion). ids.by_two) (is_moved c) ∙ moved_by_two c.self.inside.holders c.args.wanted.id c.args.wanted.version

-- the page came in the place of what was held
step : (c : After-remove) → IsStep (counted_by c.self.inside.names) (meaning_by meaning c.self.inside.holders.by_two) (meaning c.args.wanted.version) c.args.wanted.id
    (record_of (seen c.self.inside.pages c.self.inside.table.records) c.args.wanted.id).held (Some (record { revision = c.args.wanted.rev; content = c.args.page.now }))
    c.self.inside.store c.bring.new.store c.self.inside.names c.bring.new.names c.keys_of-keys.result.rising.now c.in-Ok-bring.field-0
step c =
    let a = c.self.inside in
    let same : c.keys_of-keys.result.rising.now ≡ keys_held (kept_of a.table.records c.args.wanted.id).held = rw c.make_room.ensures.records at c.keys_of-keys.ensures in
    stepped (counted_by a.names) a.holders.by_two c.args.wanted.version c.args.wanted.id (record_of (seen a.pages a.table.records) c.args.wanted.id).held (Some (record { revision = c.args.wanted.rev; content = c.args.page.now }))
    a.store c.keys_of-keys.result.rising.now
    (subst (λ ks. AreKeysOf a.store ks (triples_of (stored_of (counted_by a.names) (meaning_by meaning a.holders.by_two)) (seen a.pages a.table.records) c.args.wanted.id)) (sym same) (c.self.invariant.kept.keyed c.args.wanted.id))
    c.bring.new.store a.names c.bring.new.names c.in-Ok-bring.field-0 (c.self.invariant.kept.lean.strangers c.args.wanted.id)
    c.args.coming (rw (← c.self.view_is) at c.requires.coming) c.in-Ok-bring.ensures.brought

after : (c : After-remove) → AreInStep c.bring.new.store c.replace.new.pages c.bring.new.names c.remove.new.self c.replace.new.table.records
after c = rw (c.replace.ensures.records, c.make_room.ensures.records)
    (page_step c.self.inside.store c.self.inside.pages c.self.inside.names c.self.inside.holders c.self.inside.table.records c.args.wanted.id c.self.invariant
    c.args.wanted.version c.remove.new.self (by2 c) c.bring.new.store c.bring.new.names c.keys_of-keys.result.rising.now (step c).gone (step c).come c.in-Ok-bring.field-0
    (step c).gone_are (rw c.make_room.ensures.records at c.keys_of-keys.ensures) (step c).moved
    c.put.new.self c.replace.new.pages c.args.after.state c.args.after.reconciled c.args.wanted.rev c.in-Ok-put.piece c.args.page.now
    c.in-Ok-put.ensures.vacant c.in-Ok-put.ensures.updates (rw c.make_room.ensures.records at c.replace.ensures.freed)
    (step c).come_are (step c).known (is_moved c))

was_seen : (c : After-remove) → seen c.replace.new.pages c.replace.new.table.records
    ≡ map.insert (seen c.self.inside.pages c.self.inside.table.records) c.args.wanted.id (record {
      state = c.args.after.state;
      held = Some (record { revision = c.args.wanted.rev; content = c.args.page.now });
      reconciled = c.args.after.reconciled;
    })
was_seen c = rw (c.replace.ensures.records, c.make_room.ensures.records)
    (page_step_seen c.self.inside.store c.self.inside.pages c.self.inside.names c.self.inside.holders c.self.inside.table.records c.args.wanted.id c.self.invariant
    c.args.wanted.version c.remove.new.self (by2 c) c.bring.new.store c.bring.new.names c.keys_of-keys.result.rising.now (step c).gone (step c).come c.in-Ok-bring.field-0
    (step c).gone_are (rw c.make_room.ensures.records at c.keys_of-keys.ensures) (step c).moved
    c.put.new.self c.replace.new.pages c.args.after.state c.args.after.reconciled c.args.wanted.rev c.in-Ok-put.piece c.args.page.now
    c.in-Ok-put.ensures.vacant c.in-Ok-put.ensures.updates (rw c.make_room.ensures.records at c.replace.ensures.freed)
    (step c).come_are (step c).known)

-- what was taken back
back : (c : After-take_back-in-Err) → c.take_back-in-Err.new.self ≡ c.self.inside.holders
back c = undone c.self.inside.holders c.add.new.self c.take_back-in-Err.new.self (holds_in c.self.inside.table.records) c.args.wanted.id c.args.wanted.version c.in-Ok.added c.self.invariant.by
    c.in-Ok.ensures.ok c.in-Ok.ensures.added c.take_back-in-Err.ensures

refused : (c : After-take_back-in-Err) → AreInStep c.bring.new.store c.free.new.self c.bring.new.names c.take_back-in-Err.new.self c.make_room.new.table.records
refused c = rw (c.make_room.ensures.records, c.in-Err.ensures.err_names, back c)
    (undone_step c.self.inside.store c.self.inside.pages c.self.inside.names c.self.inside.holders c.self.inside.table.records c.args.wanted.id c.self.invariant
    c.bring.new.store c.free.new.self c.bring.ensures.rest.sound c.in-Err.ensures.err c.bring.ensures.rest.keeps
    (back_again c.self.inside.pages c.put.new.self c.free.new.self c.in-Ok-put.piece (Some c.args.page.now) c.in-Ok-put.ensures.vacant c.in-Ok-put.ensures.updates c.free.ensures))

pub bring-requires-clause-stored : goal.bring-requires-clause-stored
bring-requires-clause-stored c = rw (c.keys_of-keys.ensures, c.make_room.ensures.records)
    (are_stored (meaning_by meaning c.self.inside.holders.by_two) c.self.inside.store c.self.inside.pages c.self.inside.names c.self.inside.table.records c.args.wanted.id c.self.invariant.kept)

pub bring-requires-clause-countable : goal.bring-requires-clause-countable
bring-requires-clause-countable c =
    let few : map.len c.self.inside.table.records < 18446744073709551615 = omega (arith, ap map.len c.make_room.ensures.records) in
    λ t. countable (meaning_by meaning c.self.inside.holders.by_two) c.self.inside.store c.self.inside.pages c.self.inside.names c.self.inside.table.records c.self.invariant.kept _ few t

pub bring-requires-clause-may_bring : goal.bring-requires-clause-may_bring
bring-requires-clause-may_bring c =
    let a = c.self.inside in
    let few : map.len a.table.records < 18446744073709551615 = omega (arith, ap map.len c.make_room.ensures.records) in
    may_bring (counted_by a.names) (meaning_by meaning a.holders.by_two) (meaning c.args.wanted.version) c.args.wanted.id
    (record_of (seen a.pages a.table.records) c.args.wanted.id).held (Some (record { revision = c.args.wanted.rev; content = c.args.page.now })) a.names
    (λ gone come gone_are come_are known. may_move a.store a.pages a.names a.holders a.table.records c.args.wanted.id c.self.invariant
    (meaning c.args.wanted.version) (Some (record { revision = c.args.wanted.rev; content = c.args.page.now })) gone come few gone_are come_are known)
    c.args.coming (rw (← c.self.view_is) at c.requires.coming)

pub invariant_of-self : goal.invariant_of-self
invariant_of-self c = rw c.make_room.ensures.records c.self.invariant

pub invariant_of-self-in_default : goal.invariant_of-self-in_default
invariant_of-self-in_default c = rw (c.in_default.ensures.err, c.make_room.ensures.records) c.self.invariant

pub invariant_of-self-in_default-put : goal.invariant_of-self-in_default-put
invariant_of-self-in_default-put c =
    let was : c.take_back.new.self ≡ c.self.inside.holders =
    undone c.self.inside.holders c.add.new.self c.take_back.new.self (holds_in c.self.inside.table.records) c.args.wanted.id c.args.wanted.version c.in-Ok.added c.self.invariant.by
    c.in-Ok.ensures.ok c.in-Ok.ensures.added c.take_back.ensures in
    rw (was, c.in_default-put.ensures.err, c.make_room.ensures.records) c.self.invariant

pub invariant_of-self-in-Ok-bring : goal.invariant_of-self-in-Ok-bring
invariant_of-self-in-Ok-bring c = after c

pub invariant_of-self-in-Err : goal.invariant_of-self-in-Err
invariant_of-self-in-Err c = refused c

pub returns-in_default-put-clause-err : goal.returns-in_default-put-clause-err
returns-in_default-put-clause-err c =
    let was : c.take_back.new.self ≡ c.self.inside.holders =
    undone c.self.inside.holders c.add.new.self c.take_back.new.self (holds_in c.self.inside.table.records) c.args.wanted.id c.args.wanted.version c.in-Ok.added c.self.invariant.by
    c.in-Ok.ensures.ok c.in-Ok.ensures.added c.take_back.ensures in
    rw (← c.self.view_is, was, c.in_default-put.ensures.err, c.make_room.ensures.records) refl

pub returns-in-Ok-bring-clause-records : goal.returns-in-Ok-bring-clause-records
returns-in-Ok-bring-clause-records c = rw (← c.self.view_is) (was_seen c)

pub returns-in-Ok-bring-clause-by_two : goal.returns-in-Ok-bring-clause-by_two
returns-in-Ok-bring-clause-by_two c = rw (← c.self.view_is) (by2 c)

pub returns-in-Ok-bring-clause-limit : goal.returns-in-Ok-bring-clause-limit
returns-in-Ok-bring-clause-limit c = rw (← c.self.view_is) c.bring.ensures.rest.limit

pub returns-in-Ok-bring-clause-change : goal.returns-in-Ok-bring-clause-change
returns-in-Ok-bring-clause-change c = rw (← c.self.view_is)
    (tells_step c.self.inside.store c.self.inside.pages c.self.inside.names c.self.inside.holders c.self.inside.table.records c.args.wanted.id c.self.invariant
    c.args.wanted.version c.remove.new.self (by2 c) c.bring.new.store c.bring.new.names c.keys_of-keys.result.rising.now (step c).gone (step c).come c.in-Ok-bring.field-0
    (step c).gone_are (rw c.make_room.ensures.records at c.keys_of-keys.ensures) (step c).moved
    c.replace.new.pages c.replace.new.table.records _ (after c) (was_seen c) (step c).come_are)

pub returns-in-Ok-bring-clause-counted : goal.returns-in-Ok-bring-clause-counted
returns-in-Ok-bring-clause-counted c = rw (← c.self.view_is) (step c).moved.counted

pub returns-in-Ok-bring-clause-within : goal.returns-in-Ok-bring-clause-within
returns-in-Ok-bring-clause-within c =
    let a = c.self.inside in
    rw (← c.self.view_is)
    (subst (λ n. n ≤ limit_of a.store) (room_more (meaning_by meaning a.holders.by_two) (counted_by a.names) a.store (seen a.pages a.table.records) c.self.invariant.kept.sound c.self.invariant.kept.lean
    (step c).come.shared (stored_of (counted_by a.names) (meaning c.args.wanted.version) c.args.wanted.id c.args.wanted.rev c.args.page.now)
    (λ t. sym (has-sorted triple_cmp-total t (step c).come.shared) ∙ ap (has triple_cmp t) (step c).come_are.stored)) (step c).moved.exchanged.within)

pub returns-in-Err-clause-limit : goal.returns-in-Err-clause-limit
returns-in-Err-clause-limit c = rw (← c.self.view_is) c.bring.ensures.rest.limit

pub returns-in-Err-clause-err : goal.returns-in-Err-clause-err
returns-in-Err-clause-err c = rw (← c.self.view_is) (λ i. record {
  records = (seen_again c.self.inside.pages c.free.new.self c.make_room.new.table.records
      (back_again c.self.inside.pages c.put.new.self c.free.new.self c.in-Ok-put.piece (Some c.args.page.now) c.in-Ok-put.ensures.vacant c.in-Ok-put.ensures.updates c.free.ensures)
      ∙ ap (seen c.self.inside.pages) c.make_room.ensures.records) i;
  limit = c.bring.ensures.rest.limit i;
  by_two = ap (λ (ids : ByVersion). ids.by_two) (back c) i;
  names = c.in-Err.ensures.err_names i;
})

pub returns-in-Err-clause-full : goal.returns-in-Err-clause-full
returns-in-Err-clause-full c = rw (← c.self.view_is) (λ is.
    let a = c.self.inside in
    let same : c.in-Err.refused ≡ Full = cc in
    let keys_are : c.keys_of-keys.result.rising.now ≡ keys_held (kept_of a.table.records c.args.wanted.id).held = rw c.make_room.ensures.records at c.keys_of-keys.ensures in
    let stored : List Triple = stored_of (counted_by a.names) (meaning c.args.wanted.version) c.args.wanted.id c.args.wanted.rev c.args.page.now in
    let few : limit_of a.store < room_for (counts_in a.store) stored =
    no_step (counted_by a.names) a.holders.by_two c.args.wanted.version c.args.wanted.id (record_of (seen a.pages a.table.records) c.args.wanted.id).held (Some (record { revision = c.args.wanted.rev; content = c.args.page.now }))
    a.store c.keys_of-keys.result.rising.now
    (subst (λ ks. AreKeysOf a.store ks (triples_of (stored_of (counted_by a.names) (meaning_by meaning a.holders.by_two)) (seen a.pages a.table.records) c.args.wanted.id)) (sym keys_are) (c.self.invariant.kept.keyed c.args.wanted.id))
    c.args.coming (rw (← c.self.view_is) at c.requires.coming) (c.in-Err.ensures.full (ap (λ fault. Err fault) same)) in
    subst (λ n. limit_of a.store < n) (room_more (meaning_by meaning a.holders.by_two) (counted_by a.names) a.store (seen a.pages a.table.records) c.self.invariant.kept.sound c.self.invariant.kept.lean
    stored stored (λ t. refl)) few)
