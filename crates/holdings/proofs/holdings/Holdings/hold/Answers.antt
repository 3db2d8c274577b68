-- The page comes in the place of what was held, or all is as it was.
use Rattle.std.proofs.Common.{◌≡◌, ◌<◌, ◌≤◌, Err, refl, sym, ap, subst, ◌∙◌, arith}
use Rattle.std.specs.FinMap as map
use Rattle.term_pool.specs.declared.fault.PoolFault.TheVariants.{Full}
use Rattle.triple_store.specs.{StoreState.StoreState, StoreState.beside, StoreState.counts_in, StoreState.limit_of, Room.room_for}
use Rattle.replay_model.specs.Versions.{meaning_by}
use Rattle.holders.specs.Holders.{ByVersion}
use Rattle.holdings.specs.{InStep.AreInStep, Keeping.seen, Swapped.HasSwapped}
use Rattle.fetched_pages.specs.{Fetched.bytes_of, Meaning.meaning}
use Rattle.holders.proofs.ByVersion.{moved_by_two, moves, undone}
use Rattle.holdings.proofs.{Stepping.step_tells, Stepping.page_seen, Stepping.page_step, Stepping.undone_step, Exchanging.may_swap}
use Rattle.holdings.proofs.{Moving.are_stored, Moving.seen_again, Replacing.placed_freed, Rooming.countable_kept, Rooming.room_is}
use Rattle.holdings.proofs.holdings.Holdings.hold.Goals.{After-remove, After-take_back-in-Err}
use Rattle.fetched_pages.proofs.Fit.{fetched_short}
use Rattle.holdings.proofs.holdings.Holdings.hold.Goals as goal

-- the triples of the page came
swapped : (c : After-remove) → HasSwapped c.args.telling c.place.new.self c.exchange_page.new.store c.keys_of.result.rising.now c.args.wanted (bytes_of c.args.page.now) c.in-Ok-exchange_page.field-0
swapped c = c.in-Ok-exchange_page.ensures.exchanged.done

after : (c : After-remove) → AreInStep c.replace.new.store c.remove.new.self c.replace.new.table.records
after c =
    rw c.replace.ensures.records
    (page_step c.self.inside.store c.self.inside.holders c.make_room.new.table.records c.args.wanted.id (rw c.make_room.ensures.records c.self.invariant) c.place.new.self c.exchange_page.new.store c.replace.new.store
    c.args.after.state c.args.after.reconciled c.args.wanted.rev (record { piece = c.in-Ok-place.piece; keys = c.in-Ok-exchange_page.field-0.keys; times = c.in-Ok-exchange_page.field-0.times }) (bytes_of c.args.page.now) (meaning c.args.wanted.version c.args.wanted.id c.args.wanted.rev (bytes_of c.args.page.now)) c.keys_of.result.rising.now c.args.wanted.version
    (rw c.bytes.ensures at c.in-Ok-place.ensures.ok) c.place.ensures.kept c.place.ensures.counts c.exchange_page.ensures.rest.keeps c.exchange_page.ensures.rest.beside c.replace.ensures.counts c.replace.ensures.kept c.replace.ensures.freed
    c.remove.new.self (moves c.self.inside.holders c.add.new.self c.remove.new.self c.args.wanted.id c.args.wanted.version c.other.result c.in-Ok.ensures.ok c.other.ensures c.remove.ensures)
    (swapped c).timed c.replace.ensures.sound c.keys_of.ensures (swapped c).counts (swapped c).keys_are (λ t. refl))

refused : (c : After-take_back-in-Err) → AreInStep c.free.new.self c.take_back-in-Err.new.self c.make_room.new.table.records
refused c =
    subst (λ (i : ByVersion). AreInStep c.free.new.self i c.make_room.new.table.records) (sym (undone c.self.inside.holders c.add.new.self c.take_back-in-Err.new.self _ c.args.wanted.id c.args.wanted.version c.in-Ok.added c.self.invariant.by c.in-Ok.ensures.ok c.in-Ok.ensures.added c.take_back-in-Err.ensures))
    (undone_step c.self.inside.store c.self.inside.holders c.make_room.new.table.records (rw c.make_room.ensures.records c.self.invariant) c.place.new.self c.exchange_page.new.store c.free.new.self c.in-Ok-place.piece _
    c.in-Ok-place.ensures.ok c.place.ensures.kept c.place.ensures.counts c.exchange_page.ensures.rest.keeps c.exchange_page.ensures.rest.beside c.in-Err.ensures.exchanged.err c.free.ensures.sound c.free.ensures.counts c.free.ensures.kept c.free.ensures.freed)

pub place-requires : goal.place-requires
place-requires c = record { short = rw c.bytes.ensures (fetched_short _ _ c.args.wanted.version c.args.wanted.id c.args.wanted.rev c.args.page.now c.requires) }

pub exchange_page-requires-clause-countable : goal.exchange_page-requires-clause-countable
exchange_page-requires-clause-countable c =
    let few : map.len c.make_room.new.table.records < 18446744073709551615 = omega arith in
    λ t. countable_kept (meaning_by meaning c.self.inside.holders.by_two) c.self.inside.store c.make_room.new.table.records (rw c.make_room.ensures.records c.self.invariant.kept) _ c.place.ensures.counts _ few t

pub exchange_page-requires-clause-stored : goal.exchange_page-requires-clause-stored
exchange_page-requires-clause-stored c =
    are_stored (meaning_by meaning c.self.inside.holders.by_two) c.self.inside.store c.place.new.self c.make_room.new.table.records c.args.wanted.id _ (rw c.make_room.ensures.records c.self.invariant.kept) c.place.ensures.kept c.keys_of.ensures

pub exchange_page-requires-clause-may_swap : goal.exchange_page-requires-clause-may_swap
exchange_page-requires-clause-may_swap c =
    may_swap c.self.inside.store c.place.new.self c.self.inside.holders c.self.inside.table.records c.args.wanted c.args.page.now _ _
    c.self.invariant c.place.ensures.kept c.place.ensures.counts
    (rw c.make_room.ensures.records at c.keys_of.ensures) (rw c.make_room.ensures.records at c.times_of.ensures) (rw (← c.self.view_is) at c.requires)

pub invariant_of-self : goal.invariant_of-self
invariant_of-self c = rw c.make_room.ensures.records c.self.invariant

pub invariant_of-self-in_default : goal.invariant_of-self-in_default
invariant_of-self-in_default c = rw c.in_default.ensures.err (rw c.make_room.ensures.records c.self.invariant)

pub invariant_of-self-in_default-place : goal.invariant_of-self-in_default-place
invariant_of-self-in_default-place c = (let in_step : AreInStep c.place.new.self c.take_back.new.self c.make_room.new.table.records =
    subst (λ (i : ByVersion). AreInStep c.place.new.self i c.make_room.new.table.records) (sym (undone c.self.inside.holders c.add.new.self c.take_back.new.self _ c.args.wanted.id c.args.wanted.version c.in-Ok.added c.self.invariant.by c.in-Ok.ensures.ok c.in-Ok.ensures.added c.take_back.ensures))
    (subst (λ (s : StoreState). AreInStep s c.self.inside.holders c.make_room.new.table.records) (sym c.in_default-place.ensures.err) (rw c.make_room.ensures.records c.self.invariant)) in in_step)

pub invariant_of-self-in-Ok-exchange_page : goal.invariant_of-self-in-Ok-exchange_page
invariant_of-self-in-Ok-exchange_page c = (after c)

pub invariant_of-self-in-Err : goal.invariant_of-self-in-Err
invariant_of-self-in-Err c = refused c

pub returns-in_default-place-clause-err : goal.returns-in_default-place-clause-err
returns-in_default-place-clause-err c = rw (← c.self.view_is) (λ i. record {
  records = seen (c.in_default-place.ensures.err i) (c.make_room.ensures.records i);
  limit = limit_of (c.in_default-place.ensures.err i);
  by_two = ap (λ (ids : ByVersion). ids.by_two) (undone c.self.inside.holders c.add.new.self c.take_back.new.self _ c.args.wanted.id c.args.wanted.version c.in-Ok.added c.self.invariant.by c.in-Ok.ensures.ok c.in-Ok.ensures.added c.take_back.ensures) i;
})

pub returns-in-Ok-exchange_page-clause-ok : goal.returns-in-Ok-exchange_page-clause-ok
returns-in-Ok-exchange_page-clause-ok c = rw (← c.self.view_is, ← c.make_room.ensures.records) (ap (seen c.replace.new.store) c.replace.ensures.records
    ∙ page_seen c.self.inside.store c.self.inside.holders c.make_room.new.table.records c.args.wanted.id (rw c.make_room.ensures.records c.self.invariant) c.place.new.self c.exchange_page.new.store c.replace.new.store
    c.args.after.state c.args.after.reconciled c.args.wanted.rev (record { piece = c.in-Ok-place.piece; keys = c.in-Ok-exchange_page.field-0.keys; times = c.in-Ok-exchange_page.field-0.times }) (bytes_of c.args.page.now) (meaning c.args.wanted.version c.args.wanted.id c.args.wanted.rev (bytes_of c.args.page.now)) c.keys_of.result.rising.now c.args.wanted.version
    (rw c.bytes.ensures at c.in-Ok-place.ensures.ok) c.place.ensures.kept c.place.ensures.counts c.exchange_page.ensures.rest.keeps c.exchange_page.ensures.rest.beside c.replace.ensures.counts c.replace.ensures.kept c.replace.ensures.freed)

pub returns-in-Ok-exchange_page-clause-by_two : goal.returns-in-Ok-exchange_page-clause-by_two
returns-in-Ok-exchange_page-clause-by_two c = rw (← c.self.view_is)
    (ap (λ (ids : ByVersion). ids.by_two) (moves c.self.inside.holders c.add.new.self c.remove.new.self c.args.wanted.id c.args.wanted.version c.other.result c.in-Ok.ensures.ok c.other.ensures c.remove.ensures)
    ∙ moved_by_two c.self.inside.holders c.args.wanted.id c.args.wanted.version)

pub returns-in-Ok-exchange_page-clause-limit : goal.returns-in-Ok-exchange_page-clause-limit
returns-in-Ok-exchange_page-clause-limit c = rw (← c.self.view_is) (c.replace.ensures.limit ∙ c.exchange_page.ensures.rest.limit ∙ c.place.ensures.limit)

pub returns-in-Ok-exchange_page-clause-within : goal.returns-in-Ok-exchange_page-clause-within
returns-in-Ok-exchange_page-clause-within c = rw (← c.self.view_is, ← c.make_room.ensures.records)
    (subst (λ n. n ≤ limit_of c.self.inside.store) (room_is (meaning_by meaning c.self.inside.holders.by_two) c.self.inside.store c.make_room.new.table.records (rw c.make_room.ensures.records c.self.invariant.kept) _ c.place.ensures.counts (meaning c.args.wanted.version c.args.wanted.id c.args.wanted.rev (bytes_of c.args.page.now)) _ (λ t. refl)) (subst (λ l. room_for (counts_in c.place.new.self) (meaning c.args.wanted.version c.args.wanted.id c.args.wanted.rev (bytes_of c.args.page.now)) ≤ l) c.place.ensures.limit (swapped c).within))

pub returns-in-Ok-exchange_page-clause-change : goal.returns-in-Ok-exchange_page-clause-change
returns-in-Ok-exchange_page-clause-change c = rw (← c.self.view_is)
    (step_tells c.self.inside.store c.replace.new.store c.self.inside.holders c.remove.new.self c.self.inside.table.records c.replace.new.table.records c.self.invariant (after c)
    (counts_in c.place.new.self) (counts_in c.exchange_page.new.store) c.place.ensures.counts (sym c.replace.ensures.counts) c.args.telling c.in-Ok-exchange_page.field-0.change (swapped c).told)

pub returns-in-Err-clause-limit : goal.returns-in-Err-clause-limit
returns-in-Err-clause-limit c = rw (← c.self.view_is) (c.free.ensures.limit ∙ c.exchange_page.ensures.rest.limit ∙ c.place.ensures.limit)

pub returns-in-Err-clause-err : goal.returns-in-Err-clause-err
returns-in-Err-clause-err c = rw (← c.self.view_is) (λ i. record {
  records = (seen_again (beside c.self.inside.store) (beside c.free.new.self) c.make_room.new.table.records
      (placed_freed (beside c.self.inside.store) (beside c.place.new.self) (beside c.exchange_page.new.store) (beside c.free.new.self) c.in-Ok-place.piece _
      c.in-Ok-place.ensures.ok c.exchange_page.ensures.rest.beside c.free.ensures.freed)
      ∙ ap (seen c.self.inside.store) c.make_room.ensures.records) i;
  limit = (c.free.ensures.limit ∙ c.exchange_page.ensures.rest.limit ∙ c.place.ensures.limit) i;
  by_two = ap (λ (ids : ByVersion). ids.by_two) (undone c.self.inside.holders c.add.new.self c.take_back-in-Err.new.self _ c.args.wanted.id c.args.wanted.version c.in-Ok.added c.self.invariant.by c.in-Ok.ensures.ok c.in-Ok.ensures.added c.take_back-in-Err.ensures) i;
})

pub returns-in-Err-clause-full : goal.returns-in-Err-clause-full
returns-in-Err-clause-full c = rw (← c.self.view_is, ← c.make_room.ensures.records) (λ is.
    let same : c.in-Err.refused ≡ Full = cc in
    let over : limit_of c.place.new.self < room_for (counts_in c.place.new.self) (meaning c.args.wanted.version c.args.wanted.id c.args.wanted.rev (bytes_of c.args.page.now)) =
    c.in-Err.ensures.exchanged.full (ap (λ fault. Err fault) same) in
    subst (λ n. limit_of c.self.inside.store < n) (room_is (meaning_by meaning c.self.inside.holders.by_two) c.self.inside.store c.make_room.new.table.records (rw c.make_room.ensures.records c.self.invariant.kept) _ c.place.ensures.counts (meaning c.args.wanted.version c.args.wanted.id c.args.wanted.rev (bytes_of c.args.page.now)) _ (λ t. refl))
    (subst (λ l. l < room_for (counts_in c.place.new.self) (meaning c.args.wanted.version c.args.wanted.id c.args.wanted.rev (bytes_of c.args.page.now))) c.place.ensures.limit over))
