-- The triples of the page change, or all is as it was.
use Rattle.std.proofs.Common.{◌≡◌, ◌<◌, ◌≤◌, Err, Option, refl, sym, ap, subst, ◌∙◌, arith}
use Rattle.std.specs.FinMap as map
use Rattle.sorted_sets.specs.Rising.{has}
use Rattle.sorted_sets.proofs.Rising.{has-sorted}
use Rattle.rdf_term.specs.Order.{triple_cmp, triple_cmp-total}
use Rattle.term_pool.specs.declared.fault.PoolFault.TheVariants.{Full}
use Rattle.entity_state.specs.declared.record.Held.{Held}
use Rattle.triple_store.specs.StoreState.{beside, counts_in, limit_of}
use Rattle.triple_store.proofs.Whole.{IsWhole, whole, whole_full}
use Rattle.replay_model.specs.{Records.Bytes, Union.triples_held, Versions.meaning_by}
use Rattle.holders.specs.Holders.{ByVersion}
use Rattle.holdings.specs.{InStep.AreInStep, Keeping.seen}
use Rattle.fetched_pages.specs.Meaning.{meaning}
use Rattle.holders.proofs.ByVersion.{moved_by_two, moves, undone}
use Rattle.holdings.proofs.Stepping.{step_tells, again_seen, again_step, links, refused_step}
use Rattle.holdings.proofs.{Moving.are_stored, Moving.held_is, Moving.seen_again, Rooming.countable_kept, Rooming.room_is}
use Rattle.holdings.proofs.holdings.Holdings.remap.Goals.{After-remove, After-take_back}
use Rattle.holdings.proofs.holdings.Holdings.remap.Goals as goal

came : (c : After-remove) → IsWhole c.args.telling c.self.inside.store c.exchange.new.self c.keys_of.result.rising.now c.in-Ok.triples c.in-Ok-exchange.field-0
came c =
    whole c.self.inside.store c.keys_of.result.rising.now c.in-Ok.triples c.self.invariant.kept.sound
    (are_stored (meaning_by meaning c.self.inside.holders.by_two) c.self.inside.store c.self.inside.store c.self.inside.table.records c.args.id _ c.self.invariant.kept (λ _ _ is. is) c.keys_of.ensures)
    c.args.telling c.exchange.new.self c.in-Ok-exchange.field-0 c.in-Ok-exchange.ensures.exchanged.done

after : (c : After-remove) → AreInStep c.exchange.new.self c.remove.new.self c.set_keys.new.table.records
after c =
    rw c.set_keys.ensures
    (again_step c.self.inside.store c.self.inside.holders c.self.inside.table.records c.args.id c.self.invariant c.exchange.new.self
    c.in-Ok-exchange.field-0.keys c.args.version (sym (links c.self.inside.store c.self.inside.table.records c.args.id) ∙ (rw (← c.self.view_is) at c.requires)) c.exchange.ensures.rest.beside c.remove.new.self c.keys_of.result.rising.now c.in-Ok.triples
    (moves c.self.inside.holders c.add.new.self c.remove.new.self c.args.id c.args.version c.other.result c.in-Ok-add.ensures.ok c.other.ensures c.remove.ensures)
    c.exchange.ensures.rest.sound c.keys_of.ensures (came c).counts c.exchange.ensures.rest.keeps (came c).keys_are
    (λ t. sym (has-sorted triple_cmp-total t c.in-Ok.triples) ∙ ap (has triple_cmp t) c.in-Ok.ensures.value))

refused : (c : After-take_back) → AreInStep c.exchange.new.self c.take_back.new.self c.self.inside.table.records
refused c =
    subst (λ (i : ByVersion). AreInStep c.exchange.new.self i c.self.inside.table.records) (sym (undone c.self.inside.holders c.add.new.self c.take_back.new.self _ c.args.id c.args.version c.in-Ok-add.added c.self.invariant.by c.in-Ok-add.ensures.ok c.in-Ok-add.ensures.added c.take_back.ensures)) (refused_step c.self.inside.store c.self.inside.holders c.self.inside.table.records c.self.invariant c.exchange.new.self
    c.exchange.ensures.rest.sound c.in-Err.ensures.exchanged.err c.exchange.ensures.rest.keeps c.exchange.ensures.rest.beside)

pub exchange-requires-clause-may_come : goal.exchange-requires-clause-may_come
exchange-requires-clause-may_come c = record {
  fit = c.in-Ok.ensures.fit;
  countable =
      let few : map.len c.self.inside.table.records < 18446744073709551615 = omega arith in
      λ t _. countable_kept (meaning_by meaning c.self.inside.holders.by_two) c.self.inside.store c.self.inside.table.records c.self.invariant.kept _ refl _ few t;
}

pub exchange-requires-clause-stored : goal.exchange-requires-clause-stored
exchange-requires-clause-stored c = are_stored (meaning_by meaning c.self.inside.holders.by_two) c.self.inside.store c.self.inside.store c.self.inside.table.records c.args.id _ c.self.invariant.kept (λ _ _ is. is) c.keys_of.ensures

pub set_keys-requires : goal.set_keys-requires
set_keys-requires c = sym (links c.self.inside.store c.self.inside.table.records c.args.id) ∙ (rw (← c.self.view_is) at c.requires)

pub invariant_of-self : goal.invariant_of-self
invariant_of-self c = rw c.in_default-add.ensures.err c.self.invariant

pub invariant_of-self-in-Ok-exchange : goal.invariant_of-self-in-Ok-exchange
invariant_of-self-in-Ok-exchange c = after c

pub invariant_of-self-in-Err : goal.invariant_of-self-in-Err
invariant_of-self-in-Err c = refused c

pub returns-in-Ok-exchange-clause-records : goal.returns-in-Ok-exchange-clause-records
returns-in-Ok-exchange-clause-records c = rw (← c.self.view_is) (ap (seen c.exchange.new.self) c.set_keys.ensures
    ∙ again_seen c.self.inside.store c.self.inside.holders c.self.inside.table.records c.args.id c.self.invariant c.exchange.new.self
    c.in-Ok-exchange.field-0.keys c.args.version (sym (links c.self.inside.store c.self.inside.table.records c.args.id) ∙ (rw (← c.self.view_is) at c.requires)) c.exchange.ensures.rest.beside)

pub returns-in-Ok-exchange-clause-by_two : goal.returns-in-Ok-exchange-clause-by_two
returns-in-Ok-exchange-clause-by_two c = rw (← c.self.view_is)
    (ap (λ (ids : ByVersion). ids.by_two) (moves c.self.inside.holders c.add.new.self c.remove.new.self c.args.id c.args.version c.other.result c.in-Ok-add.ensures.ok c.other.ensures c.remove.ensures)
    ∙ moved_by_two c.self.inside.holders c.args.id c.args.version)

pub returns-in-Ok-exchange-clause-limit : goal.returns-in-Ok-exchange-clause-limit
returns-in-Ok-exchange-clause-limit c = rw (← c.self.view_is) c.exchange.ensures.rest.limit

pub returns-in-Ok-exchange-clause-within : goal.returns-in-Ok-exchange-clause-within
returns-in-Ok-exchange-clause-within c = rw (← c.self.view_is)
    (subst (λ n. n ≤ limit_of c.self.inside.store) (room_is (meaning_by meaning c.self.inside.holders.by_two) c.self.inside.store c.self.inside.table.records c.self.invariant.kept _ refl c.in-Ok.triples _
    (λ t. sym (has-sorted triple_cmp-total t c.in-Ok.triples) ∙ ap (has triple_cmp t) c.in-Ok.ensures.value
    ∙ ap (λ (h : Option (Held Bytes)). has triple_cmp t (triples_held (meaning c.args.version) c.args.id h)) (sym (held_is c.self.inside.store c.self.inside.table.records c.args.id)))) (came c).within)

pub returns-in-Ok-exchange-clause-change : goal.returns-in-Ok-exchange-clause-change
returns-in-Ok-exchange-clause-change c = rw (← c.self.view_is)
    (step_tells c.self.inside.store c.exchange.new.self c.self.inside.holders c.remove.new.self c.self.inside.table.records c.set_keys.new.table.records c.self.invariant (after c)
    (counts_in c.self.inside.store) (counts_in c.exchange.new.self) refl refl c.args.telling c.in-Ok-exchange.field-0.change (came c).told)

pub returns-in-Err-clause-limit : goal.returns-in-Err-clause-limit
returns-in-Err-clause-limit c = rw (← c.self.view_is) c.exchange.ensures.rest.limit

pub returns-in-Err-clause-err : goal.returns-in-Err-clause-err
returns-in-Err-clause-err c = rw (← c.self.view_is) (λ i. record {
  records = seen_again (beside c.self.inside.store) (beside c.exchange.new.self) c.self.inside.table.records c.exchange.ensures.rest.beside i;
  limit = c.exchange.ensures.rest.limit i;
  by_two = ap (λ (ids : ByVersion). ids.by_two) (undone c.self.inside.holders c.add.new.self c.take_back.new.self _ c.args.id c.args.version c.in-Ok-add.added c.self.invariant.by c.in-Ok-add.ensures.ok c.in-Ok-add.ensures.added c.take_back.ensures) i;
})

pub returns-in-Err-clause-records : goal.returns-in-Err-clause-records
returns-in-Err-clause-records c = rw (← c.self.view_is) (seen_again (beside c.self.inside.store) (beside c.exchange.new.self) c.self.inside.table.records c.exchange.ensures.rest.beside)

pub returns-in-Err-clause-full : goal.returns-in-Err-clause-full
returns-in-Err-clause-full c = rw (← c.self.view_is) (λ is.
    let same : c.in-Err.refused ≡ Full = cc in
    subst (λ n. limit_of c.self.inside.store < n) (room_is (meaning_by meaning c.self.inside.holders.by_two) c.self.inside.store c.self.inside.table.records c.self.invariant.kept _ refl c.in-Ok.triples _
    (λ t. sym (has-sorted triple_cmp-total t c.in-Ok.triples) ∙ ap (has triple_cmp t) c.in-Ok.ensures.value
    ∙ ap (λ (h : Option (Held Bytes)). has triple_cmp t (triples_held (meaning c.args.version) c.args.id h)) (sym (held_is c.self.inside.store c.self.inside.table.records c.args.id)))) (whole_full c.self.inside.store c.keys_of.result.rising.now c.in-Ok.triples c.self.invariant.kept.sound
    (are_stored (meaning_by meaning c.self.inside.holders.by_two) c.self.inside.store c.self.inside.store c.self.inside.table.records c.args.id _ c.self.invariant.kept (λ _ _ is. is) c.keys_of.ensures)
    (c.in-Err.ensures.exchanged.full (ap (λ fault. Err fault) same))))

pub returns-in-Ok-exchange-clause-triples : goal.returns-in-Ok-exchange-clause-triples
returns-in-Ok-exchange-clause-triples c = rw (← c.self.view_is) (record {
  meant = c.in-Ok.ensures.value ∙ ap (triples_held (meaning c.args.version) c.args.id) (sym (held_is c.self.inside.store c.self.inside.table.records c.args.id));
  fit = c.in-Ok.ensures.fit;
})
