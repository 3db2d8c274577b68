-- The entity has other keys, and its set is what they stand for; or a fault changed nothing.
use Rattle.std.proofs.Common.{◌≡◌, ◌<◌, ◌≤◌, cond, Some, Err, List, sym, ap, subst, ◌∙◌, arith}
use Rattle.std.specs.Ordering.{eq_by_cmp}
use Rattle.entity_model.specs.{declared.id.EntityId.EntityId, EntityId.entity_cmp}
use Rattle.term_pool.specs.declared.fault.PoolFault.TheVariants.{Full}
use Rattle.triple_store.specs.{StoreState.limit_of, declared.telling.Telling.TheVariants.Nothing}
use Rattle.triple_store.proofs.Whole.{IsWhole, whole, whole_full}
use Rattle.slot_keys.specs.declared.keys.Keys.{Keys}
use Rattle.subgraph.specs.Graph.{IsInStep, keys_at, rising_keys, sets_in}
use Rattle.subgraph.proofs.Stepping.{are_stored, sets_same, sets_set, step_same, step_set}
use Rattle.subgraph.proofs.{Stored.may_come, Stored.room_is, graph.Graph.set.Goals.After-put}
use Rattle.subgraph.proofs.graph.Graph.set.Goals as goal

came : (c : After-put) → IsWhole Nothing c.self.inside.store c.exchange.new.self c.keys_of.result.rising.now c.args.new.now c.in-Ok.field-0
came c =
    whole c.self.inside.store c.keys_of.result.rising.now c.args.new.now c.self.invariant.sound
    (are_stored c.self.inside.store c.self.inside.owned.entries c.args.id c.keys_of.result.rising.now c.self.invariant
    (c.keys_of.ensures ∙ ap (λ (es : List (EntityId × Keys)). rising_keys (keys_at es c.args.id)) c.reserve.ensures.entries))
    Nothing c.exchange.new.self c.in-Ok.field-0 c.in-Ok.ensures.exchanged.done

pub exchange-requires-clause-may_come : goal.exchange-requires-clause-may_come
exchange-requires-clause-may_come c =
    may_come c.self.inside.store c.self.inside.owned.entries c.self.invariant (omega (arith, c.len-entities.ensures.len, c.len-entities.ensures.small)) c.args.new.now c.requires.fit

pub exchange-requires-clause-stored : goal.exchange-requires-clause-stored
exchange-requires-clause-stored c =
    are_stored c.self.inside.store c.self.inside.owned.entries c.args.id c.keys_of.result.rising.now c.self.invariant
    (c.keys_of.ensures ∙ ap (λ (es : List (EntityId × Keys)). rising_keys (keys_at es c.args.id)) c.reserve.ensures.entries)

pub invariant_of-self-in-Ok : goal.invariant_of-self-in-Ok
invariant_of-self-in-Ok c =
    step_set c.self.inside.store c.exchange.new.self c.self.inside.owned.entries c.put.new.owned.entries c.args.id c.in-Ok.field-0.keys c.args.new.now c.keys_of.result.rising.now c.self.invariant
    (λ y. c.put.ensures y ∙ ap (λ (es : List (EntityId × Keys)). cond (eq_by_cmp entity_cmp c.args.id y) (Some c.in-Ok.field-0.keys) (keys_at es y)) c.reserve.ensures.entries)
    (c.keys_of.ensures ∙ ap (λ (es : List (EntityId × Keys)). rising_keys (keys_at es c.args.id)) c.reserve.ensures.entries)
    (came c).counts (came c).keys_are c.exchange.ensures.rest.sound c.exchange.ensures.rest.keeps

pub invariant_of-self-in-Err : goal.invariant_of-self-in-Err
invariant_of-self-in-Err c = subst (IsInStep c.exchange.new.self) (sym c.reserve.ensures.entries)
    (step_same c.self.inside.store c.exchange.new.self c.self.inside.owned.entries c.self.invariant c.exchange.ensures.rest.sound c.exchange.ensures.rest.keeps c.in-Err.ensures.exchanged.err)

pub returns-in-Ok-clause-ok : goal.returns-in-Ok-clause-ok
returns-in-Ok-clause-ok c = rw (← c.self.view_is) (λ i. record {
  sets =
      sets_set c.self.inside.store c.exchange.new.self c.self.inside.owned.entries c.put.new.owned.entries c.args.id c.in-Ok.field-0.keys c.args.new.now c.keys_of.result.rising.now c.self.invariant
      (λ y. c.put.ensures y ∙ ap (λ (es : List (EntityId × Keys)). cond (eq_by_cmp entity_cmp c.args.id y) (Some c.in-Ok.field-0.keys) (keys_at es y)) c.reserve.ensures.entries)
      (c.keys_of.ensures ∙ ap (λ (es : List (EntityId × Keys)). rising_keys (keys_at es c.args.id)) c.reserve.ensures.entries)
      (came c).counts (came c).keys_are c.exchange.ensures.rest.sound c.exchange.ensures.rest.keeps i;
  limit = c.exchange.ensures.rest.limit i;
})

pub returns-in-Ok-clause-within : goal.returns-in-Ok-clause-within
returns-in-Ok-clause-within c = rw (← c.self.view_is)
    (subst (λ n. n ≤ limit_of c.self.inside.store) (room_is c.self.inside.store c.self.inside.owned.entries c.self.invariant c.args.new.now) (came c).within)

pub returns-in-Err-clause-err : goal.returns-in-Err-clause-err
returns-in-Err-clause-err c = rw (← c.self.view_is) (λ i. record {
  sets =
      (ap (sets_in c.exchange.new.self) c.reserve.ensures.entries
      ∙ sets_same c.self.inside.store c.exchange.new.self c.self.inside.owned.entries c.self.invariant c.exchange.ensures.rest.sound c.exchange.ensures.rest.keeps c.in-Err.ensures.exchanged.err) i;
  limit = c.exchange.ensures.rest.limit i;
})

pub returns-in-Err-clause-full : goal.returns-in-Err-clause-full
returns-in-Err-clause-full c = rw (← c.self.view_is) (λ is.
    let same : c.in-Err.fault ≡ Full = cc in
    subst (λ n. limit_of c.self.inside.store < n) (room_is c.self.inside.store c.self.inside.owned.entries c.self.invariant c.args.new.now) (whole_full c.self.inside.store c.keys_of.result.rising.now c.args.new.now c.self.invariant.sound
    (are_stored c.self.inside.store c.self.inside.owned.entries c.args.id c.keys_of.result.rising.now c.self.invariant
    (c.keys_of.ensures ∙ ap (λ (es : List (EntityId × Keys)). rising_keys (keys_at es c.args.id)) c.reserve.ensures.entries))
    (c.in-Err.ensures.exchanged.full (ap (λ fault. Err fault) same))))
