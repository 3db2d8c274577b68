-- The entity has no keys any more, and its triples have one owner less.
use Rattle.std.proofs.Common.{List, [], sym, subst}
use Rattle.rdf_term.specs.declared.triple.Triple.{Triple}
use Rattle.slot_keys.specs.declared.key.Key.{Key}
use Rattle.triple_store.specs.{Counts.Exchanges, StoreState.AreKeysOf, StoreState.counts_in, StoreState.limit_of}
use Rattle.subgraph.proofs.Stepping.{left_counted, none_counted, sets_left, step_left}
use Rattle.subgraph.proofs.graph.Graph.clear.Goals as goal

pub invariant_of-self : goal.invariant_of-self
invariant_of-self c =
    step_left c.self.inside.store c.release.new.self c.self.inside.owned.entries c.take_out.new.owned.entries c.args.id c.self.invariant c.take_out.ensures.after c.release.ensures.rest.sound c.release.ensures.rest.keeps
    (left_counted c.self.inside.store c.release.new.self c.self.inside.owned.entries c.args.id c.in-Some.keys c.self.invariant (sym c.in-Some.ensures.before)
    (subst (λ (ks : List Key). (ts : List Triple) → AreKeysOf c.self.inside.store ks ts → Exchanges (counts_in c.self.inside.store) (counts_in c.release.new.self) ts []) c.slices.ensures c.in-Ok.ensures.released.ok))

pub invariant_of-self-in_default : goal.invariant_of-self-in_default
invariant_of-self-in_default c =
    step_left c.self.inside.store c.self.inside.store c.self.inside.owned.entries c.take_out.new.owned.entries c.args.id c.self.invariant c.take_out.ensures.after c.self.invariant.sound (record { kept = λ key t is _. is })
    (none_counted c.self.inside.store c.self.inside.owned.entries c.args.id c.self.invariant (sym c.in_default.ensures.before))

pub returns-in-Ok : goal.returns-in-Ok
returns-in-Ok c = rw (← c.self.view_is) (λ i. record {
  sets =
      sets_left c.self.inside.store c.release.new.self c.self.inside.owned.entries c.take_out.new.owned.entries c.args.id c.self.invariant c.take_out.ensures.after c.release.ensures.rest.sound c.release.ensures.rest.keeps
      (left_counted c.self.inside.store c.release.new.self c.self.inside.owned.entries c.args.id c.in-Some.keys c.self.invariant (sym c.in-Some.ensures.before)
      (subst (λ (ks : List Key). (ts : List Triple) → AreKeysOf c.self.inside.store ks ts → Exchanges (counts_in c.self.inside.store) (counts_in c.release.new.self) ts []) c.slices.ensures c.in-Ok.ensures.released.ok)) i;
  limit = c.release.ensures.rest.limit i;
})

pub returns-in_default : goal.returns-in_default
returns-in_default c = rw (← c.self.view_is) (λ i. record {
  sets =
      sets_left c.self.inside.store c.self.inside.store c.self.inside.owned.entries c.take_out.new.owned.entries c.args.id c.self.invariant c.take_out.ensures.after c.self.invariant.sound (record { kept = λ key t is _. is })
      (none_counted c.self.inside.store c.self.inside.owned.entries c.args.id c.self.invariant (sym c.in_default.ensures.before)) i;
  limit = limit_of c.self.inside.store;
})
