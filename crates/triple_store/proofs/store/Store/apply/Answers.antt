-- What comes is put in the place of nothing, and then what goes has one owner less.
use Rattle.std.proofs.Common.{◌≡◌, ◌+◌, ◌≤◌, [], ◌∷◌, List, length, ◌∙◌, ap, refl, subst, sym, arith, true≢false}
use Rattle.std.specs.Prelude.{Result, Ok, Err}
use Rattle.term_pool.specs.declared.fault.PoolFault.{PoolFault}
use Rattle.std.proofs.lemmas.Grind.{common_steps}
use Rattle.sorted_sets.specs.Rising.{has}
use Rattle.rdf_term.specs.{declared.triple.Triple.Triple, Order.triple_cmp}
use Rattle.triple_catalog.specs.{Moves.Loses, Room.room_for, Stored.counts_in, Stored.limit_of}
use Rattle.triple_catalog.proofs.{Costs.at_most, Rooming.same_fault}
use Rattle.triple_store.proofs.{Becoming.comes_whole, Costs.counted, Costs.patched}
use Rattle.triple_store.proofs.Patched.{applied, both_keep, no_keys, only_lost, still_owned}
use Rattle.triple_store.proofs.Stocked.{terms_counted}
use Rattle.triple_store.proofs.store.Store.apply.Goals as goal

-- what is done has no fault
no_fault : (fault : PoolFault) → ◌≡◌ {A = Result (Unit {0}) PoolFault} (Ok tt) (Err fault) → ⊥
no_fault fault e = cc

-- nothing comes
nothing : (ts : List Triple) → length ts ≡ 0 → ts ≡ []
nothing [] e = refl
nothing (t ∷ ts) e = absurd (omega (arith, e))

pub returns-then-is_empty-clause-patched : goal.returns-then-is_empty-clause-patched
returns-then-is_empty-clause-patched g c =
    let st = c.self.inside.catalog in
    let r = c.self.inside.region in
    let none : c.args.patch.now.adds ≡ [] = nothing c.args.patch.now.adds (grind (arith, common_steps)) in
    rw (← c.self.view_is) (record {
      ok = only_lost st r c.remove_all.new.self c.remove_all.new.region c.args.patch.now.removes c.args.patch.now.adds none (subst (Loses st r c.remove_all.new.self c.remove_all.new.region) c.items-removes.ensures.items c.remove_all.ensures.loses);
      err = tt;
      full = λ e. absurd cc;
      within = subst (λ (ts : List Triple). room_for (counts_in st r) ts ≤ limit_of st) (sym none) (omega (arith, terms_counted st r c.self.invariant, c.self.invariant.lies.few));
      free = λ empty. refl;
    })

pub returns-then-is_empty-clause-rest : goal.returns-then-is_empty-clause-rest
returns-then-is_empty-clause-rest g c = rw (← c.self.view_is) (record {
  keeps = c.remove_all.ensures.loses.keeps;
  beside = c.remove_all.ensures.loses.beside;
  limit = c.remove_all.ensures.loses.limit;
  sound = c.remove_all.ensures.loses.stored;
})

pub returns-then-is_empty-clause-cost : goal.returns-then-is_empty-clause-cost
returns-then-is_empty-clause-cost g c =
    rw (← c.self.view_is) (counted _ _ _ _ _ _ _ _ c.self.invariant c.remove_all.ensures.loses.stored
    (at_most _ _ 0 (length c.args.patch.now.adds) (length c.items-removes.result.now) (length c.args.patch.now.adds + length c.args.patch.now.removes) _ _ (omega arith) (omega (arith, ap length c.items-removes.ensures.items)) c.remove_all.ensures.cost))

-- the triples come for an owner that had none
pub exchange-requires-clause-may_come : goal.exchange-requires-clause-may_come
exchange-requires-clause-may_come g c = rw (c.in-Ok.ensures ∙ c.items-2.ensures.items) c.requires.may_come

pub exchange-requires-clause-stored : goal.exchange-requires-clause-stored
exchange-requires-clause-stored g c = rw c.none.ensures (record { rising = tt; there = λ key h. absurd (true≢false (sym h)) })

pub remove_all-requires-in-Ok-exchange-clause-there : goal.remove_all-requires-in-Ok-exchange-clause-there
remove_all-requires-in-Ok-exchange-clause-there g c =
    let old = c.args.self.now in
    let adds = c.args.patch.now.adds in
    let mid = rw (← c.self-2.view_is, c.none.ensures, c.in-Ok.ensures ∙ c.items-2.ensures.items) at c.in-Ok-exchange.ensures.exchanged in
    let its = mid.done [] adds (comes_whole old.catalog old.texts [] adds [] (no_keys old.catalog old.texts)) in
    λ t h. still_owned old.catalog old.texts c.self-2.inside.catalog c.self-2.inside.region adds t its.counts (c.requires.may_go t (sym (ap (has triple_cmp t) c.items-removes.ensures.items) ∙ h))

pub returns-in-Ok-exchange-clause-patched : goal.returns-in-Ok-exchange-clause-patched
returns-in-Ok-exchange-clause-patched g c =
    let old = c.args.self.now in
    let adds = c.args.patch.now.adds in
    let mid = rw (← c.self-2.view_is, c.none.ensures, c.in-Ok.ensures ∙ c.items-2.ensures.items) at c.in-Ok-exchange.ensures.exchanged in
    let its = mid.done [] adds (comes_whole old.catalog old.texts [] adds [] (no_keys old.catalog old.texts)) in
    let loses = subst (Loses c.self-2.inside.catalog c.self-2.inside.region c.remove_all-in-Ok-exchange.new.self c.remove_all-in-Ok-exchange.new.region) c.items-removes.ensures.items c.remove_all-in-Ok-exchange.ensures.loses in
    record {
      ok = applied old.catalog old.texts c.self-2.inside.catalog c.self-2.inside.region c.remove_all-in-Ok-exchange.new.self c.remove_all-in-Ok-exchange.new.region adds c.args.patch.now.removes its.counts loses;
      err = tt;
      full = λ e. absurd (no_fault _ e);
      within = its.within;
      free = λ empty. refl;
    }

pub returns-in-Ok-exchange-clause-rest : goal.returns-in-Ok-exchange-clause-rest
returns-in-Ok-exchange-clause-rest g c =
    let old = c.args.self.now in
    let rest = rw (← c.self-2.view_is) at c.exchange.ensures.rest in
    let loses = c.remove_all-in-Ok-exchange.ensures.loses in
    record {
      keeps = both_keep old.catalog old.texts c.self-2.inside.catalog c.self-2.inside.region c.remove_all-in-Ok-exchange.new.self c.remove_all-in-Ok-exchange.new.region _ rest.keeps loses;
      beside = λ piece. loses.beside piece ∙ rest.beside piece;
      limit = loses.limit ∙ rest.limit;
      sound = loses.stored;
    }

pub returns-in-Ok-exchange-clause-cost : goal.returns-in-Ok-exchange-clause-cost
returns-in-Ok-exchange-clause-cost g c =
    let old = c.args.self.now in
    let adds = c.args.patch.now.adds in
    let comes = comes_whole old.catalog old.texts [] adds [] (no_keys old.catalog old.texts) in
    let first = (rw (← c.self-2.view_is, c.none.ensures, c.in-Ok.ensures ∙ c.items-2.ensures.items) at c.exchange.ensures.cost) [] adds comes in
    patched _ _ _ (length adds) (length adds) (0 + (length adds + 0)) (length c.args.patch.now.removes) _ _ _ refl (omega arith) first
    (rw (sym c.items-removes.ensures.items) (counted _ _ _ _ _ _ _ _ c.self-2.invariant c.remove_all-in-Ok-exchange.ensures.loses.stored c.remove_all-in-Ok-exchange.ensures.cost))

-- no room, or no memory
pub returns-clause-patched : goal.returns-clause-patched
returns-clause-patched g c =
    let old = c.args.self.now in
    let adds = c.args.patch.now.adds in
    let mid = rw (c.none.ensures, c.in-Ok.ensures ∙ c.items-2.ensures.items) at c.in-Err.ensures.exchanged in
    record {
      ok = tt;
      err = mid.err;
      full = λ e. mid.full (same_fault c.in-Err.fault e) [] adds (comes_whole old.catalog old.texts [] adds [] (no_keys old.catalog old.texts));
      within = tt;
      free = λ none. mid.free (λ asked. absurd cc) refl none;
    }

pub returns-clause-cost : goal.returns-clause-cost
returns-clause-cost g c =
    let old = c.args.self.now in
    let adds = c.args.patch.now.adds in
    let comes = comes_whole old.catalog old.texts [] adds [] (no_keys old.catalog old.texts) in
    let first = (rw (c.none.ensures, c.in-Ok.ensures ∙ c.items-2.ensures.items) at c.exchange.ensures.cost) [] adds comes in
    at_most _ _ (length adds) (length adds) (0 + (length adds + 0)) (length adds + length c.args.patch.now.removes) _ _ (omega arith) (omega arith) first
