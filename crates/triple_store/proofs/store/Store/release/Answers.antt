-- The triples of all keys that the owner had lose it.
use Rattle.std.proofs.Common.{◌+◌, length, refl, arith}
use Rattle.triple_catalog.proofs.{Costs.at_most, Costs.no_change, Exchanged.released}
use Rattle.triple_store.specs.Telling.{if_told}
use Rattle.triple_store.proofs.{Costs.counted, Costs.told_between, Costs.told_fewer, Differing.is_released}
use Rattle.triple_store.proofs.store.Store.release.Goals as goal

pub returns-clause-released : goal.returns-clause-released
returns-clause-released g c =
    let given = rw (← c.self.view_is) at c.requires in
    rw (← c.self.view_is) (record {
      ok = released _ _ _ _ c.args.old.rising.now c.remove_beside.ensures.removes;
      told = is_released _ _ c.args.old.rising.now _ _ c.self.invariant given.stored.there c.remove_beside.ensures.removes c.args.telling _ c.in_ok-change.ensures.lines;
      err = tt;
      free = λ quiet. refl;
    })

pub returns-clause-rest : goal.returns-clause-rest
returns-clause-rest g c = rw (← c.self.view_is) (record {
  keeps = c.remove_beside.ensures.removes.keeps;
  beside = c.remove_beside.ensures.removes.beside;
  limit = c.remove_beside.ensures.removes.limit;
  sound = c.remove_beside.ensures.removes.stored;
})

pub returns-clause-cost : goal.returns-clause-cost
returns-clause-cost g c =
    let had = length c.args.old.rising.now in
    rw (← c.self.view_is) (counted _ _ _ _ _ _ _ _ c.self.invariant c.remove_beside.ensures.removes.stored
    (at_most _ _ 0 0 (if_told c.args.telling had + (0 + had)) (if_told c.args.telling had + had) _ _ (omega arith) (omega arith)
    (told_between _ _ _ 0 (if_told c.args.telling (0 + had)) (if_told c.args.telling had) had had _ _ _ _ (no_change _ _) c.change_if.ensures.cost c.remove_beside.ensures.cost (told_fewer c.args.telling (0 + had) had (omega arith)) (omega arith))))

pub returns-in_err-change-clause-cost : goal.returns-in_err-change-clause-cost
returns-in_err-change-clause-cost g c =
    let had = length c.args.old.rising.now in
    let fewer = told_fewer c.args.telling (0 + had) had (omega arith) in
    rw (← c.self.view_is) (counted _ _ _ _ _ _ _ _ c.self.invariant c.self.invariant (at_most _ _ 0 0 (if_told c.args.telling (0 + had)) (if_told c.args.telling had + had) _ _ (omega arith) (omega arith) c.change_if.ensures.cost))
