-- The triple goes from each index in its turn.
use Rattle.std.proofs.Common.{◌∙◌, length, ap, arith}
use Rattle.std.specs.Set.{remove_key}
use Rattle.block_index.specs.Blocks.{keys_of}
use Rattle.slot_keys.specs.Keys.{same_key, turned}
use Rattle.slot_index.proofs.Turning.{IsOrders-remove, length-turned, same_orders}
use Rattle.slot_index.proofs.orders.Orders.remove.Goals as goal

pub invariant_of-self : goal.invariant_of-self
invariant_of-self g c =
    same_orders (remove_key (same_key c.args.key) (keys_of c.self.inside.subjects)) (remove_key (same_key (turned c.args.key)) (keys_of c.self.inside.predicates)) (remove_key (same_key (turned (turned c.args.key))) (keys_of c.self.inside.objects)) _ _ _
    (IsOrders-remove (keys_of c.self.inside.subjects) (keys_of c.self.inside.predicates) (keys_of c.self.inside.objects) c.args.key c.self.invariant)
    c.remove-there.ensures.keys
    (c.remove.ensures.keys ∙ ap (λ k. remove_key (same_key k) (keys_of c.self.inside.predicates)) c.turned-second.ensures.turned)
    (c.remove-2.ensures.keys ∙ ap (λ k. remove_key (same_key k) (keys_of c.self.inside.objects)) (c.turned-third.ensures.turned ∙ ap turned c.turned-second.ensures.turned))

pub returns-clause-cost : goal.returns-clause-cost
returns-clause-cost g c d below =
    let n = ap length c.self.view_is in
    let m = length-turned (keys_of c.self.inside.subjects) (keys_of c.self.inside.predicates) c.self.invariant.second in
    let o = length-turned (keys_of c.self.inside.predicates) (keys_of c.self.inside.objects) c.self.invariant.third in
    let a = c.remove-there.ensures.cost.1 d (omega arith) in
    let b = c.remove.ensures.cost.1 d (omega arith) in
    let e = c.remove-2.ensures.cost.1 d (omega arith) in
    omega arith
