-- What came into the first indexes goes again where a later one is refused.
use Rattle.std.proofs.Common.{◌∙◌, length, refl, sym, ap, arith}
use Rattle.std.specs.BTreeSet.{insert_key}
use Rattle.std.proofs.lemmas.Bool.{not-true}
use Rattle.sorted_sets.specs.Rising.{has}
use Rattle.block_index.specs.Blocks.{keys_of}
use Rattle.slot_keys.specs.Keys.{key_cmp, turned}
use Rattle.slot_index.proofs.Passing.{length-insert_key}
use Rattle.slot_index.proofs.Turning.{IsOrders-insert, has-turned, length-turned, same_orders, undone}
use Rattle.slot_index.proofs.orders.Orders.insert.Goals as goal

pub invariant_of-self-in-Err : goal.invariant_of-self-in-Err
invariant_of-self-in-Err g c =
    let absent = not-true (has key_cmp c.args.key (keys_of c.self.inside.subjects)) (sym c.in_ok-insert.ensures.answer ∙ c.if-not-branch.false) in
    same_orders (keys_of c.self.inside.subjects) (keys_of c.self.inside.predicates) (keys_of c.self.inside.objects) _ _ _ c.self.invariant
    (undone c.args.key (keys_of c.self.inside.subjects) (keys_of c.insert.new.self) (keys_of c.remove.new.self) absent c.in_ok-insert.ensures.keys c.remove.ensures.keys)
    (ap keys_of c.in-Err.ensures.err) refl

pub returns-in-Err-clause-err : goal.returns-in-Err-clause-err
returns-in-Err-clause-err g c =
    let absent = not-true (has key_cmp c.args.key (keys_of c.self.inside.subjects)) (sym c.in_ok-insert.ensures.answer ∙ c.if-not-branch.false) in
    undone c.args.key (keys_of c.self.inside.subjects) (keys_of c.insert.new.self) (keys_of c.remove.new.self) absent c.in_ok-insert.ensures.keys c.remove.ensures.keys
    ∙ c.self.view_is

pub returns-in-Err-clause-cost : goal.returns-in-Err-clause-cost
returns-in-Err-clause-cost g c d below =
    let n = ap length c.self.view_is in
    let m = length-turned (keys_of c.self.inside.subjects) (keys_of c.self.inside.predicates) c.self.invariant.second in
    let put = ap length c.in_ok-insert.ensures.keys in
    let more = length-insert_key key_cmp c.args.key (keys_of c.self.inside.subjects) in
    let a = c.insert.ensures.cost.1 d (omega arith) in
    let b = c.insert-2.ensures.cost.1 d (omega arith) in
    let e = c.remove.ensures.cost.1 d (omega arith) in
    omega arith

pub invariant_of-self-in-Err-insert : goal.invariant_of-self-in-Err-insert
invariant_of-self-in-Err-insert g c =
    let absent = not-true (has key_cmp c.args.key (keys_of c.self.inside.subjects)) (sym c.in_ok-insert.ensures.answer ∙ c.if-not-branch.false) in
    let fresh = ap (λ k. has key_cmp k (keys_of c.self.inside.predicates)) c.turned-second.ensures.turned ∙ has-turned (keys_of c.self.inside.subjects) (keys_of c.self.inside.predicates) c.self.invariant.second c.args.key ∙ absent in
    same_orders (keys_of c.self.inside.subjects) (keys_of c.self.inside.predicates) (keys_of c.self.inside.objects) _ _ _ c.self.invariant
    (undone c.args.key (keys_of c.self.inside.subjects) (keys_of c.insert.new.self) (keys_of c.remove-in-Err-insert-2.new.self) absent c.in_ok-insert.ensures.keys c.remove-in-Err-insert-2.ensures.keys)
    (undone c.turned-second.result (keys_of c.self.inside.predicates) (keys_of c.insert-2.new.self) (keys_of c.remove-in-Err-insert.new.self) fresh c.in_default.ensures.keys c.remove-in-Err-insert.ensures.keys)
    (ap keys_of c.in-Err-insert.ensures.err)

pub returns-in-Err-insert-clause-err : goal.returns-in-Err-insert-clause-err
returns-in-Err-insert-clause-err g c =
    let absent = not-true (has key_cmp c.args.key (keys_of c.self.inside.subjects)) (sym c.in_ok-insert.ensures.answer ∙ c.if-not-branch.false) in
    undone c.args.key (keys_of c.self.inside.subjects) (keys_of c.insert.new.self) (keys_of c.remove-in-Err-insert-2.new.self) absent c.in_ok-insert.ensures.keys c.remove-in-Err-insert-2.ensures.keys
    ∙ c.self.view_is

pub returns-in-Err-insert-clause-cost : goal.returns-in-Err-insert-clause-cost
returns-in-Err-insert-clause-cost g c d below =
    let n = ap length c.self.view_is in
    let m = length-turned (keys_of c.self.inside.subjects) (keys_of c.self.inside.predicates) c.self.invariant.second in
    let o = length-turned (keys_of c.self.inside.predicates) (keys_of c.self.inside.objects) c.self.invariant.third in
    let put = ap length c.in_ok-insert.ensures.keys in
    let more = length-insert_key key_cmp c.args.key (keys_of c.self.inside.subjects) in
    let put_second = ap length c.in_default.ensures.keys in
    let more_second = length-insert_key key_cmp c.turned-second.result (keys_of c.self.inside.predicates) in
    let a = c.insert.ensures.cost.1 d (omega arith) in
    let b = c.insert-2.ensures.cost.1 d (omega arith) in
    let e = c.insert-3.ensures.cost.1 d (omega arith) in
    let f = c.remove-in-Err-insert.ensures.cost.1 d (omega arith) in
    let h = c.remove-in-Err-insert-2.ensures.cost.1 d (omega arith) in
    omega arith

pub invariant_of-self-in_default-insert : goal.invariant_of-self-in_default-insert
invariant_of-self-in_default-insert g c =
    let absent = not-true (has key_cmp c.args.key (keys_of c.self.inside.subjects)) (sym c.in_ok-insert.ensures.answer ∙ c.if-not-branch.false) in
    same_orders (insert_key key_cmp (keys_of c.self.inside.subjects) c.args.key) (insert_key key_cmp (keys_of c.self.inside.predicates) (turned c.args.key)) (insert_key key_cmp (keys_of c.self.inside.objects) (turned (turned c.args.key))) _ _ _
    (IsOrders-insert (keys_of c.self.inside.subjects) (keys_of c.self.inside.predicates) (keys_of c.self.inside.objects) c.args.key c.self.invariant c.turned-second.ensures.fit absent)
    c.in_ok-insert.ensures.keys
    (c.in_default.ensures.keys ∙ ap (λ k. insert_key key_cmp (keys_of c.self.inside.predicates) k) c.turned-second.ensures.turned)
    (c.in_default-insert.ensures.keys ∙ ap (λ k. insert_key key_cmp (keys_of c.self.inside.objects) k) (c.turned-third.ensures.turned ∙ ap turned c.turned-second.ensures.turned))

pub returns-clause-cost : goal.returns-clause-cost
returns-clause-cost g c d below =
    let n = ap length c.self.view_is in
    let m = length-turned (keys_of c.self.inside.subjects) (keys_of c.self.inside.predicates) c.self.invariant.second in
    let o = length-turned (keys_of c.self.inside.predicates) (keys_of c.self.inside.objects) c.self.invariant.third in
    let a = c.insert.ensures.cost.1 d (omega arith) in
    let b = c.insert-2.ensures.cost.1 d (omega arith) in
    let e = c.insert-3.ensures.cost.1 d (omega arith) in
    omega arith
