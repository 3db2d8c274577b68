-- As many agree among the turned triples.
use Rattle.std.proofs.Common.{◌∙◌, length, count_by, ap, arith}
use Rattle.block_index.specs.Blocks.{keys_of}
use Rattle.slot_index.specs.Patterns.{slots_agree, turned_pattern}
use Rattle.slot_index.proofs.Ranging.{count_second, count_third}
use Rattle.slot_index.proofs.Turning.{length-turned}
use Rattle.slot_index.proofs.orders.Orders.range_len.Goals as goal

pub returns-then-leads-2-clause-len : goal.returns-then-leads-2-clause-len
returns-then-leads-2-clause-len g c =
    c.leading_len-then-leads-2.ensures.len
    ∙ ap (λ w. count_by (slots_agree w) (keys_of c.self.inside.predicates)) c.turned-second.ensures
    ∙ count_second c.args.pattern (keys_of c.self.inside.subjects) (keys_of c.self.inside.predicates) c.self.invariant.second
    ∙ ap (count_by (slots_agree c.args.pattern)) c.self.view_is

pub returns-then-leads-2-clause-cost : goal.returns-then-leads-2-clause-cost
returns-then-leads-2-clause-cost g c d below =
    let n = ap length c.self.view_is in
    let m = length-turned (keys_of c.self.inside.subjects) (keys_of c.self.inside.predicates) c.self.invariant.second in
    c.leading_len-then-leads-2.ensures.cost d (omega arith)

pub returns-clause-len : goal.returns-clause-len
returns-clause-len g c =
    c.leading_len-2.ensures.len
    ∙ ap (λ w. count_by (slots_agree w) (keys_of c.self.inside.objects)) (c.turned-third.ensures ∙ ap turned_pattern c.turned-second.ensures)
    ∙ count_third c.args.pattern (keys_of c.self.inside.subjects) (keys_of c.self.inside.predicates) (keys_of c.self.inside.objects) c.self.invariant.second c.self.invariant.third
    ∙ ap (count_by (slots_agree c.args.pattern)) c.self.view_is

pub returns-clause-cost : goal.returns-clause-cost
returns-clause-cost g c d below =
    let n = ap length c.self.view_is in
    let m = length-turned (keys_of c.self.inside.subjects) (keys_of c.self.inside.predicates) c.self.invariant.second in
    let o = length-turned (keys_of c.self.inside.predicates) (keys_of c.self.inside.objects) c.self.invariant.third in
    c.leading_len-2.ensures.cost d (omega arith)
