-- Each pattern is one range, and the triples are turned back.
use Rattle.std.proofs.Common.{◌≡◌, ◌∙◌, ◌+◌, Bool, ◌&&◌, length, filter, count_by, ap, subst}
use Rattle.std.specs.Prelude.{map}
use Rattle.std.proofs.lemmas.Result.{IfOk-weaker}
use Rattle.block_index.specs.Blocks.{keys_of}
use Rattle.comparison_steps.specs.Steps.{WithinSteps}
use Rattle.slot_keys.specs.declared.key.Key.{Key}
use Rattle.slot_keys.specs.Keys.{turned}
use Rattle.slot_index.specs.Patterns.{slots_agree, turned_pattern}
use Rattle.slot_index.proofs.Ranging.{by_first, by_second, by_third, count_second, count_third, same_steps}
use Rattle.slot_index.proofs.Turning.{length-turned}
use Rattle.slot_index.proofs.orders.Orders.range.Goals as goal

pub returns-then-leads-clause-found : goal.returns-then-leads-clause-found
returns-then-leads-clause-found g c =
    IfOk-weaker c.leading.result (λ found. found ≡ filter (slots_agree c.args.pattern) (keys_of c.self.inside.subjects))
    (λ found. (p : Key → Bool) → count_by p found ≡ count_by (λ key. slots_agree c.args.pattern key && p key) c.args.self.now)
    (λ found is p. by_first c.args.pattern (keys_of c.self.inside.subjects) found p is ∙ ap (count_by (λ key. slots_agree c.args.pattern key && p key)) c.self.view_is)
    c.leading.ensures.keys

pub returns-then-leads-clause-cost : goal.returns-then-leads-clause-cost
returns-then-leads-clause-cost g c =
    subst (λ all. WithinSteps (length all) (9 + count_by (slots_agree c.args.pattern) all) (g.C.StepCounter.total c.args.steps.now) (g.C.StepCounter.total c.leading.new.steps)) c.self.view_is c.leading.ensures.cost

pub returns-in_err-found-clause-cost : goal.returns-in_err-found-clause-cost
returns-in_err-found-clause-cost g c =
    let subjects = keys_of c.self.inside.subjects in
    let predicates = keys_of c.self.inside.predicates in
    same_steps _ _ _ _ _ _ (length-turned subjects predicates c.self.invariant.second ∙ ap length c.self.view_is)
    (ap (λ w. count_by (slots_agree w) predicates) c.turned-second.ensures ∙ count_second c.args.pattern subjects predicates c.self.invariant.second ∙ ap (count_by (slots_agree c.args.pattern)) c.self.view_is)
    c.leading-then-leads-2.ensures.cost

pub returns-then-leads-2-clause-cost : goal.returns-then-leads-2-clause-cost
returns-then-leads-2-clause-cost g c =
    let subjects = keys_of c.self.inside.subjects in
    let predicates = keys_of c.self.inside.predicates in
    same_steps _ _ _ _ _ _ (length-turned subjects predicates c.self.invariant.second ∙ ap length c.self.view_is)
    (ap (λ w. count_by (slots_agree w) predicates) c.turned-second.ensures ∙ count_second c.args.pattern subjects predicates c.self.invariant.second ∙ ap (count_by (slots_agree c.args.pattern)) c.self.view_is)
    c.leading-then-leads-2.ensures.cost

pub returns-then-leads-2-clause-found : goal.returns-then-leads-2-clause-found
returns-then-leads-2-clause-found g c p =
    ap (count_by p) (c.all_turned-then-leads-2.ensures ∙ ap (map turned) c.all_turned.ensures)
    ∙ by_second c.args.pattern (keys_of c.self.inside.subjects) (keys_of c.self.inside.predicates) c.in_ok-found.found p c.self.invariant.second
    (c.in_ok-found.ensures.keys ∙ ap (λ w. filter (slots_agree w) (keys_of c.self.inside.predicates)) c.turned-second.ensures)
    ∙ ap (count_by (λ key. slots_agree c.args.pattern key && p key)) c.self.view_is

pub returns-clause-found : goal.returns-clause-found
returns-clause-found g c p =
    ap (count_by p) c.all_turned-2.ensures
    ∙ by_third c.args.pattern (keys_of c.self.inside.subjects) (keys_of c.self.inside.predicates) (keys_of c.self.inside.objects) c.in_ok-found-2.found p c.self.invariant.second c.self.invariant.third
    (c.in_ok-found-2.ensures.keys ∙ ap (λ w. filter (slots_agree w) (keys_of c.self.inside.objects)) (c.turned-third.ensures ∙ ap turned_pattern c.turned-second.ensures))
    ∙ ap (count_by (λ key. slots_agree c.args.pattern key && p key)) c.self.view_is

pub returns-in_err-found-2-clause-cost : goal.returns-in_err-found-2-clause-cost
returns-in_err-found-2-clause-cost g c =
    let subjects = keys_of c.self.inside.subjects in
    let predicates = keys_of c.self.inside.predicates in
    let objects = keys_of c.self.inside.objects in
    same_steps _ _ _ _ _ _ (length-turned predicates objects c.self.invariant.third ∙ length-turned subjects predicates c.self.invariant.second ∙ ap length c.self.view_is)
    (ap (λ w. count_by (slots_agree w) objects) (c.turned-third.ensures ∙ ap turned_pattern c.turned-second.ensures) ∙ count_third c.args.pattern subjects predicates objects c.self.invariant.second c.self.invariant.third ∙ ap (count_by (slots_agree c.args.pattern)) c.self.view_is)
    c.leading-2.ensures.cost

pub returns-clause-cost : goal.returns-clause-cost
returns-clause-cost g c =
    let subjects = keys_of c.self.inside.subjects in
    let predicates = keys_of c.self.inside.predicates in
    let objects = keys_of c.self.inside.objects in
    same_steps _ _ _ _ _ _ (length-turned predicates objects c.self.invariant.third ∙ length-turned subjects predicates c.self.invariant.second ∙ ap length c.self.view_is)
    (ap (λ w. count_by (slots_agree w) objects) (c.turned-third.ensures ∙ ap turned_pattern c.turned-second.ensures) ∙ count_third c.args.pattern subjects predicates objects c.self.invariant.second c.self.invariant.third ∙ ap (count_by (slots_agree c.args.pattern)) c.self.view_is)
    c.leading-2.ensures.cost
