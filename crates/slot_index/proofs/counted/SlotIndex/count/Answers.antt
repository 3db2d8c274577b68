-- A stored triple has one owner, and as many as are counted beside it.
use Rattle.std.proofs.Common.{◌+◌, ◌∙◌, sym, ap, subst}
use Rattle.std.specs.FinMap as map
use Rattle.comparison_steps.specs.Steps.{WithinSteps}
use Rattle.slot_index.specs.Counts.{count_of, counts_of}
use Rattle.slot_index.proofs.More.{counted_absent, counted_there, len-with_more}
use Rattle.slot_index.proofs.counted.SlotIndex.count.Goals as goal

pub returns-then-find-clause-count : goal.returns-then-find-clause-count
returns-then-find-clause-count g c =
    ap (λ n. n + 1) c.owners.ensures
    ∙ sym (counted_there c.self.inside.orders (counts_of c.self.inside.more.entries) c.args.key (sym c.find.ensures.answer ∙ c.if-find.true))
    ∙ ap (λ m. count_of m c.args.key) c.self.view_is

pub returns-then-find-clause-cost : goal.returns-then-find-clause-cost
returns-then-find-clause-cost g c =
    subst (λ n. WithinSteps n 8 (g.C.StepCounter.total c.args.steps.now) (g.C.StepCounter.total c.find.new.steps)) (sym (len-with_more c.self.inside.orders (counts_of c.self.inside.more.entries) c.find.ensures.rising) ∙ ap map.len c.self.view_is) c.find.ensures.cost

pub returns-else-find-clause-count : goal.returns-else-find-clause-count
returns-else-find-clause-count g c =
    sym (counted_absent c.self.inside.orders (counts_of c.self.inside.more.entries) c.args.key (sym c.find.ensures.answer ∙ c.if-find.false))
    ∙ ap (λ m. count_of m c.args.key) c.self.view_is

pub returns-else-find-clause-cost : goal.returns-else-find-clause-cost
returns-else-find-clause-cost g c =
    subst (λ n. WithinSteps n 8 (g.C.StepCounter.total c.args.steps.now) (g.C.StepCounter.total c.find.new.steps)) (sym (len-with_more c.self.inside.orders (counts_of c.self.inside.more.entries) c.find.ensures.rising) ∙ ap map.len c.self.view_is) c.find.ensures.cost
