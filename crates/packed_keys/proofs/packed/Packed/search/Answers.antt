-- The cells' numbers are ordered as the keys.
use Rattle.std.proofs.Common.{◌-◌, subst, arith}
use Rattle.comparison_steps.specs.Steps.{WithinSteps}
use Rattle.packed_keys.proofs.Orders.{above_in_run, as_long, ends_at_key}
use Rattle.packed_keys.proofs.packed.Packed.search.Goals as goal

pub search_cells-ended-requires-clause-within : goal.search_cells-ended-requires-clause-within
search_cells-ended-requires-clause-within g c =
    let long = as_long (g.C.Cell.number) c.self.inside.frame c.in_ok-number.number c.args.key c.in_ok-number.ensures.inside c.in_ok-number.ensures.stands c.self.inside.cells.items c.as_slice.result.now c.args.self.now c.self.invariant c.self.view_is c.as_slice.ensures.value in
    omega (arith, c.requires.within)

pub search_cells-ended-requires-clause-above : goal.search_cells-ended-requires-clause-above
search_cells-ended-requires-clause-above g c = above_in_run (g.C.Cell.number) c.self.inside.frame c.in_ok-number.number c.args.key c.in_ok-number.ensures.inside c.in_ok-number.ensures.stands c.self.inside.cells.items c.as_slice.result.now c.args.self.now c.self.invariant c.self.view_is c.as_slice.ensures.value c.args.start c.requires.within c.requires.above

pub returns-clause-ends : goal.returns-clause-ends
returns-clause-ends g c = ends_at_key (g.C.Cell.number) c.self.inside.frame c.in_ok-number.number c.args.key c.in_ok-number.ensures.inside c.in_ok-number.ensures.stands c.self.inside.cells.items c.as_slice.result.now c.args.self.now c.self.invariant c.self.view_is c.as_slice.ensures.value c.args.start c.search_cells-ended.result c.search_cells-ended.ensures.ends

pub returns-clause-cost : goal.returns-clause-cost
returns-clause-cost g c =
    subst (λ n. WithinSteps (n - c.args.start) 0 (g.S.StepCounter.total c.args.steps.now) (g.S.StepCounter.total c.search_cells-ended.new.steps)) (as_long (g.C.Cell.number) c.self.inside.frame c.in_ok-number.number c.args.key c.in_ok-number.ensures.inside c.in_ok-number.ensures.stands c.self.inside.cells.items c.as_slice.result.now c.args.self.now c.self.invariant c.self.view_is c.as_slice.ensures.value) c.search_cells-ended.ensures.cost
