-- The triples that agree lie between two.
use Rattle.std.proofs.Common.{◌≡◌, ◌∙◌, ◌+◌, IfOk, length, ap, subst}
use Rattle.std.proofs.lemmas.List.Sums.{length-filter}
use Rattle.block_index.specs.Blocks.{keys_of, keys_between}
use Rattle.comparison_steps.specs.Steps.{WithinSteps}
use Rattle.slot_keys.specs.Keys.{key_cmp}
use Rattle.slot_index.specs.Patterns.{low, slots_agree}
use Rattle.slot_index.proofs.Ranging.{one_range}
use Rattle.slot_index.proofs.orders.leading.Goals as goal

pub returns : goal.returns
returns g c =
    let all = keys_of c.args.index.now in
    let same = ap (λ k. keys_between key_cmp k c.high.result all) c.low.ensures
    ∙ ap (λ k. keys_between key_cmp (low c.args.pattern) k all) c.high.ensures
    ∙ one_range c.args.pattern all c.requires.leads c.requires.fit in
    record {
      keys = subst (λ found. IfOk c.range.result (λ keys. keys ≡ found)) same c.range.ensures.keys;
      cost = subst (λ n. WithinSteps (length all) (9 + n) (g.C.StepCounter.total c.args.steps.now) (g.C.StepCounter.total c.range.new.steps)) (ap length same ∙ length-filter (slots_agree c.args.pattern) all) c.range.ensures.cost;
    }
