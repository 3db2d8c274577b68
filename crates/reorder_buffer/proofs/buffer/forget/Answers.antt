-- The first event is below the floor, or none is.
use Rattle.std.proofs.Common.{sym, ◌∙◌}
use Rattle.reorder_buffer.specs.Watermarks.{floor}
use Rattle.reorder_buffer.proofs.Forgetting.{first_forgotten, nothing_forgotten}
use Rattle.reorder_buffer.proofs.buffer.forget.Goals as goal

pub loop-horizon-preserved : goal.loop-horizon-preserved
loop-horizon-preserved c =
    let first = c.pop_first.ensures in
    first_forgotten (floor c.args.horizon c.args.mark) c.pop_first.result c.loop-horizon.kept.keys c.pop_first.new.self.keys first.variant.1 first.removal first.all_above (sym c.has_below.ensures ∙ c.loop-horizon-test.true)
    ∙ c.loop-horizon.invariant

pub returns : goal.returns
returns c = nothing_forgotten (floor c.args.horizon c.args.mark) c.loop-horizon.kept.keys (sym c.has_below.ensures ∙ c.loop-horizon-test.false) ∙ c.loop-horizon.invariant
