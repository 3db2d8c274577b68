-- An event is below the floor exactly where the first one is.
use Rattle.std.proofs.Common.{◌∙◌}
use Rattle.reorder_buffer.proofs.Forgetting.{first_below}
use Rattle.reorder_buffer.proofs.buffer.has_below.Goals as goal

pub returns-in-Some : goal.returns-in-Some
returns-in-Some c = c.is_forgotten.ensures ∙ first_below _ _ _ c.in-Some.ensures.first c.in-Some.ensures.all_from
