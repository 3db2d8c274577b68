use Rattle.std.proofs.Common.{subst, sym, ◌∙◌}
use Rattle.sorted_sets.specs.Rising.{IsRising}
use Rattle.sorted_sets.proofs.Rising.{IsRising-sorted}
use Rattle.slot_keys.specs.Keys.{key_cmp, key_cmp-total}
use Rattle.slot_keys.proofs.keys.in_order.Goals as goal

pub walk_of-requires : goal.walk_of-requires
walk_of-requires c = subst (IsRising key_cmp) (sym (c.as_slice-3.ensures.value ∙ c.in-Ok.ensures)) (IsRising-sorted key_cmp-total c.as_slice.result.now)
