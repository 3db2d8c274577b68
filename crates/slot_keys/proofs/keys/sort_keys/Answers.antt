use Rattle.std.proofs.Common.{◌∙◌}
use Rattle.std.proofs.lemmas.List.Filters.{dedup_is}
use Rattle.sorted_sets.proofs.Sorting.{deduped}
use Rattle.slot_keys.specs.Keys.{key_cmp-total, key_cmp-IsAntisymmetric}
use Rattle.slot_keys.proofs.keys.sort_keys.Goals as goal

pub returns : goal.returns
returns c = dedup_is _ _ _ c.dedup.ensures.filtered ∙ deduped key_cmp-total key_cmp-IsAntisymmetric _ _ c.sort_unstable.ensures.permutation c.sort_unstable.ensures.sorted
