-- The order has each entity once.
use Rattle.std.proofs.Common.{rules, ◌≡◌, ◌∙◌, ap}
use Rattle.std.proofs.lemmas.List.Filters.{dedup_is}
use Rattle.sorted_sets.specs.Rising.{sorted}
use Rattle.sorted_sets.proofs.Sorting.{deduped}
use Rattle.entity_model.specs.EntityId.{entity_cmp, entity_cmp_same, entity_cmp_total}
use Rattle.page_parts.proofs.named.in_order.Goals as goal

pub returns : goal.returns
returns c =
    let copied : c.extend_from_slice.new.self.items ≡ c.args.ids.now = search rules in
    dedup_is _ _ _ c.dedup.ensures.filtered ∙ deduped entity_cmp_total entity_cmp_same _ _ c.sort_unstable.ensures.permutation c.sort_unstable.ensures.sorted ∙ ap (sorted entity_cmp) copied
