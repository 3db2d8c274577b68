-- What stays are the keys that no page names.
use Rattle.std.proofs.Common.{rules, sym, ◌∙◌, ap}
use Rattle.std.specs.Prelude.{◌==◌, filter}
use Rattle.std.proofs.lemmas.Fn.{filter_same}
use Rattle.entity_model.specs.EntityId.{entity_cmp_total, entity_cmp_same}
use Rattle.slot_index.proofs.Mapped.{keys_ordered}
use Rattle.entity_counts.specs.Naming.{naming_of, pages_naming}
use Rattle.entity_counts.proofs.counts.EntityCounts.unnamed.Goals as goal

pub returns : goal.returns
returns c = rw (← c.self.view_is)
    (filter_same _ (λ x. pages_naming (naming_of c.self.inside.pages.entries) x == 0) _ (λ x b f' k. search rules) _ _ c.retain.ensures.filtered
    ∙ ap (filter (λ x. pages_naming (naming_of c.self.inside.pages.entries) x == 0))
    (c.in_ok-ids.ensures.keys ∙ sym (keys_ordered entity_cmp_total entity_cmp_same c.self.inside.pages.entries c.keys_of.ensures.ordered)))
