-- One page more for each entity so far.
use Rattle.std.proofs.Common.{◌≡◌, ◌+◌, take}
use Rattle.entity_model.specs.declared.id.EntityId.{EntityId}
use Rattle.entity_counts.specs.Naming.{is_counted, naming_of, pages_naming, times_in}
use Rattle.entity_counts.proofs.counts.raise_all.Given as goal

abbrev pub invariant-loop-id : goal.invariant-loop-id
invariant-loop-id l = record {
  pages : (x : EntityId) → pages_naming (naming_of l.pages.entries) x ≡ pages_naming (naming_of l.fn.pages.entries) x + times_in x (take l.id-index l.ids);
  same : (x : EntityId) → is_counted (naming_of l.pages.entries) x ≡ is_counted (naming_of l.fn.pages.entries) x;
}
