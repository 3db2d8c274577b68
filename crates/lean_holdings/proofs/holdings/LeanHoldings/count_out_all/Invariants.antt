-- The entities so far aren't counted, but those that a page names, or for which memory was refused.
use Rattle.std.proofs.Common.{◌≡◌, true, false, take}
use Rattle.std.specs.Prelude.{OnOk}
use Rattle.sorted_sets.specs.Rising.{has}
use Rattle.entity_model.specs.{EntityId.entity_cmp, declared.id.EntityId.EntityId}
use Rattle.entity_counts.specs.Naming.{pages_naming}
use Rattle.lean_holdings.specs.Holding.{counted_by}
use Rattle.lean_holdings.proofs.holdings.LeanHoldings.count_out_all.Given as goal

abbrev pub invariant-loop-id : goal.invariant-loop-id
invariant-loop-id l = record {
  records : l.self.records ≡ l.fn.self.records;
  by_two : l.self.by_two ≡ l.fn.self.by_two;
  limit : l.self.limit ≡ l.fn.self.limit;
  named : (x : EntityId) → pages_naming l.self.names x ≡ pages_naming l.fn.self.names x;
  fewer : (x : EntityId) → has entity_cmp x (counted_by l.self.names) ≡ true → has entity_cmp x (counted_by l.fn.self.names) ≡ true;
  out : OnOk l.counted ((x : EntityId) → has entity_cmp x (take l.id-index l.ids) ≡ true → pages_naming l.fn.self.names x ≡ 0 → has entity_cmp x (counted_by l.self.names) ≡ false);
}
