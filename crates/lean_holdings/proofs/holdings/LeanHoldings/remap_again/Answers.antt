-- Nothing is counted but what is named.
use Rattle.std.proofs.Common.{◌≡◌, ◌<◌, true, sym, ◌∙◌}
use Rattle.sorted_sets.specs.Rising.{has}
use Rattle.entity_model.specs.{declared.id.EntityId.EntityId, EntityId.entity_cmp}
use Rattle.slot_keys.proofs.AtHand.{on_ok}
use Rattle.replay_model.specs.{Records.record_of, Union.triples_held, Versions.meaning_by}
use Rattle.fetched_pages.specs.Meaning.{meaning}
use Rattle.entity_counts.specs.Naming.{pages_naming}
use Rattle.lean_holdings.specs.Holding.{counted_by}
use Rattle.lean_holdings.proofs.{Named.counted_again, Named.counted_still, Named.named_full, Named.named_within, Results.on_ok_then}
use Rattle.lean_holdings.proofs.holdings.LeanHoldings.remap_again.Goals.{After-remap_once}
use Rattle.lean_holdings.proofs.holdings.LeanHoldings.remap_again.Goals as goal

-- what is counted is named
only : (c : After-remap_once) (y : EntityId) → has entity_cmp y (counted_by c.count_out_unnamed.new.self.names) ≡ true
    → 0 < pages_naming c.args.self.now.names y
only c = on_ok c.count_out_unnamed.result _ (sym c.is_err.ensures.value ∙ c.if-is_err.false) c.count_out_unnamed.ensures.out

pub returns-clause-counted : goal.returns-clause-counted
returns-clause-counted c y there =
    let h = c.args.self.now in
    let names = counted_by c.count_out_unnamed.new.self.names in
    let triples = triples_held (meaning c.args.version) c.args.id (record_of h.records c.args.id).held in
    counted_again names (counted_by h.names) c.args.id triples
    (counted_still names (counted_by h.names) c.args.id triples c.count_out_unnamed.ensures.fewer) y
    (rw c.count_out_unnamed.ensures.records at c.remap_once.ensures.counted y there)

pub returns-clause-full : goal.returns-clause-full
returns-clause-full c is =
    let h = c.args.self.now in
    named_full (meaning_by meaning h.by_two) (meaning c.args.version) h.names h.records c.facts.ensures.named c.args.id
    (record_of h.records c.args.id).held h.limit
    (counted_by c.count_out_unnamed.new.self.names) (only c)
    (rw (c.count_out_unnamed.ensures.limit, c.count_out_unnamed.ensures.by_two, c.count_out_unnamed.ensures.records) at c.remap_once.ensures.full is)

pub returns-clause-within : goal.returns-clause-within
returns-clause-within c =
    let h = c.args.self.now in
    on_ok_then
    (named_within (meaning_by meaning h.by_two) (meaning c.args.version) c.count_out_unnamed.new.self.names h.records (λ y. c.count_out_unnamed.ensures.named y ∙ c.facts.ensures.named y)
    c.args.id (record_of h.records c.args.id).held h.limit)
    c.remap_once.result
    (rw (c.count_out_unnamed.ensures.limit, c.count_out_unnamed.ensures.by_two, c.count_out_unnamed.ensures.records) at c.remap_once.ensures.within)
