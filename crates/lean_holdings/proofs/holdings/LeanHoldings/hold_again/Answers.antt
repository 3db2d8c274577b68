-- Nothing is counted but what is named.
use Rattle.std.proofs.Common.{◌≡◌, ◌<◌, true, Some, sym, ◌∙◌}
use Rattle.std.specs.FinMap as map
use Rattle.sorted_sets.specs.Rising.{has}
use Rattle.entity_model.specs.{declared.id.EntityId.EntityId, EntityId.entity_cmp}
use Rattle.slot_keys.proofs.AtHand.{on_ok}
use Rattle.replay_model.specs.Versions.{meaning_by}
use Rattle.fetched_pages.specs.Meaning.{meaning}
use Rattle.entity_counts.specs.Naming.{pages_naming}
use Rattle.lean_holdings.specs.Holding.{counted_by}
use Rattle.lean_holdings.proofs.{Named.counted_again, Named.counted_still, Named.named_full, Named.named_within, Results.on_ok_then}
use Rattle.lean_holdings.proofs.holdings.LeanHoldings.hold_again.Goals.{After-drop}
use Rattle.lean_holdings.proofs.holdings.LeanHoldings.hold_again.Goals as goal

pub hold_parts-held-requires-clause-come : goal.hold_parts-held-requires-clause-come
hold_parts-held-requires-clause-come c counted same =
    c.in-Ok.ensures counted
    ((rw (← c.self.view_is) at same) ∙ sym (map.contains_key-keys c.self.inside.names c.args.wanted.id) ∙ sym c.is_counted-is_counted.ensures)

-- what is counted is named
only : (c : After-drop) (y : EntityId) → has entity_cmp y (counted_by c.count_out_unnamed.new.self.names) ≡ true
    → 0 < pages_naming c.args.self.now.names y
only c = on_ok c.count_out_unnamed.result _ (sym c.is_err.ensures.value ∙ c.if-is_err.false) c.count_out_unnamed.ensures.out

pub returns-clause-counted : goal.returns-clause-counted
returns-clause-counted c y there =
    let h = c.args.self.now in
    let names = counted_by c.count_out_unnamed.new.self.names in
    let triples = meaning c.args.wanted.version c.args.wanted.id c.args.wanted.rev c.args.page.now in
    counted_again names (counted_by h.names) c.args.wanted.id triples
    (counted_still names (counted_by h.names) c.args.wanted.id triples c.count_out_unnamed.ensures.fewer) y
    (c.hold_parts-held.ensures.counted y there)

pub returns-clause-full : goal.returns-clause-full
returns-clause-full c is =
    let h = c.args.self.now in
    named_full (meaning_by meaning h.by_two) (meaning c.args.wanted.version) h.names h.records c.facts.ensures.named c.args.wanted.id
    (Some (record { revision = c.args.wanted.rev; content = c.args.page.now })) h.limit
    (counted_by c.count_out_unnamed.new.self.names) (only c)
    (rw (c.count_out_unnamed.ensures.limit, c.count_out_unnamed.ensures.by_two, c.count_out_unnamed.ensures.records) at c.hold_parts-held.ensures.full is)

pub returns-clause-within : goal.returns-clause-within
returns-clause-within c =
    let h = c.args.self.now in
    on_ok_then
    (named_within (meaning_by meaning h.by_two) (meaning c.args.wanted.version) c.count_out_unnamed.new.self.names h.records (λ y. c.count_out_unnamed.ensures.named y ∙ c.facts.ensures.named y)
    c.args.wanted.id (Some (record { revision = c.args.wanted.rev; content = c.args.page.now })) h.limit)
    c.hold_parts-held.result
    (rw (c.count_out_unnamed.ensures.limit, c.count_out_unnamed.ensures.by_two, c.count_out_unnamed.ensures.records) at c.hold_parts-held.ensures.within)
