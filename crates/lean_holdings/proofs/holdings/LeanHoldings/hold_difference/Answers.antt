-- The page and the one before it name the same entities, and these are counted.
use Rattle.std.proofs.Common.{◌≤◌, Some, ap, subst, sym, ◌∙◌}
use Rattle.sorted_sets.specs.Rising.{has}
use Rattle.entity_model.specs.EntityId.{entity_cmp}
use Rattle.replay_model.specs.Versions.{meaning_by}
use Rattle.fetched_pages.specs.Meaning.{meaning}
use Rattle.lean_holdings.specs.Holding.{counted_by}
use Rattle.lean_holdings.proofs.{Apart.apart_needs, Named.counted_still, Named.named_within}
use Rattle.lean_holdings.proofs.holdings.LeanHoldings.hold_difference.Goals as goal

pub returns-in-Ok-clause-within : goal.returns-in-Ok-clause-within
returns-in-Ok-clause-within c =
    let h = c.args.self.now in
    let w = c.args.wanted in
    named_within (meaning_by meaning h.by_two) (meaning w.version) h.names h.records c.facts.ensures.named w.id
    (Some (record { revision = w.rev; content = c.args.page.now })) h.limit
    (subst (λ n. n ≤ h.limit) (apart_needs h w.version w.id w.rev c.args.page.now c.args.difference.now c.facts.ensures.named c.requires.apart) c.in-Ok.ensures.within)

pub returns-in-Ok-clause-counted : goal.returns-in-Ok-clause-counted
returns-in-Ok-clause-counted c y there =
    let names = counted_by c.args.self.now.names in
    let w = c.args.wanted in
    counted_still names names w.id (meaning w.version w.id w.rev c.args.page.now) (λ z is. is) y (ap (has entity_cmp y) (sym c.in-Ok.ensures.counted) ∙ there)

pub returns-in-Err-Full-clause-full : goal.returns-in-Err-Full-clause-full
returns-in-Err-Full-clause-full c = rw c.in-Err-Full.ensures.err at c.hold_again.ensures.full

pub returns-in-Err-Full-clause-within : goal.returns-in-Err-Full-clause-within
returns-in-Err-Full-clause-within c = rw c.in-Err-Full.ensures.err at c.hold_again.ensures.within
