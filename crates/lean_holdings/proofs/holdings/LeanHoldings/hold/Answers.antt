-- The parts are those that the page has where its entity is counted as it is.
use Rattle.std.proofs.Common.{◌≡◌, sym, subst, ◌∙◌}
use Rattle.std.specs.FinMap as map
use Rattle.sorted_sets.specs.Rising.{has}
use Rattle.entity_model.specs.EntityId.{entity_cmp}
use Rattle.page_parts.specs.Apart.{AreApart}
use Rattle.replay_model.specs.{Records.record_of, Union.triples_held, Versions.meaning_by}
use Rattle.fetched_pages.specs.{Fetched.bytes_of, Meaning.meaning}
use Rattle.lean_holdings.specs.Holding.{counted_by}
use Rattle.lean_holdings.proofs.holdings.LeanHoldings.hold.Goals as goal

pub hold_difference-requires-clause-apart : goal.hold_difference-requires-clause-apart
hold_difference-requires-clause-apart c =
    let h = c.args.self.now in
    let w = c.args.wanted in
    let here : c.is_counted-is_counted.result ≡ has entity_cmp w.id (counted_by h.names) =
    rw (← c.self.view_is) (c.is_counted-is_counted.ensures ∙ map.contains_key-keys c.self.inside.names w.id) in
    rw c.bytes-bytes.ensures (subst (λ b. AreApart w.id b (triples_held (meaning_by meaning h.by_two) w.id (record_of h.records w.id).held) (meaning w.version w.id w.rev (bytes_of c.args.page.now)) c.in-Some.difference.now)
    here (c.in-Some.ensures h.records h.by_two w.version w.id w.rev c.requires.fetched))

pub hold_with-held-requires-clause-come : goal.hold_with-held-requires-clause-come
hold_with-held-requires-clause-come c counted same =
    c.in-Ok.ensures counted ((rw (← c.self.view_is) at same) ∙ sym (map.contains_key-keys c.self.inside.names c.args.wanted.id) ∙ sym c.is_counted-is_counted.ensures)

pub hold_with-requires-clause-come : goal.hold_with-requires-clause-come
hold_with-requires-clause-come c counted same =
    let h = c.args.self.now in
    let w = c.args.wanted in
    rw c.bytes-bytes.ensures (c.in-Some-fetched_parts.ensures counted h.records h.by_two w.version w.id w.rev
    ((rw (← c.self.view_is) at same) ∙ sym (map.contains_key-keys c.self.inside.names w.id) ∙ sym c.is_counted-is_counted.ensures) c.requires.fetched)

pub returns-in-Some-fetched_parts-clause-full : goal.returns-in-Some-fetched_parts-clause-full
returns-in-Some-fetched_parts-clause-full c = rw c.bytes-bytes.ensures at c.hold_with.ensures.full

pub returns-clause-full : goal.returns-clause-full
returns-clause-full c = rw c.bytes-bytes.ensures at c.hold_with-held.ensures.full

pub returns-clause-within : goal.returns-clause-within
returns-clause-within c = rw c.bytes-bytes.ensures at c.hold_with-held.ensures.within
