-- What holds nothing holds nothing again, and nothing changes but its record.
use Rattle.std.proofs.Common.{rules, ◌≡◌, true, false, None, is_some, inr, refl, sym, ap, ◌∙◌, subst}
use Rattle.sorted_sets.specs.Rising.{has}
use Rattle.sorted_sets.proofs.Bools.{or_false_right}
use Rattle.rdf_term.specs.Order.{triple_cmp}
use Rattle.entity_model.specs.EntityId.{entity_cmp}
use Rattle.text_region.specs.Region.{bytes_of}
use Rattle.replay_model.specs.{Records.record_of, Union.union, Versions.meaning_by}
use Rattle.fetched_pages.specs.Meaning.{meaning}
use Rattle.lean_holdings.specs.{Changing.IsChangeOf, Changing.held_triples, Kept.held_with, Kept.kept_of}
use Rattle.lean_holdings.proofs.{InStep.drop_none, InStep.links, Results.if_err, Seen.held_is, Staying.union_stays}
use Rattle.lean_holdings.proofs.holdings.LeanHoldings.release.Goals as goal

pub returns-then-is_none-clause-records : goal.returns-then-is_none-clause-records
returns-then-is_none-clause-records c =
    let none : (kept_of c.self.inside.table.records c.args.id).held ≡ None = search rules in
    let held : (record_of c.args.self.now.records c.args.id).held ≡ None =
    rw (← c.self.view_is)
    (held_is (bytes_of c.self.inside.pages) c.self.inside.table.records c.args.id ∙ ap (held_with (bytes_of c.self.inside.pages)) none) in
    rw held at c.in_ok-keep.ensures.records

pub returns-then-is_none-clause-by_two : goal.returns-then-is_none-clause-by_two
returns-then-is_none-clause-by_two c =
    let none : (kept_of c.self.inside.table.records c.args.id).held ≡ None = search rules in
    let absent : has entity_cmp c.args.id c.self.inside.holders.by_two ≡ false =
    or_false_right (has entity_cmp c.args.id c.self.inside.holders.by_one) _ (c.self.invariant.by.each c.args.id ∙ ap is_some none) in
    c.keep.ensures.by_two ∙
    (rw (← c.self.view_is) (sym (drop_none c.args.id c.self.inside.holders.by_two c.self.invariant.by.by_two_rises absent)))

pub returns-then-is_none-clause-change : goal.returns-then-is_none-clause-change
returns-then-is_none-clause-change c =
    let old = c.args.self.now in
    let same : held_triples c.keep.new.self ≡ held_triples old =
    (λ i. union triple_cmp (meaning_by meaning (c.keep.ensures.by_two i)) (c.in_ok-keep.ensures.records i)) ∙ union_stays
    (meaning_by meaning old.by_two) old.records c.args.id _ refl in
    subst (λ ts. IsChangeOf (held_triples old) ts c.no_change.result) (sym same) (c.no_change.ensures (held_triples old))

pub returns-clause-refused : goal.returns-clause-refused
returns-clause-refused c =
    let some : is_some (kept_of c.self.inside.table.records c.args.id).held ≡ true = search rules in
    if_err c.release_page.result (inr (rw (← c.self.view_is) (links c.self.inside.pages c.self.inside.table.records c.args.id ∙ some)))
