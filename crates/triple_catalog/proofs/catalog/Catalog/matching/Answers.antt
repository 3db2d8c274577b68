-- The triples of the range of slots, by their texts, are those that agree.
use Rattle.std.proofs.Common.{◌∙◌, ap, count_by, sym, arith}
use Rattle.std.specs.Prelude.{map as mapped}
use Rattle.std.proofs.lemmas.List.Sorted.{All-permutation}
use Rattle.slot_index.proofs.Ranging.{same_steps}
use Rattle.triple_catalog.specs.Slots.{HasCanonicalTexts, triple_of}
use Rattle.triple_catalog.proofs.Matched.{found_stored, none_matched}
use Rattle.triple_catalog.proofs.{Ordered.rows_counted, Ordered.rows_matched, Ordered.rows_rising, Unchanged.len_image}
use Rattle.triple_catalog.proofs.catalog.Catalog.matching.Goals as goal

pub returns-in_default : goal.returns-in_default
returns-in_default g c = record {
  rows = ap (mapped triple_of) c.new.ensures.items ∙ none_matched c.args.self.now.pool c.args.region.now c.args.self.now.index c.args.pattern.now c.in_default.ensures;
  cost = (omega arith, λ d few. omega arith);
}

pub texts_of-requires-clause-there : goal.texts_of-requires-clause-there
texts_of-requires-clause-there g c = found_stored c.args.self.now.index c.in-Some.wanted c.as_slice.result.now (λ f. ap (λ ks. count_by f ks) c.as_slice.ensures ∙ c.in_ok-keys.ensures.found f)

pub invariant_of-result-2 : goal.invariant_of-result-2
invariant_of-result-2 g c = record {
  canonical = All-permutation HasCanonicalTexts c.in_ok-rows.rows.items c.sort_rows.new.rows.items c.sort_rows.ensures.same c.in_ok-rows.ensures.canonical;
  rising = rows_rising c.args.self.now c.args.region.now c.in-Some.wanted c.as_slice.result.now c.in_ok-rows.rows.items c.sort_rows.new.rows.items
      c.requires (λ f. ap (λ ks. count_by f ks) c.as_slice.ensures ∙ c.in_ok-keys.ensures.found f)
      c.in_ok-rows.ensures.triples c.in_ok-rows.ensures.canonical c.sort_rows.ensures.same c.sort_rows.ensures.sorted;
}

pub returns : goal.returns
returns g c =
    let st = c.args.self.now in
    let r = c.args.region.now in
    let found = c.as_slice.result.now in
    let before = c.in_ok-rows.rows.items in
    let after = c.sort_rows.new.rows.items in
    record {
      rows = rows_matched st r c.args.pattern.now c.in-Some.wanted found before after
          c.requires c.in-Some.ensures (λ f. ap (λ ks. count_by f ks) c.as_slice.ensures ∙ c.in_ok-keys.ensures.found f)
          c.in_ok-rows.ensures.triples c.in_ok-rows.ensures.canonical c.sort_rows.ensures.same c.sort_rows.ensures.sorted;
      cost = same_steps _ _ _ _ _ _ (sym (len_image st r c.requires)) (rows_counted st r c.args.pattern.now c.in-Some.wanted c.requires c.in-Some.ensures) c.range.ensures.cost;
    }

-- memory was refused behind the range, or in it
pub returns-in_err-keys-clause-cost : goal.returns-in_err-keys-clause-cost
returns-in_err-keys-clause-cost g c =
    same_steps _ _ _ _ _ _ (sym (len_image c.args.self.now c.args.region.now c.requires)) (rows_counted c.args.self.now c.args.region.now c.args.pattern.now c.in-Some.wanted c.requires c.in-Some.ensures) c.range.ensures.cost

pub returns-in_err-rows-clause-cost : goal.returns-in_err-rows-clause-cost
returns-in_err-rows-clause-cost g c =
    same_steps _ _ _ _ _ _ (sym (len_image c.args.self.now c.args.region.now c.requires)) (rows_counted c.args.self.now c.args.region.now c.args.pattern.now c.in-Some.wanted c.requires c.in-Some.ensures) c.range.ensures.cost
