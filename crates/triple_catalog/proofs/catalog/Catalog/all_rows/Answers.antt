-- The triples of all keys, by their ranks or by their texts, are those that are stored.
use Rattle.std.proofs.Common.{◌∙◌, ap, count_by, subst}
use Rattle.std.specs.Prelude.{IfSome}
use Rattle.std.specs.Prelude.{map as mapped}
use Rattle.std.specs.List.Sorted.{IsPermutation, IsSorted}
use Rattle.std.proofs.lemmas.List.Sorted.{All-permutation}
use Rattle.rdf_term.specs.Order.{triple_cmp}
use Rattle.triple_catalog.specs.{Ranks.AreRankedRows, Ranks.ranked_triples, Slots.HasCanonicalTexts, Slots.triple_at}
use Rattle.triple_catalog.proofs.Matched.{found_stored}
use Rattle.triple_catalog.proofs.Ordered.{every, every_by_texts, every_rises, every_row, rows_rising}
use Rattle.triple_catalog.proofs.catalog.Catalog.all_rows.Goals as goal

pub invariant_of-result : goal.invariant_of-result
invariant_of-result c =
    let found = c.as_slice.result.now in
    let m = triple_at c.args.self.now.pool c.args.region.now in (
      subst (λ o. IfSome o AreRankedRows) c.in-Some.is c.in_ok-ranked.ensures.rows,
      every_rises c.args.self.now c.args.region.now found c.requires (λ f. ap (λ ks. count_by f ks) c.as_slice.ensures ∙ c.in_ok-keys.ensures.found f) (ranked_triples c.in-Some.ranked)
          (subst (λ o. IfSome o (λ ranked. IsPermutation (mapped m found) (ranked_triples ranked))) c.in-Some.is c.in_ok-ranked.ensures.same)
          (subst (λ o. IfSome o (λ ranked. IsSorted triple_cmp (ranked_triples ranked))) c.in-Some.is c.in_ok-ranked.ensures.sorted),
    )

pub returns-in-Some : goal.returns-in-Some
returns-in-Some c =
    let found = c.as_slice.result.now in
    let m = triple_at c.args.self.now.pool c.args.region.now in
    every_row c.args.self.now c.args.region.now found c.requires (λ f. ap (λ ks. count_by f ks) c.as_slice.ensures ∙ c.in_ok-keys.ensures.found f) (ranked_triples c.in-Some.ranked)
    (subst (λ o. IfSome o (λ ranked. IsPermutation (mapped m found) (ranked_triples ranked))) c.in-Some.is c.in_ok-ranked.ensures.same)
    (subst (λ o. IfSome o (λ ranked. IsSorted triple_cmp (ranked_triples ranked))) c.in-Some.is c.in_ok-ranked.ensures.sorted)

pub texts_of-requires-clause-there : goal.texts_of-requires-clause-there
texts_of-requires-clause-there c = found_stored c.args.self.now.index every c.as_slice-2.result.now (λ f. ap (λ ks. count_by f ks) c.as_slice-2.ensures ∙ c.in_ok-keys.ensures.found f)

pub invariant_of-result-2 : goal.invariant_of-result-2
invariant_of-result-2 c = record {
  canonical = All-permutation HasCanonicalTexts c.in_ok-rows.rows.items c.sort_rows.new.rows.items c.sort_rows.ensures.same c.in_ok-rows.ensures.canonical;
  rising = rows_rising c.args.self.now c.args.region.now every c.as_slice-2.result.now c.in_ok-rows.rows.items c.sort_rows.new.rows.items
      c.requires (λ f. ap (λ ks. count_by f ks) c.as_slice-2.ensures ∙ c.in_ok-keys.ensures.found f)
      c.in_ok-rows.ensures.triples c.in_ok-rows.ensures.canonical c.sort_rows.ensures.same c.sort_rows.ensures.sorted;
}

pub returns : goal.returns
returns c =
    every_by_texts c.args.self.now c.args.region.now c.as_slice-2.result.now c.requires (λ f. ap (λ ks. count_by f ks) c.as_slice-2.ensures ∙ c.in_ok-keys.ensures.found f)
    c.in_ok-rows.rows.items c.sort_rows.new.rows.items c.in_ok-rows.ensures.triples c.in_ok-rows.ensures.canonical c.sort_rows.ensures.same c.sort_rows.ensures.sorted
