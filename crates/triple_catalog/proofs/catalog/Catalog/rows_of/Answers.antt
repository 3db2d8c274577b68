-- The texts in order are those of the rising triples.
use Rattle.std.proofs.lemmas.List.Sorted.{All-permutation}
use Rattle.triple_catalog.specs.Slots.{HasCanonicalTexts}
use Rattle.triple_catalog.proofs.Differing.{rows_in_order, rows_rise}
use Rattle.triple_catalog.proofs.catalog.Catalog.rows_of.Goals as goal

pub invariant_of-result : goal.invariant_of-result
invariant_of-result c = record {
  canonical = All-permutation HasCanonicalTexts c.in_ok-rows.rows.items c.sort_rows.new.rows.items c.sort_rows.ensures.same c.in_ok-rows.ensures.canonical;
  rising = rows_rise c.args.self.now c.args.region.now c.args.keys.now c.in_ok-rows.rows.items c.sort_rows.new.rows.items c.requires.stored c.requires.rising c.requires.there c.in_ok-rows.ensures.triples c.in_ok-rows.ensures.canonical c.sort_rows.ensures.same c.sort_rows.ensures.sorted;
}

pub returns : goal.returns
returns c = rows_in_order c.args.self.now c.args.region.now c.args.keys.now c.in_ok-rows.rows.items c.sort_rows.new.rows.items c.requires.stored c.requires.rising c.requires.there c.in_ok-rows.ensures.triples c.in_ok-rows.ensures.canonical c.sort_rows.ensures.same c.sort_rows.ensures.sorted
