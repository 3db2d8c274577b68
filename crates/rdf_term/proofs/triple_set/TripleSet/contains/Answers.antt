use Rattle.std.proofs.Common.{◌≡◌, ◌∙◌, sym, subst}
use Rattle.sorted_sets.specs.Rising.{IsRising}
use Rattle.sorted_sets.proofs.Sorting.{found}
use Rattle.rdf_term.specs.Order.{triple_cmp, triple_cmp-total}
use Rattle.rdf_term.proofs.triple_set.TripleSet.contains.Goals as goal

pub returns : goal.returns
returns c =
    let rows = c.as_slice.ensures in
    let is : c.as_slice.result.now ≡ c.args.self.now = cc in
    let rising : IsRising triple_cmp c.as_slice.result.now = subst (IsRising triple_cmp) (sym rows) c.self.invariant in
    let there = found triple_cmp-total _ c.args.triple.now _ rising c.binary_search.ensures.bound c.binary_search.ensures.position in
    rw (← is) (c.is_ok.ensures.value ∙ there)
