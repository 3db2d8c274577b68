-- Nothing has no parts.
use Rattle.std.proofs.Common.{sym, ap, subst}
use Rattle.std.specs.List.{AllByRecursion}
use Rattle.sorted_sets.specs.Rising.{IsRising, has, sorted}
use Rattle.rdf_term.specs.{Fit.HasFitAndShortTerms, Order.triple_cmp}
use Rattle.entity_model.specs.EntityId.{entity_cmp}
use Rattle.page_parts.specs.Parts.{PartsState}
use Rattle.lean_holdings.proofs.parts.no_parts.Goals as goal

pub returns : goal.returns
returns c counted m = record {
  own = ap (λ (p : PartsState). sorted triple_cmp p.own) c.none.ensures.parts;
  stored = ap (λ (p : PartsState). sorted triple_cmp p.shared) c.none.ensures.parts;
  fit = subst (λ (p : PartsState). AllByRecursion HasFitAndShortTerms p.shared) (sym c.none.ensures.parts) tt;
  rising = subst (IsRising entity_cmp) (sym c.none.ensures.names) tt;
  names = λ y. ap (has entity_cmp y) c.none.ensures.names;
}
