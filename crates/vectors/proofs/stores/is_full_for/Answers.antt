-- The one triple that comes has fewer owners than a count can say.
use Rattle.std.proofs.Common.{◌<◌, arith, subst, sym}
use Rattle.std.specs.List.{AllByRecursion}
use Rattle.rdf_term.specs.Fit.{HasFitAndShortTerms}
use Rattle.rdf_term.specs.declared.triple.Triple.{Triple}
use Rattle.triple_store.specs.Counts.{count_of}
use Rattle.triple_store.specs.StoreState.{counts_in}
use Rattle.vectors.proofs.Single.{of_each}
use Rattle.vectors.proofs.stores.is_full_for.Goals as goal

pub apply-applied-requires-clause-may_come : goal.apply-applied-requires-clause-may_come
apply-applied-requires-clause-may_come c = record {
  fit = subst (AllByRecursion HasFitAndShortTerms) (sym c.in-Some.ensures) (c.requires.fit, tt);
  countable = of_each (λ (t : Triple). count_of (counts_in c.args.store.now) t < 18446744073709551615) c.args.triple.now _ c.in-Some.ensures
      (omega (arith, c.if-owners.false, c.owners.ensures.count, c.owners.type_inv));
}
