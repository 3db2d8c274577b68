-- Triples whose terms are fit and short: those that a record adds, and a store without triples takes them.
use Rattle.std.proofs.Common.{◌≡◌, ◌<◌, List, [], ◌∷◌, ◌++◌, unwrap_or, sym, ap, subst, arith}
use Rattle.std.specs.FinMap as map
use Rattle.std.specs.List.{AllByRecursion}
use Rattle.rdf_term.specs.declared.triple.Triple.{Triple}
use Rattle.rdf_term.specs.Fit.{HasFitAndShortTerms}
use Rattle.rdf_term.specs.Order.{triple_cmp}
use Rattle.replica.specs.TripleLine.{HasReadableTerms}
use Rattle.triple_store.specs.Counts.{count_of}
use Rattle.triple_store.specs.StoreState.{StoreState, counts_in}
use Rattle.triple_store.specs.Updates.{MayCome}

fit : (triple : Triple) → HasReadableTerms triple → HasFitAndShortTerms triple
fit triple readable = record { subject = readable.subject.canonical; predicate = readable.predicate.canonical; object = readable.object.canonical }

pub added_fit : (adds removes : List Triple) → AllByRecursion HasReadableTerms (adds ++ removes) → AllByRecursion HasFitAndShortTerms adds
added_fit [] removes all = tt
added_fit (x ∷ xs) removes all = (fit x all.0, added_fit xs removes all.1)

pub first_come : (store : StoreState) (triples : List Triple) → counts_in store ≡ map.empty → AllByRecursion HasFitAndShortTerms triples → MayCome store triples
first_come store triples none fit = record {
  fit = fit;
  countable = λ triple there.
      let no_owner : count_of map.empty triple ≡ 0 = ap (λ v. unwrap_or v 0) (map.get-empty triple_cmp triple) in
      subst (λ counts. count_of counts triple < 18446744073709551615) (sym none) (omega arith);
}
