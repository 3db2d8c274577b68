-- The stored triples are those of all that is held, which have fit and short terms.
use Rattle.std.proofs.Common.{sym, subst, ◌∙◌}
use Rattle.std.proofs.lemmas.Result.{IfOk-weaker}
use Rattle.std.specs.List.{AllByRecursion}
use Rattle.rdf_term.specs.Fit.{HasFitAndShortTerms}
use Rattle.world.proofs.Fit.{union_fit}
use Rattle.world.proofs.world.World.export.Goals as goal

pub returns-clause-value : goal.returns-clause-value
returns-clause-value c = rw (← c.self.view_is, ← c.whole.ensures.by_two, ← c.whole.ensures.records, ← c.store.ensures.triples) c.all.ensures.rows

pub returns-clause-fit : goal.returns-clause-fit
returns-clause-fit c =
    IfOk-weaker c.all.result _ _ (λ set is. subst (AllByRecursion HasFitAndShortTerms) (sym (is ∙ c.store.ensures.triples)) (union_fit _ _)) c.all.ensures.rows
