-- What a step tells is the change of the stored triples.
use Rattle.std.proofs.Common.{◌≡◌, ◌↔◌, Bool, true, false, not, ◌&&◌, List, [], ◌∷◌, length, refl, sym, ◌∙◌, ap, subst, arith}
use Rattle.std.specs.FinMap as map
use Rattle.sorted_sets.specs.Rising.{IsRising, difference, has}
use Rattle.sorted_sets.proofs.{Bools.clash, Filtering.has-difference, Rising.has_itself, Rising.same_rising}
use Rattle.rdf_term.specs.{declared.triple.Triple.Triple, Order.triple_cmp, Order.triple_cmp-total}
use Rattle.rdf_term.proofs.Texts.{triple_cmp-IsAntisymmetric}
use Rattle.triple_store.specs.{declared.telling.Change.Change, declared.telling.Telling.Telling, declared.telling.Told.Told}
use Rattle.triple_store.specs.declared.telling.Telling.TheVariants.{Nothing, Whether, Change as TheChange}
use Rattle.triple_store.specs.declared.telling.Told.TheVariants.{Nothing as NothingTold, Whether as ToldWhether, Change as ToldChange}
use Rattle.triple_store.specs.{Counts.Counts, Telling.AreLinesOf, Telling.TellsIf, Telling.is_changed}
use Rattle.holders.specs.Changing.{IsChangeOf, Tells}

-- the stored triples are those that are counted
pub tells : (telling : Telling) (old new : Counts) (before after : List Triple) → map.keys old ≡ before → map.keys new ≡ after → (told : Told) → TellsIf telling old new told → Tells telling before after told
tells Nothing old new before after was is NothingTold told = λ asked. absurd (asked refl)
tells Nothing old new before after was is (ToldWhether changed) told = absurd told
tells Nothing old new before after was is (ToldChange change) told = absurd told
tells Whether old new before after was is NothingTold told = absurd told
tells Whether old new before after was is (ToldWhether changed) told = (refl, told ∙ (λ i. is_changed (was i) (is i)))
tells Whether old new before after was is (ToldChange change) told = absurd told
tells TheChange old new before after was is NothingTold told = absurd told
tells TheChange old new before after was is (ToldWhether changed) told = absurd told
tells TheChange old new before after was is (ToldChange change) told = (
  refl,
  record {
    came = subst (AreLinesOf change.came) (ap (λ ts. difference triple_cmp ts (map.keys old)) is ∙ ap (difference triple_cmp after) was) told.came;
    gone = subst (AreLinesOf change.gone) (ap (λ ts. difference triple_cmp ts (map.keys new)) was ∙ ap (difference triple_cmp before) is) told.gone;
  },
)

-- ---- a change without lines

no_lines : (ts : List Triple) → length ts ≡ 0 → ts ≡ []
no_lines [] none = refl
no_lines (t ∷ ts) none = absurd (omega arith)

none_in : (ts : List Triple) → ((t : Triple) → has triple_cmp t ts ≡ false) → ts ≡ []
none_in [] none = refl
none_in (t ∷ ts) none = clash (has_itself triple_cmp-total t ts) (none t)

both_ways : (a b : Bool) → (not a && b) ≡ false → (not b && a) ≡ false → b ≡ a
both_ways true true more fewer = refl
both_ways true false more fewer = sym fewer
both_ways false true more fewer = more
both_ways false false more fewer = refl

not_both : (a : Bool) → (not a && a) ≡ false
not_both true = refl
not_both false = refl

module _ (before after : List Triple) (change : Change) (is : IsChangeOf before after change) where
  -- where neither side has a line, the stored triples are as they were
  without_lines : IsRising triple_cmp before → IsRising triple_cmp after → change.came.count ≡ 0 → change.gone.count ≡ 0 → after ≡ before
  without_lines rises rises_after none_came none_gone =
      let came : difference triple_cmp after before ≡ [] = no_lines _ (sym is.came.count ∙ none_came) in
      let gone : difference triple_cmp before after ≡ [] = no_lines _ (sym is.gone.count ∙ none_gone) in
      same_rising triple_cmp-total triple_cmp-IsAntisymmetric after before rises_after rises (λ t. both_ways (has triple_cmp t before) (has triple_cmp t after)
      (sym (has-difference triple_cmp-total t after before) ∙ ap (has triple_cmp t) came)
      (sym (has-difference triple_cmp-total t before after) ∙ ap (has triple_cmp t) gone))

  -- and the other way round
  as_it_was : after ≡ before → (change.came.count ≡ 0) × (change.gone.count ≡ 0)
  as_it_was same =
      let none : difference triple_cmp before before ≡ [] = none_in _ (λ t. has-difference triple_cmp-total t before before ∙ not_both (has triple_cmp t before)) in (
        is.came.count ∙ ap (λ ts. length (difference triple_cmp ts before)) same ∙ ap length none,
        is.gone.count ∙ ap (λ ts. length (difference triple_cmp before ts)) same ∙ ap length none,
      )

-- the lines say whether the stored triples changed
pub lines_tell : (before after : List Triple) (change : Change) → IsRising triple_cmp before → IsRising triple_cmp after → IsChangeOf before after change
    → ((change.came.count ≡ 0) × (change.gone.count ≡ 0)) ↔ (after ≡ before)
lines_tell before after change rises rises_after is = (λ none. without_lines before after change is rises rises_after none.0 none.1, as_it_was before after change is)
