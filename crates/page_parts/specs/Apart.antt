-- What two pages of an entity have of their own.
use Rattle.std.specs.Prelude.{◌≡◌, Bool, true, false, List, []}
use Rattle.std.specs.List.{AllByRecursion}
use Rattle.sorted_sets.specs.Rising.{has}
use Rattle.rdf_term.specs.{declared.triple.Triple.Triple, Fit.HasFitAndShortTerms, Order.triple_cmp}
use Rattle.entity_model.specs.declared.id.EntityId.{EntityId}
use Rattle.page_parts.specs.declared.difference.PageDifference.{PageDifference}
use Rattle.page_parts.specs.Parts.{AreSplit}

-- some triples go from the old ones and some come to be the new ones: what only one of both has is among them, and what both have goes and
-- comes, or does neither
pub record TellApart (old new gone come : List Triple) : Type 0 where
  pub gone_within : (t : Triple) → has triple_cmp t gone ≡ true → has triple_cmp t old ≡ true
  pub come_within : (t : Triple) → has triple_cmp t come ≡ true → has triple_cmp t new ≡ true
  pub left : (t : Triple) → has triple_cmp t old ≡ true → has triple_cmp t new ≡ false → has triple_cmp t gone ≡ true
  pub came : (t : Triple) → has triple_cmp t new ≡ true → has triple_cmp t old ≡ false → has triple_cmp t come ≡ true
  pub stayed : (t : Triple) → has triple_cmp t old ≡ true → has triple_cmp t new ≡ true → has triple_cmp t gone ≡ has triple_cmp t come

-- so it is of the triples of two pages of x, which is counted or isn't, in two parts each; and none of what goes or comes belongs to another entity
pub record AreApart (x : EntityId) (is_counted : Bool) (old new : List Triple) (d : PageDifference) : Type 0 where
  pub told : TellApart old new d.gone.all d.come.all
  pub gone_parts : AreSplit x is_counted d.gone.all d.gone.own d.gone.shared []
  pub come_parts : AreSplit x is_counted d.come.all d.come.own d.come.shared []
  pub fit : AllByRecursion HasFitAndShortTerms d.come.shared
