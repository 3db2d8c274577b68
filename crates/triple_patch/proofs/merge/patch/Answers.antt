-- A difference of a rising list rises.
use Rattle.std.proofs.Common.{sym, subst}
use Rattle.sorted_sets.specs.Rising.{IsRising}
use Rattle.rdf_term.specs.Order.{triple_cmp}
use Rattle.triple_patch.proofs.Merging.{IsRising-difference}
use Rattle.triple_patch.proofs.merge.patch.Goals as goal

pub from_rising-requires : goal.from_rising-requires
from_rising-requires c =
    let rises = subst (IsRising triple_cmp) (sym c.items-2.ensures.items) c.items-2.ensures.rising in
    subst (IsRising triple_cmp) (sym c.in_ok-adds.ensures.adds) (IsRising-difference triple_cmp _ _ rises)

pub from_rising-requires-2 : goal.from_rising-requires-2
from_rising-requires-2 c =
    let rises = subst (IsRising triple_cmp) (sym c.items.ensures.items) c.items.ensures.rising in
    subst (IsRising triple_cmp) (sym c.in_ok-adds.ensures.removes) (IsRising-difference triple_cmp _ _ rises)
