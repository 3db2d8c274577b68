use Rattle.std.proofs.Common.{◌≡◌, length, [], ◌∷◌, ◌++◌}
use Rattle.rdf_term.specs.Order.{bytes_cmp}
use Rattle.rdf_term.specs.Text.{escaped}
use Rattle.rdf_term.proofs.order.compare_quoted.Given as goal

abbrev pub invariant-loop-x : goal.invariant-loop-x
invariant-loop-x l = bytes_cmp (escaped l.left ++ 34 ∷ []) (escaped l.right ++ 34 ∷ []) ≡ bytes_cmp (escaped l.fn.a ++ 34 ∷ []) (escaped l.fn.b ++ 34 ∷ [])

abbrev pub decreases-loop-x : goal.decreases-loop-x
decreases-loop-x l = length l.left
