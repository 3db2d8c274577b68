-- Triples that only one of two lists has, or one more often than the other.
use Rattle.std.specs.Prelude.{ℕ, Bool, cond, count_by, nat_lt, not, List}
use Rattle.std.specs.Ordering.{eq_by_cmp}
use Rattle.sorted_sets.specs.Rising.{has}
use Rattle.rdf_term.specs.{declared.triple.Triple.Triple, Order.triple_cmp}

-- whether exactly one of two lists has the triple
abbrev pub in_one : List Triple → List Triple → Triple → Bool
in_one first second triple = cond (has triple_cmp triple first) (not (has triple_cmp triple second)) (has triple_cmp triple second)

-- how many times a list has the triple
abbrev pub times : Triple → List Triple → ℕ
times triple triples = count_by (eq_by_cmp triple_cmp triple) triples

-- whether the first list has the triple more often than the second
abbrev pub has_more : List Triple → List Triple → Triple → Bool
has_more many few triple = nat_lt (times triple few) (times triple many)
