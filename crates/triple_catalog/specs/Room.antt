-- How many terms a store needs room for.
use Rattle.std.specs.Prelude.{ℕ, List, [], ◌∷◌, ◌++◌, length}
use Rattle.std.specs.List.{flat_map}
use Rattle.std.specs.FinMap as map
use Rattle.sorted_sets.specs.Rising.{sorted}
use Rattle.rdf_term.specs.{declared.term.Term.Term, declared.triple.Triple.Triple, Order.term_cmp}
use Rattle.triple_catalog.specs.Counts.{Counts}

-- the terms at the three places of a triple
abbrev pub terms_of : Triple → List Term
terms_of t = t.subject ∷ t.predicate ∷ t.object ∷ []

-- how many distinct terms a list has
abbrev pub distinct : List Term → ℕ
distinct terms = length (sorted term_cmp terms)

-- the number of distinct terms of the stored triples and of others together
abbrev pub room_for : Counts → List Triple → ℕ
room_for counts triples = distinct (flat_map terms_of (map.keys counts ++ triples))
