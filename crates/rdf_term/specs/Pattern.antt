-- Which triples agree with a pattern.
use Rattle.std.specs.Prelude.{Bool, true, ◌&&◌, List, Option, None, Some, filter}
use Rattle.std.specs.Ordering.{eq_by_cmp}
use Rattle.rdf_term.specs.declared.term.Term.{Term}
use Rattle.rdf_term.specs.declared.triple.Triple.{Triple}
use Rattle.rdf_term.specs.declared.pattern.Pattern.{Pattern}
use Rattle.rdf_term.specs.Order.{term_cmp}

-- a free place agrees with every term, and at another place the terms are equal
abbrev pub agrees_at : Option Term → Term → Bool
agrees_at None term = true
agrees_at (Some wanted) term = eq_by_cmp term_cmp wanted term

-- a triple agrees with a pattern where it does at each place
abbrev pub agrees : Pattern → Triple → Bool
agrees pattern triple = agrees_at pattern.subject triple.subject && (agrees_at pattern.predicate triple.predicate && agrees_at pattern.object triple.object)

-- the triples that agree with a pattern, in their order
abbrev pub rows : List Triple → Pattern → List Triple
rows triples pattern = filter (agrees pattern) triples
