-- The sorted list of triples has exactly the triples of the list.
use Rattle.std.specs.Prelude.{◌↔◌, List}
use Rattle.sorted_sets.specs.Rising.{In, sorted}
use Rattle.sorted_sets.proofs.Members.{member-sorted}
use Rattle.rdf_term.specs.declared.triple.Triple.{Triple}
use Rattle.rdf_term.specs.Order.{triple_cmp, triple_cmp-total}
use Rattle.rdf_term.proofs.Texts.{triple_cmp-IsAntisymmetric}

pub member_triples : (triple : Triple) (triples : List Triple) → In triple (sorted triple_cmp triples) ↔ In triple triples
member_triples triple triples = member-sorted triple_cmp-total triple_cmp-IsAntisymmetric triple triples
