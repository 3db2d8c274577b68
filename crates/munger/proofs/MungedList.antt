-- Munging the set of a list is munging the list's triples and making the set after.
use Rattle.std.proofs.Common.{◌≡◌, List}
use Rattle.std.specs.List.{flat_map}
use Rattle.sorted_sets.specs.Rising.{sorted}
use Rattle.rdf_term.specs.declared.triple.Triple.{Triple}
use Rattle.rdf_term.specs.Order.{triple_cmp, triple_cmp-total}
use Rattle.rdf_term.proofs.Texts.{triple_cmp-IsAntisymmetric}
use Rattle.entity_model.specs.declared.id.EntityId.{EntityId}
use Rattle.munger.specs.Munging.{munge, munged}
use Rattle.munger.proofs.FlatMap.{sorted-flat_map}

-- the set of a list, munged
pub munge_of_list : (id : EntityId) (list : List Triple) → munge id (sorted triple_cmp list) ≡ sorted triple_cmp (flat_map (munged id) list)
munge_of_list id list = sorted-flat_map triple_cmp-total triple_cmp-IsAntisymmetric triple_cmp-IsAntisymmetric (munged id) list
