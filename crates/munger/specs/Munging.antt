-- The triples of a page as the store keeps them.
use Rattle.std.specs.Prelude.{List, [], ◌∷◌}
use Rattle.std.specs.List.{flat_map}
use Rattle.sorted_sets.specs.Rising.{sorted}
use Rattle.rdf_term.specs.declared.term.Term.TheVariants.{Iri}
use Rattle.rdf_term.specs.declared.triple.Triple.{Triple}
use Rattle.rdf_term.specs.Order.{triple_cmp}
use Rattle.entity_model.specs.declared.id.EntityId.{EntityId}
use Rattle.munger.specs.declared.verdict.Verdict.{Verdict}
use Rattle.munger.specs.declared.verdict.Verdict.TheVariants.{Moved, Dropped, Kept}
use Rattle.munger.specs.Iris.{entity_iri}
use Rattle.munger.specs.Naming.{named_triple}
use Rattle.munger.specs.Verdict.{verdict}

-- the triple as it is said of the entity
abbrev pub moved_to : EntityId → Triple → Triple
moved_to id triple = record { subject = Iri (entity_iri id); predicate = triple.predicate; object = triple.object }

-- what a verdict leaves of a triple: itself with its blank nodes named, or nothing
abbrev pub left_by : EntityId → Triple → Verdict → List Triple
left_by id triple Moved = named_triple (moved_to id triple) ∷ []
left_by id triple Dropped = []
left_by id triple Kept = named_triple triple ∷ []

-- what is left of a triple of the entity's page
abbrev pub munged : EntityId → Triple → List Triple
munged id triple = left_by id triple (verdict id triple)

-- the set of what is left of the triples of the entity's page, each judged by itself
abbrev pub munge : EntityId → List Triple → List Triple
munge id triples = sorted triple_cmp (flat_map (munged id) triples)
