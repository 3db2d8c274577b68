-- What becomes of a triple of the dump, by the first rule that names it.
use Rattle.std.specs.Prelude.{Bool, ◌&&◌, ◌||◌, if◌then◌else◌}
use Rattle.rdf_term.specs.declared.term.Term.{Term}
use Rattle.rdf_term.specs.declared.triple.Triple.{Triple}
use Rattle.entity_model.specs.declared.id.EntityId.{EntityId}
use Rattle.rdf_vocabulary.specs.declared.predicate.Predicate.TheVariants.{RdfType, PrefLabel, Name, Version, DateModified, Statements, Identifiers, Sitelinks}
use Rattle.rdf_vocabulary.specs.declared.resource.Resource.TheVariants.{Item, Statement, Reference}
use Rattle.munger.specs.declared.verdict.Verdict.{Verdict}
use Rattle.munger.specs.declared.verdict.Verdict.TheVariants.{Moved, Dropped, Kept}
use Rattle.munger.specs.Iris.{dataset_iri, entity_iri, is_iri_of, is_predicate, is_resource}

-- the version, the time of the last edit and the counts, which the dataset says of itself
abbrev pub is_moved : Term → Bool
is_moved predicate =
    is_predicate Version predicate || is_predicate DateModified predicate || is_predicate Statements predicate
    || is_predicate Sitelinks predicate || is_predicate Identifiers predicate

-- the class of items, of statements or of references
abbrev pub is_dropped_class : Term → Bool
is_dropped_class class = is_resource Item class || is_resource Statement class || is_resource Reference class

-- the type of an item, a statement or a reference
abbrev pub has_dropped_type : Triple → Bool
has_dropped_type triple = is_predicate RdfType triple.predicate && is_dropped_class triple.object

-- skos:prefLabel and schema:name, which say again what rdfs:label says
abbrev pub is_other_name : Term → Bool
is_other_name predicate = is_predicate PrefLabel predicate || is_predicate Name predicate

-- a label of the entity under another name
abbrev pub repeats_label : EntityId → Triple → Bool
repeats_label id triple =
    is_iri_of (entity_iri id) triple.subject && is_other_name triple.predicate

-- of the dataset's triples some are moved to the entity and the others dropped; then these types and repeated labels are dropped
abbrev pub verdict : EntityId → Triple → Verdict
verdict id triple =
    if is_iri_of (dataset_iri id) triple.subject then (if is_moved triple.predicate then Moved else Dropped)
    else (if has_dropped_type triple then Dropped
    else (if repeats_label id triple then Dropped
    else Kept))
