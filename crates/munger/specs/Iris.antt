-- The IRIs that triples are judged by.
use Rattle.std.specs.Prelude.{ℕ, Bool, true, false, List, ◌++◌}
use Rattle.std.specs.Str.{bytes_eq}
use Rattle.rdf_term.specs.declared.term.Term.{Term}
use Rattle.rdf_term.specs.declared.term.Term.TheVariants.{Iri, Blank, Plain, Lang, Typed}
use Rattle.entity_model.specs.declared.id.EntityId.{EntityId}
use Rattle.entity_model.specs.EntityId.{id_text}
use Rattle.rdf_vocabulary.specs.declared.predicate.Predicate.{Predicate}
use Rattle.rdf_vocabulary.specs.declared.prefix.Prefix.{Prefix}
use Rattle.rdf_vocabulary.specs.declared.prefix.Prefix.TheVariants.{Wd, Wds, Wdv, Wdref, Wdt, P, Ps, Psv, Pq, Pqv, Pr, Prv, Wdno, Data, Genid, Wikibase, FilePath}
use Rattle.rdf_vocabulary.specs.declared.resource.Resource.{Resource}
use Rattle.rdf_vocabulary.specs.Predicate.{predicate_text}
use Rattle.rdf_vocabulary.specs.Prefix.{prefix_text}
use Rattle.rdf_vocabulary.specs.Resource.{resource_text}

-- the IRI of an entity
abbrev pub entity_iri : EntityId → List ℕ
entity_iri id = prefix_text Wd ++ id_text id

-- the IRI of the dataset that describes an entity
abbrev pub dataset_iri : EntityId → List ℕ
dataset_iri id = prefix_text Data ++ id_text id

-- whether a namespace is that of the datasets
abbrev pub is_data : Prefix → Bool
is_data Wd = false
is_data Wds = false
is_data Wdv = false
is_data Wdref = false
is_data Wdt = false
is_data P = false
is_data Ps = false
is_data Psv = false
is_data Pq = false
is_data Pqv = false
is_data Pr = false
is_data Prv = false
is_data Wdno = false
is_data Data = true
is_data Genid = false
is_data Wikibase = false
is_data FilePath = false

-- whether the term is the IRI with this text
abbrev pub is_iri_of : List ℕ → Term → Bool
is_iri_of iri (Iri text) = bytes_eq text iri
is_iri_of iri (Blank label) = false
is_iri_of iri (Plain text) = false
is_iri_of iri (Lang text tag) = false
is_iri_of iri (Typed text datatype) = false

-- whether the term is the predicate
abbrev pub is_predicate : Predicate → Term → Bool
is_predicate word term = is_iri_of (predicate_text word) term

-- whether the term is the class
abbrev pub is_resource : Resource → Term → Bool
is_resource word term = is_iri_of (resource_text word) term
