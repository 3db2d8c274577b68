-- IRIs that the rules of munging name aren't in the namespaces by which terms are said.
use Rattle.std.proofs.Common.{◌≡◌, ℕ, false, List, ◌++◌, refl}
use Rattle.std.specs.Str.{bytes_eq}
use Rattle.entity_model.specs.declared.id.EntityId.{EntityId}
use Rattle.rdf_vocabulary.specs.declared.predicate.Predicate.TheVariants.{RdfType, PrefLabel, Name}
use Rattle.rdf_vocabulary.specs.declared.prefix.Prefix.{Prefix}
use Rattle.rdf_vocabulary.specs.declared.prefix.Prefix.TheVariants.{Wd, Wds, Wdv, Wdref, Wdt, P, Ps, Psv, Pq, Pqv, Pr, Prv, Wdno, Data, Genid, Wikibase, FilePath}
use Rattle.rdf_vocabulary.specs.Predicate.{predicate_text}
use Rattle.rdf_vocabulary.specs.Prefix.{prefix_text, prefixed}
use Rattle.munger.specs.Iris.{dataset_iri, is_data, is_predicate}

-- the dataset's IRI is in the namespace of datasets alone
pub other_namespace : (prefix : Prefix) (name : List ℕ) (id : EntityId) → is_data prefix ≡ false → bytes_eq (prefix_text prefix ++ name) (dataset_iri id) ≡ false
unfolding prefix_text
other_namespace Wd name id other = refl
other_namespace Wds name id other = refl
other_namespace Wdv name id other = refl
other_namespace Wdref name id other = refl
other_namespace Wdt name id other = refl
other_namespace P name id other = refl
other_namespace Ps name id other = refl
other_namespace Psv name id other = refl
other_namespace Pq name id other = refl
other_namespace Pqv name id other = refl
other_namespace Pr name id other = refl
other_namespace Prv name id other = refl
other_namespace Wdno name id other = refl
other_namespace Data name id other = cc
other_namespace Genid name id other = refl
other_namespace Wikibase name id other = refl
other_namespace FilePath name id other = refl

-- `rdf:type`, `skos:prefLabel` and `schema:name` are in none
pub no_type : (prefix : Prefix) (name : List ℕ) → is_predicate RdfType (prefixed prefix name) ≡ false
unfolding prefix_text predicate_text
no_type Wd name = refl
no_type Wds name = refl
no_type Wdv name = refl
no_type Wdref name = refl
no_type Wdt name = refl
no_type P name = refl
no_type Ps name = refl
no_type Psv name = refl
no_type Pq name = refl
no_type Pqv name = refl
no_type Pr name = refl
no_type Prv name = refl
no_type Wdno name = refl
no_type Data name = refl
no_type Genid name = refl
no_type Wikibase name = refl
no_type FilePath name = refl

pub no_preferred_label : (prefix : Prefix) (name : List ℕ) → is_predicate PrefLabel (prefixed prefix name) ≡ false
unfolding prefix_text predicate_text
no_preferred_label Wd name = refl
no_preferred_label Wds name = refl
no_preferred_label Wdv name = refl
no_preferred_label Wdref name = refl
no_preferred_label Wdt name = refl
no_preferred_label P name = refl
no_preferred_label Ps name = refl
no_preferred_label Psv name = refl
no_preferred_label Pq name = refl
no_preferred_label Pqv name = refl
no_preferred_label Pr name = refl
no_preferred_label Prv name = refl
no_preferred_label Wdno name = refl
no_preferred_label Data name = refl
no_preferred_label Genid name = refl
no_preferred_label Wikibase name = refl
no_preferred_label FilePath name = refl

pub no_name : (prefix : Prefix) (name : List ℕ) → is_predicate Name (prefixed prefix name) ≡ false
unfolding prefix_text predicate_text
no_name Wd name = refl
no_name Wds name = refl
no_name Wdv name = refl
no_name Wdref name = refl
no_name Wdt name = refl
no_name P name = refl
no_name Ps name = refl
no_name Psv name = refl
no_name Pq name = refl
no_name Pqv name = refl
no_name Pr name = refl
no_name Prv name = refl
no_name Wdno name = refl
no_name Data name = refl
no_name Genid name = refl
no_name Wikibase name = refl
no_name FilePath name = refl
