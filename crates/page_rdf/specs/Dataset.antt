-- What each page says of the dataset that it is.
use Rattle.std.specs.Prelude.{ℕ, Bool, List, [], ◌∷◌, length, decimal, codes, Option, Some, None, count_by}
use Rattle.std.specs.Str.{bytes_eq}
use Rattle.rdf_term.specs.declared.term.Term.{Term}
use Rattle.rdf_term.specs.declared.term.Term.TheVariants.{Plain}
use Rattle.rdf_term.specs.declared.triple.Triple.{Triple}
use Rattle.entity_model.specs.declared.id.EntityId.{EntityId}
use Rattle.entity_model.specs.declared.statement.Statement.{Statement}
use Rattle.rdf_vocabulary.specs.declared.datatype.Datatype.TheVariants.{Integer, DateTime}
use Rattle.rdf_vocabulary.specs.declared.predicate.Predicate.TheVariants as Say
use Rattle.rdf_vocabulary.specs.declared.prefix.Prefix.TheVariants.{Data}
use Rattle.rdf_vocabulary.specs.declared.resource.Resource.TheVariants.{Dataset, PublicDomain}
use Rattle.rdf_vocabulary.specs.Datatype.{typed}
use Rattle.rdf_vocabulary.specs.Predicate.{about}
use Rattle.rdf_vocabulary.specs.Prefix.{entity_term, id_term}
use Rattle.rdf_vocabulary.specs.Resource.{class_triple, resource_term}

-- the dataset that an entity's page is
abbrev pub dataset_term : EntityId → Term
dataset_term x = id_term Data x

-- a whole number
abbrev pub number_term : ℕ → Term
number_term n = typed (decimal n) Integer

-- the version of the dump's format
unfoldable pub format_version : List ℕ
format_version = codes "1.0.0"

-- what is said of each dataset, whichever revision it is of
abbrev pub page_triples : EntityId → List Triple
page_triples x =
    class_triple (dataset_term x) Dataset
    ∷ about (dataset_term x) Say.About (entity_term x)
    ∷ about (dataset_term x) Say.License (resource_term PublicDomain)
    ∷ about (dataset_term x) Say.SoftwareVersion (Plain format_version) ∷ []

-- the datatype of identifiers in other databases
unfoldable pub external_id : List ℕ
external_id = codes "external-id"

abbrev pub is_identifier : Statement → Bool
is_identifier s = bytes_eq s.main.datatype external_id

abbrev pub identifiers : List Statement → ℕ
identifiers statements = count_by is_identifier statements

-- the revision, how many statements there are, and how many of them are identifiers
abbrev pub number_triples : Term → ℕ → List Statement → List Triple
number_triples dataset rev statements =
    about dataset Say.Version (number_term rev)
    ∷ about dataset Say.Statements (number_term (length statements))
    ∷ about dataset Say.Identifiers (number_term (identifiers statements)) ∷ []

-- when the page was changed last
abbrev pub change_triples : Term → Option (List ℕ) → List Triple
change_triples dataset None = []
change_triples dataset (Some time) = about dataset Say.DateModified (typed time DateTime) ∷ []
