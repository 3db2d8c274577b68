-- What the page of an item or a property says of its dataset where the counts of the document are given.
use Rattle.std.specs.Prelude.{◌≡◌, ℕ, ◌+◌, List, [], ◌∷◌, ◌++◌, length}
use Rattle.rdf_term.specs.declared.term.Term.{Term}
use Rattle.rdf_term.specs.declared.triple.Triple.{Triple}
use Rattle.entity_model.specs.declared.id.EntityId.{EntityId}
use Rattle.entity_model.specs.declared.entity.Entity.{Entity}
use Rattle.rdf_vocabulary.specs.declared.predicate.Predicate.TheVariants as Say
use Rattle.rdf_vocabulary.specs.Predicate.{about}
use Rattle.page_rdf.specs.declared.counts.Counts.{Counts}
use Rattle.page_rdf.specs.About.{link_count}
use Rattle.page_rdf.specs.Dataset.{change_triples, dataset_term, identifiers, number_term, page_triples}

-- the counts of a document
abbrev pub counts_of : Entity → Counts
counts_of e = record { statements = length e.statements; identifiers = identifiers e.statements; links = length e.links }

-- some counts after those of parts that are gone and of parts that came
pub record AreAfter (old gone come new : Counts) : Type 0 where
  pub statements : new.statements + gone.statements ≡ old.statements + come.statements
  pub identifiers : new.identifiers + gone.identifiers ≡ old.identifiers + come.identifiers
  pub links : new.links + gone.links ≡ old.links + come.links

-- the revision and the counts of statements
abbrev pub counted_numbers : Term → ℕ → Counts → List Triple
counted_numbers dataset rev counts =
    about dataset Say.Version (number_term rev)
    ∷ about dataset Say.Statements (number_term counts.statements)
    ∷ about dataset Say.Identifiers (number_term counts.identifiers) ∷ []

-- what is said of the dataset
abbrev pub counted_dataset : EntityId → ℕ → Counts → Entity → List Triple
counted_dataset x rev counts e =
    page_triples x
    ++ counted_numbers (dataset_term x) rev counts
    ++ link_count x.kind (dataset_term x) counts.links
    ++ change_triples (dataset_term x) e.modified
