-- What pages of all kinds say of small parts has fit and short terms.
use Rattle.std.proofs.Common.{ℕ, ◌≤◌, List, length, decimal, Option, Some, None, arith}
use Rattle.rdf_term.specs.Fit.{IsFitAndShort}
use Rattle.entity_model.specs.declared.id.EntityId.{EntityId}
use Rattle.entity_model.specs.declared.statement.Statement.{Statement}
use Rattle.entity_model.specs.declared.value.Tagged.{Tagged}
use Rattle.entity_model.specs.Value.{IsSmallTagged, optional_length}
use Rattle.digits.proofs.Decimals.{decimal_short}
use Rattle.rdf_vocabulary.specs.declared.datatype.Datatype.TheVariants.{Integer, DateTime}
use Rattle.rdf_vocabulary.specs.declared.predicate.Predicate.TheVariants as Say
use Rattle.rdf_vocabulary.specs.declared.prefix.Prefix.TheVariants.{Wd, Data}
use Rattle.rdf_vocabulary.specs.declared.resource.Resource.TheVariants.{Dataset, PublicDomain}
use Rattle.rdf_vocabulary.specs.Prefix.{entity_term}
use Rattle.rdf_vocabulary.proofs.Fit.{AreFit, about_fit, class_fit, escaped_short, plain_fit, resource_fit, tagged_fit, typed_fit}
use Rattle.rdf_vocabulary.proofs.Ids.{id_term_fit}
use Rattle.page_rdf.specs.Dataset.{change_triples, dataset_term, format_version, identifiers, number_term, number_triples, page_triples}
use Rattle.page_rdf.specs.Texts.{tagged_term}

-- the IRIs of an entity and of its dataset, texts and numbers
pub entity_fit : (x : EntityId) → IsFitAndShort (entity_term x)
entity_fit x = id_term_fit Wd x

pub dataset_fit : (x : EntityId) → IsFitAndShort (dataset_term x)
dataset_fit x = id_term_fit Data x

pub text_fit : (t : Tagged) → IsSmallTagged t → IsFitAndShort (tagged_term t)
text_fit t small = tagged_fit t.text t.language (omega (arith, small)) (omega (arith, small))

pub number_fit : (n : ℕ) → IsFitAndShort (number_term n)
number_fit n = typed_fit (decimal n) Integer (omega (arith, escaped_short (decimal n), decimal_short n))

-- what is said of a dataset
pub page_fit : (x : EntityId) → AreFit (page_triples x)
unfolding format_version
page_fit x =
    let node = dataset_term x in
    let n = dataset_fit x in (
      class_fit node Dataset n,
      (
        about_fit node Say.About _ n (entity_fit x),
        (about_fit node Say.License _ n (resource_fit PublicDomain), (about_fit node Say.SoftwareVersion _ n (plain_fit format_version (omega arith)), tt)),
      ),
    )

pub numbers_fit : (x : EntityId) (rev : ℕ) (statements : List Statement) → AreFit (number_triples (dataset_term x) rev statements)
numbers_fit x rev statements =
    let node = dataset_term x in
    let n = dataset_fit x in (
      about_fit node Say.Version _ n (number_fit rev),
      (
        about_fit node Say.Statements _ n (number_fit (length statements)),
        (about_fit node Say.Identifiers _ n (number_fit (identifiers statements)), tt),
      ),
    )

pub change_fit : (x : EntityId) (time : Option (List ℕ)) → optional_length time ≤ 8388608 → AreFit (change_triples (dataset_term x) time)
change_fit x None small = tt
change_fit x (Some time) small = (about_fit (dataset_term x) Say.DateModified _ (dataset_fit x) (typed_fit time DateTime (omega (arith, escaped_short time, small))), tt)
