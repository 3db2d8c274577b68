-- What the bytes of a page mean, from end to end: by the document that they are, the rules of the dump, and munging.
use Rattle.std.specs.Prelude.{ℕ, List}
use Rattle.sorted_sets.specs.Rising.{In}
use Rattle.rdf_term.specs.declared.triple.Triple.{Triple}
use Rattle.entity_model.specs.{declared.id.EntityId.EntityId, declared.document.Document.Document}
use Rattle.entity_model.specs.declared.mapping.MappingVersion.{MappingVersion}
use Rattle.entity_json.specs.Unfit.{HasDocument}
use Rattle.munger.specs.Munging.{munged}
use Rattle.entity_rdf.specs.Gives.{Gives}

-- the bytes of a revision of x mean the triple: they are a page of x with a document, a rule of the dump gives a triple for it,
-- and this one is left of that by munging
pub record Means (version : MappingVersion) (x : EntityId) (rev : ℕ) (bytes : List ℕ) (t : Triple) : Type 0 where
  pub document : Document
  pub is_document : HasDocument x bytes document
  pub given : Triple
  pub gives : Gives version x rev document given
  pub leaves : In t (munged x given)
