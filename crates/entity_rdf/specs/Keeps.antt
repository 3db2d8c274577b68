-- What the store keeps of a document: what munging leaves of the triples that the rules of the dump give.
use Rattle.std.specs.Prelude.{ℕ}
use Rattle.sorted_sets.specs.Rising.{In}
use Rattle.rdf_term.specs.declared.triple.Triple.{Triple}
use Rattle.entity_model.specs.declared.id.EntityId.{EntityId}
use Rattle.entity_model.specs.declared.document.Document.{Document}
use Rattle.entity_model.specs.declared.mapping.MappingVersion.{MappingVersion}
use Rattle.munger.specs.Munging.{munged}
use Rattle.entity_rdf.specs.Gives.{Gives}

-- the triple is left of one that a rule gives
pub data Keeps (version : MappingVersion) (x : EntityId) (rev : ℕ) (document : Document) (t : Triple) : Type 0 where
  left : (given : Triple) → Gives version x rev document given → In t (munged x given) → Keeps version x rev document t
