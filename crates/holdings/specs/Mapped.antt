-- What all that is held means, and what one page means.
use Rattle.std.specs.Prelude.{◌≡◌, List, Option}
use Rattle.std.specs.List.{AllByRecursion}
use Rattle.sorted_sets.specs.Rising.{sorted}
use Rattle.rdf_term.specs.{declared.triple.Triple.Triple, Fit.HasFitAndShortTerms, Order.triple_cmp}
use Rattle.entity_model.specs.{declared.id.EntityId.EntityId, declared.mapping.MappingVersion.MappingVersion}
use Rattle.entity_state.specs.declared.record.Held.{Held}
use Rattle.replay_model.specs.{Records.Bytes, Union.triples_held, Union.union, Versions.meaning_by}
use Rattle.fetched_pages.specs.Meaning.{meaning}
use Rattle.holders.specs.Holding.{HoldingsState}

-- the triples of all that is held, each by the version that its entity's document is mapped by
abbrev pub stored_in : HoldingsState → List Triple
stored_in held = union triple_cmp (meaning_by meaning held.by_two) held.records

-- the triples are those that what x holds means by this version, though one may stand there twice; their terms are fit and short
pub record AreTriplesOf (version : MappingVersion) (x : EntityId) (held : Option (Held Bytes)) (triples : List Triple) : Type 0 where
  pub meant : sorted triple_cmp triples ≡ triples_held (meaning version) x held
  pub fit : AllByRecursion HasFitAndShortTerms triples
