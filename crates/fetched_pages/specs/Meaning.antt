-- The triples that a page means by a version of the mapping: those of its document's dump, munged.
use Rattle.std.specs.Prelude.{ℕ, List, [], Option, None, Some}
use Rattle.sorted_sets.specs.Rising.{sorted}
use Rattle.rdf_term.specs.{declared.triple.Triple.Triple, Order.triple_cmp}
use Rattle.entity_model.specs.{declared.id.EntityId.EntityId, declared.document.Document.Document}
use Rattle.entity_model.specs.declared.mapping.MappingVersion.{MappingVersion}
use Rattle.entity_json.specs.Document.{document_of}
use Rattle.entity_rdf.specs.Dump.{dump}
use Rattle.munger.specs.Munging.{munge}

-- the triples of a document of x
abbrev pub document_triples : MappingVersion → EntityId → ℕ → Document → List Triple
document_triples version x rev document = munge x (sorted triple_cmp (dump version x rev document))

-- the triples of a document of x, if there is one
abbrev pub triples_if : MappingVersion → EntityId → ℕ → Option Document → List Triple
triples_if version x rev None = []
triples_if version x rev (Some document) = document_triples version x rev document

-- the triples that the bytes of a revision of x mean
abbrev pub meaning : MappingVersion → EntityId → ℕ → List ℕ → List Triple
meaning version x rev bytes = triples_if version x rev (document_of x bytes)
