-- What bytes mean is what the rules say, from end to end.
use Rattle.std.proofs.Common.{◌≡◌, ℕ, List, Option, Some, None, refl, sym, subst}
use Rattle.std.specs.Prelude.{◌↔◌}
use Rattle.sorted_sets.specs.Rising.{In}
use Rattle.rdf_term.specs.declared.triple.Triple.{Triple}
use Rattle.entity_model.specs.{declared.id.EntityId.EntityId, declared.document.Document.Document}
use Rattle.entity_model.specs.declared.mapping.MappingVersion.{MappingVersion}
use Rattle.entity_json.specs.{Document.document_of, Unfit.HasDocument}
use Rattle.entity_json.proofs.Fitness.{documents}
use Rattle.entity_rdf.specs.Keeps.{Keeps, left}
use Rattle.entity_rdf.proofs.Keeping.{kept_rules}
use Rattle.fetched_pages.specs.{Meaning.meaning, Meaning.triples_if, Means.Means}

module _ (version : MappingVersion) (x : EntityId) (rev : ℕ) (bytes : List ℕ) (t : Triple) where
  by_rules : (document : Document) → HasDocument x bytes document → Keeps version x rev document t → Means version x rev bytes t
  by_rules document is (left given gives of_it) = record { document = document; is_document = is; given = given; gives = gives; leaves = of_it }

  by_document : (found : Option Document) → document_of x bytes ≡ found → In t (triples_if version x rev found) → Means version x rev bytes t
  by_document None is h = absurd h
  by_document (Some document) is h = by_rules document ((documents x bytes document).0 is) ((kept_rules version x rev document t).0 h)

  meant : In t (meaning version x rev bytes) → Means version x rev bytes t
  meant h = by_document (document_of x bytes) refl h

  there : Means version x rev bytes t → In t (meaning version x rev bytes)
  there h =
      subst (λ (found : Option Document). In t (triples_if version x rev found)) (sym ((documents x bytes h.document).1 h.is_document))
      ((kept_rules version x rev h.document t).1 (left h.given h.gives h.leaves))

-- the triples of the list and those of the relation are the same
pub meaning_rules : (version : MappingVersion) (x : EntityId) (rev : ℕ) (bytes : List ℕ) (t : Triple) → In t (meaning version x rev bytes) ↔ Means version x rev bytes t
meaning_rules version x rev bytes t = (meant version x rev bytes t, there version x rev bytes t)
