-- What is held has fit and short terms.
use Rattle.std.proofs.Common.{List, [], ◌∷◌, Option, Some, None, flat_map}
use Rattle.std.specs.FinMap as map
use Rattle.std.specs.List.{AllByRecursion}
use Rattle.rdf_term.specs.{Fit.HasFitAndShortTerms, Order.triple_cmp}
use Rattle.entity_model.specs.declared.id.EntityId.{EntityId}
use Rattle.entity_state.specs.{declared.record.Held.Held, declared.record.Record.Record}
use Rattle.munger.proofs.Fit.{sorted_each}
use Rattle.rdf_vocabulary.proofs.Shared.{flat_map_each}
use Rattle.replay_model.specs.{Records.Bytes, Records.Records, Union.triples_at, Union.triples_held, Union.union}
use Rattle.replay_model.specs.Versions.{meaning_by, version_at}
use Rattle.fetched_pages.specs.Meaning.{meaning}
use Rattle.fetched_pages.proofs.Fit.{meaning_fit}

pub held_fit : (by_two : List EntityId) (x : EntityId) (held : Option (Held Bytes)) → AllByRecursion HasFitAndShortTerms (triples_held (meaning_by meaning by_two) x held)
held_fit by_two x None = tt
held_fit by_two x (Some h) = meaning_fit (version_at by_two x) x h.revision h.content

anything : {A : Type 0} (xs : List A) → AllByRecursion (λ (x : A). Unit {0}) xs
anything [] = tt
anything (x ∷ xs) = (tt, anything xs)

-- the triples of all that is held
pub union_fit : (by_two : List EntityId) (records : Records) → AllByRecursion HasFitAndShortTerms (union triple_cmp (meaning_by meaning by_two) records)
union_fit by_two records =
    sorted_each HasFitAndShortTerms triple_cmp (flat_map (triples_at (meaning_by meaning by_two)) (map.entries records))
    (flat_map_each (λ (entry : EntityId × Record Bytes). Unit {0}) HasFitAndShortTerms (triples_at (meaning_by meaning by_two)) (λ entry _. held_fit by_two entry.0 entry.1.held) (map.entries records) (anything (map.entries records)))
