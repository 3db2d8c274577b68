-- The triples of what one entity holds, by their keys.
use Rattle.std.proofs.Common.{◌≡◌, ℕ, List, Option, Some, None, flat_map, refl, sym, ◌∙◌, ap, subst}
use Rattle.sorted_sets.specs.Rising.{sorted}
use Rattle.sorted_sets.proofs.Rising.{IsRising-sorted, sorted_rising}
use Rattle.rdf_term.specs.{declared.triple.Triple.Triple, Order.triple_cmp, Order.triple_cmp-total}
use Rattle.rdf_term.proofs.Texts.{triple_cmp-IsAntisymmetric}
use Rattle.entity_model.specs.{declared.id.EntityId.EntityId, declared.document.Document.Document}
use Rattle.entity_model.specs.declared.mapping.MappingVersion.{MappingVersion}
use Rattle.entity_json.specs.Document.{document_of}
use Rattle.entity_rdf.specs.Dump.{dump}
use Rattle.munger.specs.Munging.{munged}
use Rattle.entity_state.specs.declared.record.Held.{Held}
use Rattle.slot_keys.specs.declared.key.Key.{Key}
use Rattle.triple_store.specs.StoreState.{AreKeysOf, StoreState, beside}
use Rattle.replay_model.specs.{Records.Bytes, Records.record_of, Union.triples_held, Versions.meaning_by, Versions.version_at}
use Rattle.holders.specs.Holders.{ByVersion}
use Rattle.holdings.specs.{InStep.AreInStep, InStep.triples_kept, Keeping.KeptRecords, Keeping.kept_of, Keeping.keys_held, Keeping.seen}
use Rattle.fetched_pages.specs.Meaning.{meaning, triples_if}
use Rattle.holdings.proofs.Moving.{held_is}

-- what a document means is in order
if_sorted : (v : MappingVersion) (x : EntityId) (rev : ℕ) (document : Option Document) → sorted triple_cmp (triples_if v x rev document) ≡ triples_if v x rev document
if_sorted v x rev None = refl
if_sorted v x rev (Some document) =
    sorted_rising triple_cmp-total triple_cmp-IsAntisymmetric (triples_if v x rev (Some document)) (IsRising-sorted triple_cmp-total (flat_map (munged x) (sorted triple_cmp (dump v x rev document))))

held_sorted : (by_two : List EntityId) (x : EntityId) (held : Option (Held Bytes)) → sorted triple_cmp (triples_held (meaning_by meaning by_two) x held) ≡ triples_held (meaning_by meaning by_two) x held
held_sorted by_two x None = refl
held_sorted by_two x (Some h) = if_sorted (version_at by_two x) x h.revision (document_of x h.content)

-- the triples of its keys are those that it means
pub set_is : (s : StoreState) (ids : ByVersion) (kept : KeptRecords) (x : EntityId) → AreInStep s ids kept → (keys : List Key) → keys ≡ keys_held (kept_of kept x).held
    → (found : List Triple) → ((triples : List Triple) → AreKeysOf s keys triples → found ≡ sorted triple_cmp triples)
    → found ≡ triples_held (meaning_by meaning ids.by_two) x (record_of (seen s kept) x).held
set_is s ids kept x h keys were found tells =
    tells (triples_kept (meaning_by meaning ids.by_two) (beside s) kept x)
    (subst (λ (ks : List Key). AreKeysOf s ks (triples_kept (meaning_by meaning ids.by_two) (beside s) kept x)) (sym were) (h.kept.keyed x))
    ∙ held_sorted ids.by_two x _
    ∙ ap (triples_held (meaning_by meaning ids.by_two) x) (sym (held_is s kept x))
