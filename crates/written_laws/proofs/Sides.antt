-- What is stored before and after each step has fewer triples than numbers of 64 bits, where there are fewer deliveries than numbers of 32 bits.
use Rattle.std.proofs.Common.{ℕ, ◌+◌, ◌*◌, ◌<◌, ◌≤◌, ◌^◌, List, [], ◌∷◌, ◌++◌, length, flat_map, ap, true, false, Option, Some, None, length-append, subst, sym, arith}
use Rattle.std.specs.FinMap as finite
use Rattle.sorted_sets.specs.Rising.{Each}
use Rattle.sorted_sets.proofs.Pushes.{by_pushes}
use Rattle.rdf_term.specs.{Order.triple_cmp}
use Rattle.triple_store.proofs.Stocked.{length-sorted}
use Rattle.delivery.specs.declared.Delivery.{Delivery}
use Rattle.delivery.specs.declared.Delivery.TheVariants.{Event as Told, Watermark, Ask, Mapping, Match}
use Rattle.entity_model.specs.{declared.id.EntityId.EntityId, declared.event.Event.Event, declared.mapping.MappingVersion.MappingVersion}
use Rattle.entity_state.specs.{declared.record.Held.Held, declared.record.Record.Record}
use Rattle.replay_model.specs.Acceptance.{due, version_in_force}
use Rattle.replay_model.specs.Fate.{in_order}
use Rattle.replay_model.specs.Play.{Played, Replies, apply, newly_due, play}
use Rattle.replay_model.specs.{Records.Bytes, Records.Records, Union.triples_at, Union.triples_held, Union.union}
use Rattle.replay_model.specs.Versions.{all_by, version_at, with_version}
use Rattle.replay_model.proofs.{DueParts.due-end, DueParts.due-watermark, ToldContents.Each-append}
use Rattle.holders.specs.Holding.{stale_by}
use Rattle.meaning_texts.proofs.Few.{meaning_few}
use Rattle.patch_stream.specs.Stream.{steps_applied, steps_at, steps_of_play, steps_remapped, steps_to_end}
use Rattle.patch_stream.proofs.Streams.{steps-push}
use Rattle.written_laws.proofs.{Bounds.due_few, Bounds.one_more, Bounds.records_few, Chains.meant, Readable.HasFewTriples}

-- ---- what is held

held_few : (version : EntityId → MappingVersion) (x : EntityId) (held : Option (Held Bytes)) → length (triples_held (meant version) x held) ≤ 2 ^ 31
held_few version x None = omega arith
held_few version x (Some h) = meaning_few (version x) x h.revision h.content

entries_few : (version : EntityId → MappingVersion) (entries : List (EntityId × Record Bytes)) → length (flat_map (triples_at (meant version)) entries) ≤ 2147483648 * length entries
entries_few version [] = omega arith
entries_few version (entry ∷ entries) =
    omega (arith, held_few version entry.0 entry.1.held, entries_few version entries, length-append (triples_at (meant version) entry) (flat_map (triples_at (meant version)) entries))

stored_few : (version : EntityId → MappingVersion) (records : Records) → finite.len records < 2 ^ 32 → length (union triple_cmp (meant version) records) < 2 ^ 64
stored_few version records few =
    omega (arith, few, length-sorted triple_cmp (flat_map (triples_at (meant version)) (finite.entries records)), entries_few version (finite.entries records), finite.len-entries records)

-- ---- steps

applied_sides : (version : MappingVersion) (replies : Replies) (p : Played) (es : List Event) → finite.len p.records + length es < 2 ^ 32 → Each HasFewTriples (steps_applied version replies p es)
applied_sides version replies p [] few = tt
applied_sides version replies p (e ∷ es) few =
    let more = one_more replies p.records e in (
      record { before = stored_few (λ x. version) p.records (omega (arith, few)); after = stored_few (λ x. version) (apply replies p e).records (omega (arith, few, more)) },
      applied_sides version replies (apply replies p e) es (omega (arith, few, more)),
    )

remapped_sides : (version : MappingVersion) (records : Records) (by_two xs : List EntityId) → finite.len records < 2 ^ 32 → Each HasFewTriples (steps_remapped version records by_two xs)
remapped_sides version records by_two [] few = tt
remapped_sides version records by_two (x ∷ xs) few = (
  record { before = stored_few (version_at by_two) records few; after = stored_few (version_at (with_version version x by_two)) records few },
  remapped_sides version records (with_version version x by_two) xs few,
)

module _ (hz : Option ℕ) (replies : Replies) where
  delivery_sides : (ds : List Delivery) (d : Delivery) → length (ds ++ d ∷ []) < 2 ^ 32 → Each HasFewTriples (steps_at hz replies (record { before = ds; delivery = d }))
  delivery_sides ds (Told e) few = tt
  delivery_sides ds (Watermark w) few =
      let es : List Event = newly_due hz ds false (ds ++ Watermark w ∷ []) in
      applied_sides (version_in_force ds) replies (play hz replies ds) es
      (omega (arith, few, records_few hz replies ds, ap length (due-watermark hz ds w), length-append (in_order (due hz false ds)) es, due_few hz false (ds ++ Watermark w ∷ [])))
  delivery_sides ds (Ask q) few = tt
  delivery_sides ds (Match q) few = tt
  delivery_sides ds (Mapping v) few =
      let records : Records = (play hz replies ds).records in
      let by_two : List EntityId = all_by (version_in_force ds) records in
      remapped_sides v records by_two (stale_by v by_two records) (omega (arith, few, records_few hz replies ds, due_few hz false ds, length-append ds (Mapping v ∷ [])))

  pub sides_so_far : (ds : List Delivery) → length ds < 2 ^ 32 → Each HasFewTriples (steps_of_play hz replies ds)
  sides_so_far = by_pushes (λ ds. length ds < 2 ^ 32 → Each HasFewTriples (steps_of_play hz replies ds)) (λ few. tt)
      (λ ds d before few. subst (Each HasFewTriples) (sym (steps-push hz replies ds d))
      (Each-append HasFewTriples (steps_of_play hz replies ds) (steps_at hz replies (record { before = ds; delivery = d })) (before (omega (arith, few, length-append ds (d ∷ [])))) (delivery_sides ds d few)))

  pub sides_to_end : (ds : List Delivery) → length ds < 2 ^ 32 → Each HasFewTriples (steps_to_end hz replies ds)
  sides_to_end ds few =
      let es : List Event = newly_due hz ds true ds in
      Each-append HasFewTriples (steps_of_play hz replies ds) (steps_applied (version_in_force ds) replies (play hz replies ds) es) (sides_so_far ds few)
      (applied_sides (version_in_force ds) replies (play hz replies ds) es (omega (arith, few, records_few hz replies ds, ap length (due-end hz ds), length-append (in_order (due hz false ds)) es, due_few hz true ds)))
