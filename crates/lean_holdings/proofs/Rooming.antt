-- The room that the stored triples take.
use Rattle.std.proofs.Common.{◌≡◌, ℕ, ◌<◌, ◌≤◌, true, ◌||◌, List, [], ◌++◌, Option, Some, None, is_some, unwrap_or, nat_lt, lt-ltb, flat_map, refl, sym, ◌∙◌, ap, arith}
use Rattle.std.specs.FinMap as map
use Rattle.sorted_sets.specs.Rising.{has}
use Rattle.sorted_sets.proofs.Rising.{has-append, same_rising}
use Rattle.rdf_term.specs.declared.triple.Triple.{Triple}
use Rattle.rdf_term.specs.Order.{triple_cmp, triple_cmp-total}
use Rattle.rdf_term.proofs.Texts.{triple_cmp-IsAntisymmetric}
use Rattle.entity_model.specs.declared.id.EntityId.{EntityId}
use Rattle.triple_catalog.specs.{Counts.Counts, Counts.HaveOwners, Counts.count_of, Room.distinct, Room.room_for, Room.terms_of}
use Rattle.triple_store.specs.StoreState.{IsSound, StoreState, counts_in, limit_of}
use Rattle.triple_store.proofs.Laid.{sound_owned, sound_room}
use Rattle.slot_index.proofs.Mapped.{rising_keys}
use Rattle.replay_model.specs.{Records.Records, Union.Meaning, Union.union}
use Rattle.replay_model.proofs.Owners.{has-union, union-rises}
use Rattle.shared_triples.specs.Lean.{IsLean, count_in, stored_of}
use Rattle.holders.specs.Roomed.{HasRoom, room_with}
use Rattle.holders.proofs.Rooming.{distinct_same}

-- a triple is stored where it has an owner
stored : (counts : Counts) (t : Triple) → HaveOwners counts → map.contains_key counts t ≡ nat_lt 0 (count_of counts t)
stored counts t h = by (map.get counts t) (h t)
  where
    by : (v : Option ℕ) → (is_some v ≡ true → 0 < unwrap_or v 0) → is_some v ≡ nat_lt 0 (unwrap_or v 0)
    by None some = refl
    by (Some n) some = sym (lt-ltb 0 n (some refl))

module _ (m : Meaning Triple) (counted : List EntityId) (s : StoreState) (records : Records) (sound : IsSound s) (h : IsLean m counted (count_in (counts_in s)) records) where
  -- the stored triples are the union of what is stored of each page
  stored_union : map.keys (counts_in s) ≡ union triple_cmp (stored_of counted m) records
  stored_union =
      same_rising triple_cmp-total triple_cmp-IsAntisymmetric (map.keys (counts_in s)) (union triple_cmp (stored_of counted m) records)
      (rising_keys triple_cmp (map.entries (counts_in s)) (map.entries_sorted (counts_in s)))
      (union-rises triple_cmp-total (stored_of counted m) records)
      (λ t. sym (map.contains_key-keys (counts_in s) t) ∙ stored (counts_in s) t (sound_owned s sound) ∙ ap (nat_lt 0) (h.counts t) ∙ sym (has-union triple_cmp-total (stored_of counted m) records t))

  pub room_is : room_for (counts_in s) [] ≡ room_with (stored_of counted m) records []
  room_is = ap (λ (ts : List Triple). distinct (flat_map terms_of (ts ++ []))) stored_union

  -- the room that triples need beside the stored ones
  pub room_more : (ts us : List Triple) → ((t : Triple) → has triple_cmp t ts ≡ has triple_cmp t us) → room_for (counts_in s) ts ≡ room_with (stored_of counted m) records us
  room_more ts us same =
      let stored : List Triple = union triple_cmp (stored_of counted m) records in
      ap (λ (xs : List Triple). distinct (flat_map terms_of (xs ++ ts))) stored_union
      ∙ distinct_same (stored ++ ts) (stored ++ us) (λ t. has-append triple_cmp t stored ts ∙ ap (λ b. has triple_cmp t stored || b) (same t) ∙ sym (has-append triple_cmp t stored us))

  pub room_held : HasRoom (stored_of counted m) (limit_of s) records
  room_held =
      let few : room_for (counts_in s) [] ≤ limit_of s = sound_room s sound in
      let room : room_for (counts_in s) [] ≡ room_with (stored_of counted m) records [] = room_is in
      omega arith
