-- The store has room for the terms of the triples that the records mean.
use Rattle.std.proofs.Common.{◌≡◌, ℕ, ◌<◌, ◌≤◌, ◌||◌, List, [], ◌++◌, length, refl, sym, ◌∙◌, ap, arith}
use Rattle.std.specs.List.{flat_map}
use Rattle.std.specs.FinMap as map
use Rattle.std.proofs.lemmas.List.{length-map}
use Rattle.sorted_sets.specs.Rising.{has, sorted}
use Rattle.sorted_sets.proofs.Rising.{has-append}
use Rattle.rdf_term.specs.declared.triple.Triple.{Triple}
use Rattle.rdf_term.specs.Order.{triple_cmp}
use Rattle.triple_store.specs.{Counts.Counts, Counts.count_of, Room.distinct, Room.room_for, Room.terms_of}
use Rattle.triple_store.specs.StoreState.{StoreState, beside, counts_in, limit_of}
use Rattle.triple_store.proofs.Laid.{sound_owned, sound_room}
use Rattle.replay_model.specs.Union.{Meaning, triples_at, union}
use Rattle.holdings.specs.{InStep.IsKept, Keeping.KeptRecords, Keeping.record_with, Keeping.seen}
use Rattle.holders.specs.Roomed.{room_with}
use Rattle.holders.proofs.{Owning.countable, Rooming.counted_union, Rooming.distinct_same, Rooming.no_entries, Values.values_len}

pub stored_union : (m : Meaning Triple) (s : StoreState) (kept : KeptRecords) → IsKept m s kept → map.keys (counts_in s) ≡ union triple_cmp m (seen s kept)
stored_union m s kept h = counted_union m (counts_in s) (seen s kept) (sound_owned s h.sound) h.counted

-- the room that triples need beside the stored ones
pub room_is : (m : Meaning Triple) (s : StoreState) (kept : KeptRecords) → IsKept m s kept → (c : Counts) → c ≡ counts_in s → (ts us : List Triple)
    → ((t : Triple) → has triple_cmp t ts ≡ has triple_cmp t us) → room_for c ts ≡ room_with m (seen s kept) us
room_is m s kept h c is ts us same =
    ap (λ (xs : List Triple). distinct (flat_map terms_of (xs ++ ts))) (ap (λ (counts : Counts). map.keys counts) is ∙ stored_union m s kept h)
    ∙ distinct_same (union triple_cmp m (seen s kept) ++ ts) (union triple_cmp m (seen s kept) ++ us)
    (λ t. has-append triple_cmp t (union triple_cmp m (seen s kept)) ts
    ∙ ap (λ b. has triple_cmp t (union triple_cmp m (seen s kept)) || b) (same t)
    ∙ sym (has-append triple_cmp t (union triple_cmp m (seen s kept)) us))

-- what is held has room
pub room_held : (m : Meaning Triple) (s : StoreState) (kept : KeptRecords) → IsKept m s kept → room_with m (seen s kept) [] ≤ limit_of s
room_held m s kept h =
    let few : room_for (counts_in s) [] ≤ limit_of s = sound_room s h.sound in
    let room : room_for (counts_in s) [] ≡ room_with m (seen s kept) [] = room_is m s kept h (counts_in s) refl [] [] (λ _. refl) in
    omega arith

-- no count is saturated
pub countable_kept : (m : Meaning Triple) (s : StoreState) (kept : KeptRecords) → IsKept m s kept → (c : Counts) → c ≡ counts_in s → (n : ℕ) → map.len kept < n → (t : Triple) → count_of c t < n
countable_kept m s kept h c is n few t =
    let records : map.len (seen s kept) ≡ map.len kept = values_len (record_with (beside s)) kept in
    let same : count_of c t ≡ count_of (counts_in s) t = ap (λ (counts : Counts). count_of counts t) is in
    let fewer : map.len (seen s kept) < n = omega arith in
    let counts : count_of (counts_in s) t < n = countable m (counts_in s) (seen s kept) n h.counted fewer t in
    omega arith

-- without records nothing is stored
pub no_triples : (m : Meaning Triple) (s : StoreState) (kept : KeptRecords) → IsKept m s kept → map.len (seen s kept) ≡ 0 → map.len (counts_in s) ≡ 0
no_triples m s kept h none =
    let entries : map.entries (seen s kept) ≡ [] = no_entries (map.entries (seen s kept)) (sym (map.len-entries (seen s kept)) ∙ none) in
    let keys : map.keys (counts_in s) ≡ [] = stored_union m s kept h ∙ ap (λ es. sorted triple_cmp (flat_map (triples_at m) es)) entries in
    map.len-entries (counts_in s) ∙ sym (length-map (map.entries (counts_in s)) (λ e. e.0)) ∙ ap length keys
