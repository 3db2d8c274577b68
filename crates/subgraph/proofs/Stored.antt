-- What the store of a graph has, where it is in step.
use Rattle.std.proofs.Common.{◌≡◌, ℕ, ◌+◌, ◌<◌, ◌≤◌, Bool, true, false, cond, List, [], ◌∷◌, ◌++◌, Option, None, Some, is_some, length, nat_lt, lt-ltb, option_map, unwrap_or, refl, sym, ◌∙◌, ap, arith}
use Rattle.std.specs.Prelude.{map as mapped}
use Rattle.std.specs.FinMap as map
use Rattle.std.specs.List.{AllByRecursion, flat_map}
use Rattle.std.proofs.lemmas.List.{length-map}
use Rattle.sorted_sets.proofs.Rising.{IsRising-sorted, same_rising}
use Rattle.rdf_term.specs.{declared.triple.Triple.Triple, Fit.HasFitAndShortTerms, Order.triple_cmp, Order.triple_cmp-total}
use Rattle.rdf_term.proofs.Texts.{triple_cmp-IsAntisymmetric}
use Rattle.entity_model.specs.{declared.id.EntityId.EntityId, EntityId.entity_cmp, EntityId.entity_cmp_total}
use Rattle.slot_index.proofs.Mapped.{rising_keys}
use Rattle.slot_keys.specs.declared.keys.Keys.{Keys}
use Rattle.triple_store.specs.{Counts.Counts, Counts.HaveOwners, Counts.count_of, Room.distinct, Room.room_for, Room.terms_of}
use Rattle.triple_store.specs.{StoreState.IsSound, StoreState.StoreState, StoreState.counts_in, Updates.MayCome}
use Rattle.triple_store.proofs.Laid.{sound_owned}
use Rattle.subgraph.specs.Entries.{owners_of, terms_with, union_of}
use Rattle.subgraph.specs.Graph.{IsInStep, keys_at, meant, sets_in}
use Rattle.subgraph.proofs.{Owning.few_owners, Owning.has-gathered, Stepping.get_set}

-- a triple is stored where it has an owner
is_stored : (counts : Counts) (t : Triple) → HaveOwners counts → map.contains_key counts t ≡ nat_lt 0 (count_of counts t)
is_stored counts t h = by (map.get counts t) (h t)
  where
    by : (v : Option ℕ) → (is_some v ≡ true → 0 < unwrap_or v 0) → is_some v ≡ nat_lt 0 (unwrap_or v 0)
    by None some = refl
    by (Some n) some = sym (lt-ltb 0 n (some refl))

module _ (s : StoreState) (owned : List (EntityId × Keys)) (h : IsInStep s owned) where
  -- the stored triples are those of the entities together
  pub stored_union : map.keys (counts_in s) ≡ union_of (sets_in s owned)
  stored_union = same_rising triple_cmp-total triple_cmp-IsAntisymmetric (map.keys (counts_in s)) (union_of (sets_in s owned))
      (rising_keys triple_cmp (map.entries (counts_in s)) (map.entries_sorted (counts_in s)))
      (IsRising-sorted triple_cmp-total (flat_map (λ (e : EntityId × List Triple). e.1) (map.entries (sets_in s owned))))
      (λ t. sym (map.contains_key-keys (counts_in s) t) ∙ is_stored (counts_in s) t (sound_owned s h.sound) ∙ ap (nat_lt 0) (h.counted t) ∙ sym (has-gathered (λ (e : EntityId × List Triple). e.1) (sets_in s owned) t))

  -- the room that others need beside them
  pub room_is : (ts : List Triple) → room_for (counts_in s) ts ≡ terms_with (union_of (sets_in s owned)) ts
  room_is ts = ap (λ (xs : List Triple). distinct (flat_map terms_of (xs ++ ts))) stored_union

-- whether an entity has a set
pub has_set : (s : StoreState) (owned : List (EntityId × Keys)) (x : EntityId) → is_some (keys_at owned x) ≡ map.contains_key (sets_in s owned) x
has_set s owned x = by (keys_at owned x) ∙ sym (ap is_some (get_set s owned x))
  where
    by : (o : Option Keys) → is_some o ≡ is_some (option_map (meant s) o)
    by None = refl
    by (Some keys) = refl

few_entries : {V : Type 0} (es : List (EntityId × V)) → map.len (map.from_entries {R = entity_cmp} es) ≤ length es
few_entries {V} [] = omega (arith, map.len-empty entity_cmp V)
few_entries {V} (e ∷ es) = by (map.contains_key (map.from_entries {R = entity_cmp} es) e.0) (map.len-insert entity_cmp_total (map.from_entries es) e.0 e.1) (few_entries es)
  where
    by : (b : Bool) → map.len (map.insert (map.from_entries {R = entity_cmp} es) e.0 e.1) ≡ cond b (map.len (map.from_entries {R = entity_cmp} es)) (map.len (map.from_entries {R = entity_cmp} es) + 1)
        → map.len (map.from_entries {R = entity_cmp} es) ≤ length es → map.len (map.insert (map.from_entries {R = entity_cmp} es) e.0 e.1) ≤ length {A = EntityId × V} (e ∷ es)
    by true is few = omega (arith, is, few)
    by false is few = omega (arith, is, few)

-- no count is saturated if there are fewer entities
pub countable : (s : StoreState) (owned : List (EntityId × Keys)) → IsInStep s owned → (n : ℕ) → length owned < n → (t : Triple) → count_of (counts_in s) t < n
countable s owned h n few t =
    let owners : owners_of (sets_in s owned) t ≤ map.len (sets_in s owned) = few_owners (λ (e : EntityId × List Triple). e.1) (sets_in s owned) t in
    let pair : (EntityId × Keys) → (EntityId × List Triple) = λ e. (e.0, meant s e.1) in
    let entries : map.len (sets_in s owned) ≤ length (mapped pair owned) = few_entries (mapped pair owned) in
    let long : length (mapped pair owned) ≡ length owned = length-map owned pair in
    let counts : count_of (counts_in s) t ≡ owners_of (sets_in s owned) t = h.counted t in
    omega (arith, owners, entries, long, counts, few)

pub may_come : (s : StoreState) (owned : List (EntityId × Keys)) → IsInStep s owned → length owned < 18446744073709551615 → (ts : List Triple) → AllByRecursion HasFitAndShortTerms ts → MayCome s ts
may_come s owned h few ts fit = record { fit = fit; countable = λ t _. countable s owned h 18446744073709551615 few t }

-- a store without triples, and no entities
pub in_step_first : (s : StoreState) → IsSound s → counts_in s ≡ map.empty → IsInStep s []
in_step_first s sound none = record {
  sound = sound;
  counted = λ t.
      let no_count : count_of (counts_in s) t ≡ 0 = ap (λ (c : Counts). count_of c t) none ∙ ap (λ v. unwrap_or v 0) (map.get-empty triple_cmp t) in
      let few : owners_of map.empty t ≤ map.len {K = EntityId} {X = List Triple} {R = entity_cmp} map.empty = few_owners (λ (e : EntityId × List Triple). e.1) map.empty t in
      let zero_long : map.len {K = EntityId} {X = List Triple} {R = entity_cmp} map.empty ≡ 0 = map.len-empty entity_cmp (List Triple) in
      omega (arith, no_count, few, zero_long);
  keyed = λ x keys is. absurd (nothing keys is);
}
  where
    nothing : (keys : Keys) → ◌≡◌ {A = Option Keys} None (Some keys) → ⊥
    nothing keys e = cc
