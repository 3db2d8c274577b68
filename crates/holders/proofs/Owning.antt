-- The owners of a triple after the record of an entity is put in.
use Rattle.std.proofs.Common.{◌≡◌, ◌≢◌, ℕ, ◌+◌, ◌<◌, ◌≤◌, Bool, true, false, not, cond, ◌&&◌, List, Option, Some, None, is_some, unwrap_or, refl, ◌∙◌, ap, true≢false, ⊎_elim, arith}
use Rattle.std.specs.FinMap as map
use Rattle.std.specs.Ordering.{eq_by_cmp}
use Rattle.std.proofs.lemmas.List.Sums.{count_by-le-length}
use Rattle.sorted_sets.specs.Rising.{has, difference}
use Rattle.sorted_sets.proofs.Filtering.{has-difference}
use Rattle.rdf_term.specs.{declared.triple.Triple.Triple, Order.triple_cmp, Order.triple_cmp-total}
use Rattle.entity_model.specs.{declared.id.EntityId.EntityId, EntityId.entity_cmp, EntityId.entity_cmp_total}
use Rattle.entity_state.specs.{declared.record.Held.Held, declared.record.Record.Record, Record.blank}
use Rattle.term_pool.specs.Pool.{one_if}
use Rattle.triple_store.specs.Counts.{Counts, Exchanges, count_of}
use Rattle.replay_model.specs.Records.{Bytes, Records, record_of}
use Rattle.replay_model.specs.Union.{Meaning, triples_at, triples_held, owners}
use Rattle.replay_model.proofs.{Owners.owners-change, Versions.owners-agree}
use Rattle.holders.specs.Counted.{CountsOwners}
use Rattle.holders.proofs.Records.{id_tells}

record_here : (records : Records) (x : EntityId) (r : Record Bytes) (y : EntityId) → eq_by_cmp entity_cmp y x ≡ true → record_of (map.insert records x r) y ≡ r
record_here records x r y is =
    ap (λ o. unwrap_or o blank) (map.get-insert entity_cmp_total records x r y) ∙ ap (λ b. unwrap_or (cond b (Some r) (map.get records y)) blank) is

shift : (a b : Bool) (n k : ℕ) → ((not a && b) ≡ true → n ≡ k + 1) → ((not b && a) ≡ true → n + 1 ≡ k) → ((not a && b) ≡ false → (not b && a) ≡ false → n ≡ k) → n + one_if a ≡ k + one_if b
shift true true n k more fewer same = ap (λ v. v + 1) (same refl refl)
shift true false n k more fewer same = let e : n + 1 ≡ k = fewer refl in omega arith
shift false true n k more fewer same = let e : n ≡ k + 1 = more refl in omega arith
shift false false n k more fewer same = ap (λ v. v + 0) (same refl refl)

module _ (m : Meaning Triple) where
  -- what the entity held has one owner less, and what it holds one more
  pub owners_moved : (records : Records) (x : EntityId) (n : Record Bytes) (t : Triple)
      → owners triple_cmp m (map.insert records x n) t + one_if (has triple_cmp t (triples_held m x (record_of records x).held))
      ≡ owners triple_cmp m records t + one_if (has triple_cmp t (triples_held m x n.held))
  owners_moved records x n t =
      let old : List Triple = triples_held m x (record_of records x).held in
      let new : List Triple = triples_held m x n.held in
      let changes = owners-change triple_cmp-total m records x n t in
      let comes : has triple_cmp t (difference triple_cmp new old) ≡ (not (has triple_cmp t old) && has triple_cmp t new) = has-difference triple_cmp-total t new old in
      let goes : has triple_cmp t (difference triple_cmp old new) ≡ (not (has triple_cmp t new) && has triple_cmp t old) = has-difference triple_cmp-total t old new in
      shift (has triple_cmp t old) (has triple_cmp t new) (owners triple_cmp m (map.insert records x n) t) (owners triple_cmp m records t)
      (λ h. changes.0 (comes ∙ h)) (λ h. changes.1 (goes ∙ h)) (λ h k. changes.2 (comes ∙ h) (goes ∙ k))

  -- what an entity holds has an owner
  pub has_owner : (records : Records) (x : EntityId) (t : Triple) → has triple_cmp t (triples_held m x (record_of records x).held) ≡ true → 0 < owners triple_cmp m records t
  has_owner records x t there =
      let moved : owners triple_cmp m (map.insert records x blank) t + one_if (has triple_cmp t (triples_held m x (record_of records x).held)) ≡ owners triple_cmp m records t + 0 = owners_moved records x blank t in
      let one : one_if (has triple_cmp t (triples_held m x (record_of records x).held)) ≡ 1 = ap one_if there in
      omega arith

  -- there are no more owners than records
  pub few_owners : (records : Records) (t : Triple) → owners triple_cmp m records t ≤ map.len records
  few_owners records t = omega (arith, count_by-le-length (λ entry. has triple_cmp t (triples_at m entry)) (map.entries records), map.len-entries records)

-- what differs at one entity alone
module _ (m n : Meaning Triple) (x : EntityId) (agree : (y : EntityId) → y ≢ x → (rev : ℕ) (bytes : Bytes) → n y rev bytes ≡ m y rev bytes) where
  -- what another entity holds means the same
  pub held_agrees : (y : EntityId) → y ≢ x → (h : Option (Held Bytes)) → triples_held n y h ≡ triples_held m y h
  held_agrees y other None = refl
  held_agrees y other (Some h) = agree y other h.revision h.content

  -- the owners with the entity's own share by the one and by the other
  pub owners_but : (records : Records) (t : Triple)
      → owners triple_cmp n records t + one_if (has triple_cmp t (triples_held m x (record_of records x).held))
      ≡ owners triple_cmp m records t + one_if (has triple_cmp t (triples_held n x (record_of records x).held))
  owners_but records t =
      let same : owners triple_cmp n (map.insert records x blank) t ≡ owners triple_cmp m (map.insert records x blank) t =
      owners-agree triple_cmp m n (map.insert records x blank) (λ y. ⊎_elim
      (λ own. by y (record_of (map.insert records x blank) y).held (ap (λ (r : Record Bytes). r.held) (record_here records x blank y own.0)))
      (λ other. held_agrees y other.1 (record_of (map.insert records x blank) y).held)
      (id_tells y x)) t in
      let one : owners triple_cmp m (map.insert records x blank) t + one_if (has triple_cmp t (triples_held m x (record_of records x).held)) ≡ owners triple_cmp m records t + 0 = owners_moved m records x blank t in
      let two : owners triple_cmp n (map.insert records x blank) t + one_if (has triple_cmp t (triples_held n x (record_of records x).held)) ≡ owners triple_cmp n records t + 0 = owners_moved n records x blank t in
      omega arith
    where
      by : (y : EntityId) (h : Option (Held Bytes)) → h ≡ None → triples_held n y h ≡ triples_held m y h
      by y None e = refl
      by y (Some h) e = absurd (true≢false (ap is_some e))

  -- the counts follow the record of an entity
  pub counted_moved : (c d : Counts) (records : Records) (r : Record Bytes) → CountsOwners m c records
      → Exchanges c d (triples_held m x (record_of records x).held) (triples_held n x r.held) → CountsOwners n d (map.insert records x r)
  counted_moved c d records r h moves = record {
    owned = λ t.
        let was : count_of c t ≡ owners triple_cmp m records t = h.owned t in
        let counts : count_of d t + one_if (has triple_cmp t (triples_held m x (record_of records x).held)) ≡ count_of c t + one_if (has triple_cmp t (triples_held n x r.held)) = moves.counts t in
        let between : owners triple_cmp n records t + one_if (has triple_cmp t (triples_held m x (record_of records x).held)) ≡ owners triple_cmp m records t + one_if (has triple_cmp t (triples_held n x (record_of records x).held)) = owners_but records t in
        let owned : owners triple_cmp n (map.insert records x r) t + one_if (has triple_cmp t (triples_held n x (record_of records x).held)) ≡ owners triple_cmp n records t + one_if (has triple_cmp t (triples_held n x r.held)) = owners_moved n records x r t in
        omega arith;
  }

-- a triple has no more owners than there are records
pub countable : (m : Meaning Triple) (counts : Counts) (records : Records) (n : ℕ) → CountsOwners m counts records → map.len records < n → (t : Triple) → count_of counts t < n
countable m counts records n h few t =
    let owned : owners triple_cmp m records t ≤ map.len records = few_owners m records t in
    let same : count_of counts t ≡ owners triple_cmp m records t = h.owned t in
    omega arith

-- without records no triple has an owner
pub none_counted : (m : Meaning Triple) → CountsOwners m map.empty map.empty
none_counted m = record {
  owned = λ t.
      let few : owners triple_cmp m map.empty t ≤ map.len map.empty = few_owners m map.empty t in
      let none : map.len map.empty ≡ 0 = map.len-empty entity_cmp (Record Bytes) in
      let zero_count : count_of map.empty t ≡ 0 = ap (λ v. unwrap_or v 0) (map.get-empty triple_cmp t) in
      omega arith;
}
