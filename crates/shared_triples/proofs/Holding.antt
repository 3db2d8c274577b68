-- What a triple's count tells of the entities that hold it, and how it follows the record of one entity.
use Rattle.std.proofs.Common.{◌≡◌, ◌≢◌, ℕ, ◌+◌, ◌<◌, ◌≤◌, Bool, true, false, not, cond, ◌&&◌, ◌||◌, T, List, [], ◌∷◌, Option, Some, None, is_eq, is_some, unwrap_or, nat_lt, count_by, refl, sym, ◌∙◌, ap, true≢false, lt-ltb, ⊎_elim, inl, inr, arith}
use Rattle.std.specs.Prelude.{◌⊎◌}
use Rattle.std.specs.FinMap as map
use Rattle.std.specs.FinMap.{find, is_sorted}
use Rattle.std.specs.FinMap.Entries.{below_all}
use Rattle.std.specs.Cmp.{eq_by_cmp_equiv}
use Rattle.std.specs.List.{list_any}
use Rattle.std.specs.Ordering.{eq_by_cmp}
use Rattle.std.proofs.lemmas.List.Sums.{sum_by-cons, count_by-le-length}
use Rattle.sorted_sets.specs.Counting.{one_if}
use Rattle.sorted_sets.specs.Rising.{has, difference}
use Rattle.sorted_sets.proofs.Bools.{clash, equal}
use Rattle.sorted_sets.proofs.Filtering.{has-difference}
use Rattle.sorted_sets.proofs.Keys.{and_first, and_second, less}
use Rattle.rdf_term.specs.declared.triple.Triple.{Triple}
use Rattle.rdf_term.specs.Order.{triple_cmp, triple_cmp-total}
use Rattle.entity_model.specs.declared.id.EntityId.{EntityId}
use Rattle.entity_model.specs.EntityId.{entity_cmp, entity_cmp_total, entity_cmp_same}
use Rattle.entity_state.specs.declared.record.Held.{Held}
use Rattle.entity_state.specs.declared.record.Record.{Record}
use Rattle.entity_state.specs.Record.{blank}
use Rattle.replay_model.specs.Records.{Bytes, Records, record_of}
use Rattle.replay_model.specs.Union.{Meaning, triples_at, triples_held, union, owners}
use Rattle.replay_model.proofs.Owners.{owners-change, has-union}
use Rattle.replay_model.proofs.Versions.{owners-agree}
use Rattle.shared_triples.specs.Lean.{triples_of}

-- two ids are one, or they aren't, as the test says
pub id_tells : (y x : EntityId) → ((eq_by_cmp entity_cmp y x ≡ true) × (y ≡ x)) ⊎ ((eq_by_cmp entity_cmp y x ≡ false) × (y ≢ x))
id_tells y x = by (eq_by_cmp entity_cmp y x) refl
  where
    by : (b : Bool) → eq_by_cmp entity_cmp y x ≡ b → ((eq_by_cmp entity_cmp y x ≡ true) × (y ≡ x)) ⊎ ((eq_by_cmp entity_cmp y x ≡ false) × (y ≢ x))
    by true e = inl (e, entity_cmp_same y x (equal _ e))
    by false e = inr (e, λ same. true≢false (sym ((eq_by_cmp_equiv entity_cmp_total).refl x) ∙ ap (λ z. eq_by_cmp entity_cmp z x) (sym same) ∙ e))

-- the record that was put in, and the others
pub record_here : (records : Records) (x : EntityId) (r : Record Bytes) (y : EntityId) → eq_by_cmp entity_cmp y x ≡ true → record_of (map.insert records x r) y ≡ r
record_here records x r y is =
    ap (λ o. unwrap_or o blank) (map.get-insert entity_cmp_total records x r y) ∙ ap (λ b. unwrap_or (cond b (Some r) (map.get records y)) blank) is

pub record_there : (records : Records) (x : EntityId) (r : Record Bytes) (y : EntityId) → eq_by_cmp entity_cmp y x ≡ false → record_of (map.insert records x r) y ≡ record_of records y
record_there records x r y isnt =
    ap (λ o. unwrap_or o blank) (map.get-insert entity_cmp_total records x r y) ∙ ap (λ b. unwrap_or (cond b (Some r) (map.get records y)) blank) isnt

shift : (a b : Bool) (n k : ℕ) → ((not a && b) ≡ true → n ≡ k + 1) → ((not b && a) ≡ true → n + 1 ≡ k) → ((not a && b) ≡ false → (not b && a) ≡ false → n ≡ k) → n + one_if a ≡ k + one_if b
shift true true n k more fewer same = ap (λ v. v + 1) (same refl refl)
shift true false n k more fewer same = let e : n + 1 ≡ k = fewer refl in omega arith
shift false true n k more fewer same = let e : n ≡ k + 1 = more refl in omega arith
shift false false n k more fewer same = ap (λ v. v + 0) (same refl refl)

-- what passes once passes
any-counted : {A : Type 0} (p : A → Bool) (xs : List A) → list_any p xs ≡ nat_lt 0 (count_by p xs)
any-counted p [] = refl
any-counted p (x ∷ xs) = ap (λ b. p x || b) (any-counted p xs) ∙ by (p x) (count_by p xs) ∙ ap (nat_lt 0) (sym (sum_by-cons (λ x. cond (p x) 1 0) x xs))
  where
    by : (b : Bool) (n : ℕ) → (b || nat_lt 0 n) ≡ nat_lt 0 (cond b 1 0 + n)
    by true n = sym (lt-ltb 0 (1 + n) (omega arith))
    by false n = ap (nat_lt 0) (omega arith)

-- a key below those of all entries isn't found
not_found : {X : Type 0} (k : EntityId) (es : List (EntityId × X)) → T (below_all entity_cmp k es) → find entity_cmp k es ≡ None
not_found k [] h = refl
not_found k (e ∷ es) h =
    ap (λ r. cond (is_eq r) (Some e.1) (find entity_cmp k es)) (less _ (and_first _ _ h)) ∙ not_found k es (and_second _ _ h)

-- the record among entries, blank where there is none
abbrev entry_of : List (EntityId × Record Bytes) → EntityId → Record Bytes
entry_of es x = unwrap_or (find entity_cmp x es) blank

module _ (m : Meaning Triple) where
  -- what the entity held has one owner less, and what it holds one more
  pub owners_moved : (records : Records) (x : EntityId) (r : Record Bytes) (t : Triple)
      → owners triple_cmp m (map.insert records x r) t + one_if (has triple_cmp t (triples_of m records x))
      ≡ owners triple_cmp m records t + one_if (has triple_cmp t (triples_held m x r.held))
  owners_moved records x r t =
      let old : List Triple = triples_of m records x in
      let new : List Triple = triples_held m x r.held in
      let changes = owners-change triple_cmp-total m records x r t in
      let comes : has triple_cmp t (difference triple_cmp new old) ≡ (not (has triple_cmp t old) && has triple_cmp t new) = has-difference triple_cmp-total t new old in
      let goes : has triple_cmp t (difference triple_cmp old new) ≡ (not (has triple_cmp t new) && has triple_cmp t old) = has-difference triple_cmp-total t old new in
      shift (has triple_cmp t old) (has triple_cmp t new) (owners triple_cmp m (map.insert records x r) t) (owners triple_cmp m records t)
      (λ h. changes.0 (comes ∙ h)) (λ h. changes.1 (goes ∙ h)) (λ h k. changes.2 (comes ∙ h) (goes ∙ k))

  -- what an entity holds has an owner, and is in the union
  pub has_owner : (records : Records) (x : EntityId) (t : Triple) → has triple_cmp t (triples_of m records x) ≡ true → 0 < owners triple_cmp m records t
  has_owner records x t there =
      let moved : owners triple_cmp m (map.insert records x blank) t + one_if (has triple_cmp t (triples_of m records x)) ≡ owners triple_cmp m records t + 0 = owners_moved records x blank t in
      let one : one_if (has triple_cmp t (triples_of m records x)) ≡ 1 = ap one_if there in
      omega arith

  pub in_union : (records : Records) (x : EntityId) (t : Triple) → has triple_cmp t (triples_of m records x) ≡ true → has triple_cmp t (union triple_cmp m records) ≡ true
  in_union records x t there = has-union triple_cmp-total m records t ∙ lt-ltb 0 _ (has_owner records x t there)

  holder_among : (t : Triple) (es : List (EntityId × Record Bytes)) → T (is_sorted entity_cmp es) → list_any (λ e. has triple_cmp t (triples_at m e)) es ≡ true
      → (y : EntityId) × (has triple_cmp t (triples_held m y (entry_of es y).held) ≡ true)
  holder_among t [] rises some = clash some refl
  holder_among t (e ∷ es) rises some = by (has triple_cmp t (triples_at m e)) refl (holder_among t es (and_second _ _ rises))
    where
      by : (b : Bool) → has triple_cmp t (triples_at m e) ≡ b
          → (list_any (λ e. has triple_cmp t (triples_at m e)) es ≡ true → (y : EntityId) × (has triple_cmp t (triples_held m y (entry_of es y).held) ≡ true))
          → (y : EntityId) × (has triple_cmp t (triples_held m y (entry_of (e ∷ es) y).held) ≡ true)
      by true here later =
          (e.0, ap (λ b. has triple_cmp t (triples_held m e.0 (unwrap_or (cond b (Some e.1) (find entity_cmp e.0 es)) blank).held)) ((eq_by_cmp_equiv entity_cmp_total).refl e.0) ∙ here)
      by false here later =
          let rest = later (sym (ap (λ b. b || list_any (λ e. has triple_cmp t (triples_at m e)) es) here) ∙ some) in
          ⊎_elim
          (λ own.
          let none : entry_of es rest.0 ≡ blank = ap (λ y. entry_of es y) own.1 ∙ ap (λ o. unwrap_or o blank) (not_found e.0 es (and_first _ _ rises)) in
          clash rest.1 (ap (λ (r : Record Bytes). has triple_cmp t (triples_held m rest.0 r.held)) none))
          (λ other.
          (rest.0, ap (λ b. has triple_cmp t (triples_held m rest.0 (unwrap_or (cond b (Some e.1) (find entity_cmp rest.0 es)) blank).held)) other.0 ∙ rest.1))
          (id_tells rest.0 e.0)

  -- what has an owner is held by some entity
  pub holder : (records : Records) (t : Triple) → nat_lt 0 (owners triple_cmp m records t) ≡ true → (y : EntityId) × (has triple_cmp t (triples_of m records y) ≡ true)
  holder records t some =
      let found = holder_among t (map.entries records) (map.entries_sorted records) (any-counted (λ e. has triple_cmp t (triples_at m e)) (map.entries records) ∙ some) in
      (found.0, ap (λ o. has triple_cmp t (triples_held m found.0 (unwrap_or o blank).held)) (map.get-entries records found.0) ∙ found.1)

  few_owners : (records : Records) (t : Triple) → owners triple_cmp m records t ≤ map.len records
  few_owners records t = omega (arith, count_by-le-length (λ entry. has triple_cmp t (triples_at m entry)) (map.entries records), map.len-entries records)

  -- without records no triple has an owner
  pub none_own : (t : Triple) → owners triple_cmp m map.empty t ≡ 0
  none_own t =
      let nothing : Records = map.empty in
      let few : owners triple_cmp m nothing t ≤ map.len nothing = few_owners nothing t in
      let none : map.len nothing ≡ 0 = map.len-empty entity_cmp (Record Bytes) in
      omega arith

-- what means the same but for one entity
module _ (m n : Meaning Triple) (x : EntityId) (agree : (y : EntityId) → y ≢ x → (rev : ℕ) (bytes : Bytes) → n y rev bytes ≡ m y rev bytes) where
  -- what another entity holds means the same
  pub held_agrees : (y : EntityId) → y ≢ x → (h : Option (Held Bytes)) → triples_held n y h ≡ triples_held m y h
  held_agrees y other None = refl
  held_agrees y other (Some h) = agree y other h.revision h.content

  -- the owners with the entity's own share by the one and by the other
  pub owners_but : (records : Records) (t : Triple)
      → owners triple_cmp n records t + one_if (has triple_cmp t (triples_of m records x))
      ≡ owners triple_cmp m records t + one_if (has triple_cmp t (triples_of n records x))
  owners_but records t =
      let same : owners triple_cmp n (map.insert records x blank) t ≡ owners triple_cmp m (map.insert records x blank) t =
      owners-agree triple_cmp m n (map.insert records x blank) (λ y. ⊎_elim
      (λ own. by y (record_of (map.insert records x blank) y).held (ap (λ (r : Record Bytes). r.held) (record_here records x blank y own.0)))
      (λ other. held_agrees y other.1 (record_of (map.insert records x blank) y).held)
      (id_tells y x)) t in
      let one : owners triple_cmp m (map.insert records x blank) t + one_if (has triple_cmp t (triples_of m records x)) ≡ owners triple_cmp m records t + 0 = owners_moved m records x blank t in
      let two : owners triple_cmp n (map.insert records x blank) t + one_if (has triple_cmp t (triples_of n records x)) ≡ owners triple_cmp n records t + 0 = owners_moved n records x blank t in
      omega arith
    where
      by : (y : EntityId) (h : Option (Held Bytes)) → h ≡ None → triples_held n y h ≡ triples_held m y h
      by y None e = refl
      by y (Some h) e = absurd (true≢false (ap is_some e))

  -- the owners follow the record of the entity
  pub owners_follow : (records : Records) (r : Record Bytes) (t : Triple)
      → owners triple_cmp n (map.insert records x r) t + one_if (has triple_cmp t (triples_of m records x))
      ≡ owners triple_cmp m records t + one_if (has triple_cmp t (triples_held n x r.held))
  owners_follow records r t =
      let between : owners triple_cmp n records t + one_if (has triple_cmp t (triples_of m records x)) ≡ owners triple_cmp m records t + one_if (has triple_cmp t (triples_of n records x)) = owners_but records t in
      let owned : owners triple_cmp n (map.insert records x r) t + one_if (has triple_cmp t (triples_of n records x)) ≡ owners triple_cmp n records t + one_if (has triple_cmp t (triples_held n x r.held)) = owners_moved n records x r t in
      omega arith
