-- How much room is needed where more entities are counted.
use Rattle.std.proofs.Common.{◌≡◌, ℕ, ◌+◌, ◌<◌, ◌≤◌, Bool, true, false, not, ◌&&◌, ◌||◌, List, [], ◌∷◌, ◌++◌, Option, filter, flat_map, take, drop, refl, sym, ◌∙◌, ap, subst, true≢false, ⊎_elim, arith}
use Rattle.std.specs.Ordering.{eq_by_cmp}
use Rattle.std.proofs.lemmas.List.{take-append-drop}
use Rattle.sorted_sets.specs.Rising.{has, sorted}
use Rattle.sorted_sets.proofs.{Bools.and_left, Bools.and_none, Bools.and_right, Bools.or_none, Bools.or_true}
use Rattle.sorted_sets.proofs.Rising.{has-append, has-sorted, has_itself}
use Rattle.rdf_term.specs.{declared.term.Term.Term, declared.triple.Triple.Triple}
use Rattle.rdf_term.specs.Order.{term_cmp, term_cmp-total, triple_cmp, triple_cmp-total}
use Rattle.rdf_term.proofs.Texts.{term_cmp-IsAntisymmetric}
use Rattle.entity_model.specs.{declared.id.EntityId.EntityId, declared.mapping.MappingVersion.MappingVersion, EntityId.entity_cmp, EntityId.entity_cmp_total}
use Rattle.entity_counts.specs.Naming.{Naming}
use Rattle.entity_state.specs.declared.record.Held.{Held}
use Rattle.slot_keys.proofs.Lists.{one_of, or_left}
use Rattle.triple_catalog.specs.Room.{distinct, terms_of}
use Rattle.triple_catalog.proofs.{Distinct.fewer, Rooming.terms_among}
use Rattle.replay_model.specs.{Records.Bytes, Records.Records, Records.record_of, Union.Meaning, Union.triples_held, Union.union, Versions.meaning_by}
use Rattle.replay_model.proofs.Owners.{has-union}
use Rattle.fetched_pages.specs.Meaning.{meaning}
use Rattle.shared_triples.specs.{Home.home_of, Lean.is_entity, Lean.is_own, Lean.stored_of, Lean.strangers, Lean.triples_of}
use Rattle.shared_triples.proofs.{Holding.holder, Holding.in_union, Parting.both_true, Parting.has-stored}
use Rattle.holders.specs.Roomed.{room_with}
use Rattle.lean_holdings.specs.{Changing.counted_with, Changing.needs, Changing.needs_where, Holding.counted_by, InStep.LeanState}
use Rattle.holders.proofs.Rooming.{distinct_same}

-- ---- terms

-- the terms of some triples are among those of more
terms_within : (ts us : List Triple) → ((t : Triple) → has triple_cmp t ts ≡ true → has triple_cmp t us ≡ true) → (x : Term) → has term_cmp x (flat_map terms_of ts) ≡ true → has term_cmp x (flat_map terms_of us) ≡ true
terms_within [] us within x h = absurd (true≢false (sym h))
terms_within (t ∷ ts) us within x h = ⊎_elim
    (λ here. (terms_among us t (within t (has_itself triple_cmp-total t ts))).each x here)
    (λ later. terms_within ts us (λ u there. within u (or_true (eq_by_cmp triple_cmp u t) _ there)) x later)
    (one_of (has term_cmp x (terms_of t)) (has term_cmp x (flat_map terms_of ts)) (sym (has-append term_cmp x (terms_of t) (flat_map terms_of ts)) ∙ h))

-- and are no more than those
fewer_terms : (ts us : List Triple) → ((t : Triple) → has triple_cmp t ts ≡ true → has triple_cmp t us ≡ true) → distinct (flat_map terms_of ts) ≤ distinct (flat_map terms_of us)
fewer_terms ts us within = fewer term_cmp-total term_cmp-IsAntisymmetric (flat_map terms_of ts) (flat_map terms_of us) (terms_within ts us within)

-- others need no less room than none
room_added : (m : Meaning Triple) (records : Records) (us : List Triple) → room_with m records [] ≤ room_with m records us
room_added m records us =
    let all : List Triple = union triple_cmp m records in
    fewer_terms (all ++ []) (all ++ us) (λ t there.
    has-append triple_cmp t all us ∙ or_left (has triple_cmp t all) (has triple_cmp t us) (sym (or_none (has triple_cmp t all)) ∙ sym (has-append triple_cmp t all []) ∙ there))

-- the same triples in another order need the same room
room_again : (m : Meaning Triple) (records : Records) (ts us : List Triple) → sorted triple_cmp ts ≡ us → room_with m records ts ≡ room_with m records us
room_again m records ts us is =
    let all : List Triple = union triple_cmp m records in
    distinct_same (all ++ ts) (all ++ us) (λ t.
    has-append triple_cmp t all ts ∙ ap (λ b. has triple_cmp t all || b) (sym (has-sorted triple_cmp-total t ts) ∙ ap (has triple_cmp t) is) ∙ sym (has-append triple_cmp t all us))

-- ---- the entities that are counted

-- where the same entities are counted the same is stored
pub stored_same : (c d : List EntityId) (m : Meaning Triple) → ((y : EntityId) → has entity_cmp y c ≡ has entity_cmp y d) → stored_of c m ≡ stored_of d m
stored_same c d m same i x rev bytes = filter (λ t. not (is_entity x (home_of t) && not (same x i))) (m x rev bytes)

not_own : (b c d : Bool) → (c ≡ true → d ≡ true) → not (b && not c) ≡ true → not (b && not d) ≡ true
not_own true true d more is = ap (λ e. not (not e)) (more refl)
not_own true false d more is = absurd (true≢false (sym is))
not_own false c d more is = refl

module _ (c d : List EntityId) (m : Meaning Triple) (records : Records) (more : (y : EntityId) → has entity_cmp y c ≡ true → has entity_cmp y d ≡ true) where
  held_more : (y : EntityId) (held : Option (Held Bytes)) (t : Triple) → has triple_cmp t (triples_held (stored_of c m) y held) ≡ true
      → has triple_cmp t (triples_held (stored_of d m) y held) ≡ true
  held_more y held t there =
      let parts : (not (is_own c y t) && has triple_cmp t (triples_held m y held)) ≡ true = sym (has-stored c m y held t) ∙ there in
      has-stored d m y held t
      ∙ both_true (not (is_own d y t)) _ (not_own (is_entity y (home_of t)) (has entity_cmp y c) (has entity_cmp y d) (more y) (and_left (not (is_own c y t)) _ parts))
      (and_right (not (is_own c y t)) _ parts)

  union_more : (t : Triple) → has triple_cmp t (union triple_cmp (stored_of c m) records) ≡ true → has triple_cmp t (union triple_cmp (stored_of d m) records) ≡ true
  union_more t there =
      let found = holder (stored_of c m) records t (sym (has-union triple_cmp-total (stored_of c m) records t) ∙ there) in
      in_union (stored_of d m) records found.0 t (held_more found.0 (record_of records found.0).held t found.1)

  -- what is stored needs no less room
  pub room_more : room_with (stored_of c m) records [] ≤ room_with (stored_of d m) records []
  room_more =
      let before : List Triple = union triple_cmp (stored_of c m) records in
      let after : List Triple = union triple_cmp (stored_of d m) records in
      fewer_terms (before ++ []) (after ++ []) (λ t there.
      has-append triple_cmp t after [] ∙ or_left (has triple_cmp t after) _
      (union_more t (sym (or_none (has triple_cmp t before)) ∙ sym (has-append triple_cmp t before []) ∙ there)))

  -- all of the page of a counted entity is stored
  counted_whole : (x : EntityId) (t : Triple) → has entity_cmp x d ≡ true → has triple_cmp t (triples_of m records x) ≡ true → has triple_cmp t (union triple_cmp (stored_of d m) records) ≡ true
  counted_whole x t is there =
      in_union (stored_of d m) records x t
      (has-stored d m x (record_of records x).held t
      ∙ both_true (not (is_own d x t)) _ (ap (λ b. not (is_entity x (home_of t) && not b)) is ∙ ap not (and_none (is_entity x (home_of t)))) there)

  -- where there is no room for the page of one of more entities there is none once all of these are counted
  pub full_more : (limit : ℕ) (x : EntityId) → has entity_cmp x d ≡ true → limit < room_with (stored_of c m) records (triples_of m records x) → limit < room_with (stored_of d m) records []
  full_more limit x is few =
      let before : List Triple = union triple_cmp (stored_of c m) records in
      let after : List Triple = union triple_cmp (stored_of d m) records in
      let least : room_with (stored_of c m) records (triples_of m records x) ≤ room_with (stored_of d m) records [] =
      fewer_terms (before ++ triples_of m records x) (after ++ []) (λ t there.
      has-append triple_cmp t after [] ∙ or_left (has triple_cmp t after) _ (⊎_elim
      (λ stored. union_more t stored)
      (λ meant. counted_whole x t is meant)
      (one_of (has triple_cmp t before) (has triple_cmp t (triples_of m records x)) (sym (has-append triple_cmp t before (triples_of m records x)) ∙ there)))) in
      omega arith

-- a step needs no less room where more entities are counted
pub needs_more : (c d : List EntityId) (m n : Meaning Triple) (records : Records) (x : EntityId) (held : Option (Held Bytes))
    → ((y : EntityId) → has entity_cmp y c ≡ true → has entity_cmp y d ≡ true)
    → needs_where c m n records x held ≤ needs_where d m n records x held
needs_more c d m n records x held more =
    let names : List EntityId = strangers x (triples_held n x held) in
    let c2 : List EntityId = counted_with c x (triples_held n x held) in
    let d2 : List EntityId = counted_with d x (triples_held n x held) in
    let all_more : (y : EntityId) → has entity_cmp y c2 ≡ true → has entity_cmp y d2 ≡ true = λ y there.
    has-append entity_cmp y names d ∙ ⊎_elim (λ own. or_left (has entity_cmp y names) _ own)
    (λ other. or_true (has entity_cmp y names) _ (more y other))
    (one_of (has entity_cmp y names) (has entity_cmp y c) (sym (has-append entity_cmp y names c) ∙ there)) in
    let before : List Triple = union triple_cmp (stored_of c2 m) records in
    let after : List Triple = union triple_cmp (stored_of d2 m) records in
    let come : List Triple = triples_held (stored_of c2 n) x held in
    let come2 : List Triple = triples_held (stored_of d2 n) x held in
    fewer_terms (before ++ come) (after ++ come2) (λ t there.
    has-append triple_cmp t after come2 ∙ ⊎_elim
    (λ stored. or_left (has triple_cmp t after) _ (union_more c2 d2 m records all_more t stored))
    (λ comes. or_true (has triple_cmp t after) _ (held_more c2 d2 n records all_more x held t comes))
    (one_of (has triple_cmp t before) (has triple_cmp t come) (sym (has-append triple_cmp t before come) ∙ there)))

-- some of them are counted
in_take : (y : EntityId) (n : ℕ) (ids : List EntityId) → has entity_cmp y (take n ids) ≡ true → has entity_cmp y ids ≡ true
in_take y n ids there =
    ap (has entity_cmp y) (sym (take-append-drop n ids)) ∙ has-append entity_cmp y (take n ids) (drop n ids) ∙ or_left (has entity_cmp y (take n ids)) _ there

pub some_counted : (names names2 : Naming) (ids : List EntityId) (n : ℕ)
    → ((y : EntityId) → has entity_cmp y (counted_by names2) ≡ (has entity_cmp y (take n ids) || has entity_cmp y (counted_by names)))
    → (y : EntityId) → has entity_cmp y (counted_by names2) ≡ true → (has entity_cmp y ids || has entity_cmp y (counted_by names)) ≡ true
some_counted names names2 ids n so y there = ⊎_elim
    (λ own. or_left (has entity_cmp y ids) _ (in_take y n ids own))
    (λ other. or_true (has entity_cmp y ids) _ other)
    (one_of (has entity_cmp y (take n ids)) (has entity_cmp y (counted_by names)) (sym (so y) ∙ there))

pub no_room : (limit : ℕ) (m : Meaning Triple) (records : Records) (names names2 : Naming) (ids : List EntityId) (n : ℕ) (id : EntityId) → take n ids ++ id ∷ [] ≡ take (n + 1) ids
    → ((y : EntityId) → has entity_cmp y (counted_by names2) ≡ (has entity_cmp y (take n ids) || has entity_cmp y (counted_by names)))
    → limit < room_with (stored_of (counted_by names2) m) records (triples_of m records id)
    → limit < room_with (stored_of (ids ++ counted_by names) m) records []
no_room limit m records names names2 ids n id one_more so few =
    full_more (counted_by names2) (ids ++ counted_by names) m records
    (λ y there. has-append entity_cmp y ids (counted_by names) ∙ some_counted names names2 ids n so y there)
    limit id
    (has-append entity_cmp id ids (counted_by names) ∙ or_left (has entity_cmp id ids) _ (in_take id (n + 1) ids
    (ap (has entity_cmp id) (sym one_more) ∙ has-append entity_cmp id (take n ids) (id ∷ []) ∙ or_true (has entity_cmp id (take n ids)) _ (has_itself entity_cmp_total id []))))
    few

-- ---- what a step needs

module _ (h : LeanState) (v : MappingVersion) (x : EntityId) (held : Option (Held Bytes)) (come : List EntityId)
    (come_are : (y : EntityId) → has entity_cmp y come ≡ has entity_cmp y (strangers x (triples_held (meaning v) x held))) where
  abbrev counted : List EntityId
  counted = counted_by h.names

  abbrev all_counted : List EntityId
  all_counted = counted_with counted x (triples_held (meaning v) x held)

  all_are : (y : EntityId) → (has entity_cmp y come || has entity_cmp y counted) ≡ has entity_cmp y all_counted
  all_are y = ap (λ b. b || has entity_cmp y counted) (come_are y) ∙ sym (has-append entity_cmp y (strangers x (triples_held (meaning v) x held)) counted)

  -- where there is no room for all pages that are to be stored whole
  pub ready_needs : (limit : ℕ) → limit < room_with (stored_of (come ++ counted) (meaning_by meaning h.by_two)) h.records [] → limit < needs h v x held
  ready_needs limit few =
      let m : Meaning Triple = meaning_by meaning h.by_two in
      let same : stored_of (come ++ counted) m ≡ stored_of all_counted m = stored_same (come ++ counted) all_counted m (λ y. has-append entity_cmp y come counted ∙ all_are y) in
      let now : limit < room_with (stored_of all_counted m) h.records [] = subst (λ (n : Meaning Triple). limit < room_with n h.records []) same few in
      let least : room_with (stored_of all_counted m) h.records [] ≤ needs h v x held = room_added (stored_of all_counted m) h.records (triples_held (stored_of all_counted (meaning v)) x held) in
      omega arith

  -- and the room that the page's stored triples need then
  pub put_needs : (h2 : LeanState) (shared : List Triple) → h2.records ≡ h.records → h2.by_two ≡ h.by_two
      → ((y : EntityId) → has entity_cmp y (counted_by h2.names) ≡ (has entity_cmp y come || has entity_cmp y counted))
      → sorted triple_cmp shared ≡ triples_held (stored_of (counted_by h2.names) (meaning v)) x held
      → room_with (stored_of (counted_by h2.names) (meaning_by meaning h2.by_two)) h2.records shared ≡ needs h v x held
  put_needs h2 shared records by_two counted2 stored =
      let all_same : (y : EntityId) → has entity_cmp y (counted_by h2.names) ≡ has entity_cmp y all_counted = λ y. counted2 y ∙ all_are y in
      room_again (stored_of (counted_by h2.names) (meaning_by meaning h2.by_two)) h2.records shared _ stored
      ∙ (λ i. room_with (stored_of (counted_by h2.names) (meaning_by meaning (by_two i))) (records i) (triples_held (stored_of (counted_by h2.names) (meaning v)) x held))
      ∙ (λ i. room_with (stored_same (counted_by h2.names) all_counted (meaning_by meaning h.by_two) all_same i) h.records
      (triples_held (stored_same (counted_by h2.names) all_counted (meaning v) all_same i) x held))
