-- The terms of the stored triples are those in the slots.
use Rattle.std.proofs.Common.{◌≡◌, ℕ, zero, suc, ◌+◌, ◌<◌, ◌≤◌, true, false, ◌||◌, cond, ⊎_elim, List, [], ◌∷◌, ◌++◌, length, get_or, Option, Some, None, is_some, count_by, Ordering, Less, Equal, Greater, is_eq, refl, sym, ◌∙◌, ap, subst, arith, true≢false}
use Rattle.std.specs.{BTreeSet.insert_key, List.flat_map, Ordering.eq_by_cmp, Ordering.match_ordering}
use Rattle.std.specs.FinMap as map
use Rattle.std.proofs.{lemmas.Bool.cases_eq, lemmas.Cmp.tied_itself, lemmas.List.Sums.sum_by-cons}
use Rattle.sorted_sets.specs.Rising.{has, sorted}
use Rattle.sorted_sets.proofs.{Bools.equal, Bools.or_none, Bools.or_true, Rising.has-append, Rising.has_itself}
use Rattle.rdf_term.specs.{declared.term.Term.Term, declared.triple.Triple.Triple}
use Rattle.rdf_term.specs.{Order.term_cmp, Order.term_cmp-total, Order.triple_cmp, Order.triple_cmp-total, Text.term_text, Undo.undo}
use Rattle.rdf_term.proofs.Texts.{term_cmp-IsAntisymmetric, undo-term_text}
use Rattle.text_region.specs.Region.{Texts, bytes_of}
use Rattle.term_pool.specs.{declared.slots.Entry.Entry, declared.pool.Pool.Pool, Pool.terms, Pool.text_in_slot, Pool.live_text}
use Rattle.term_pool.proofs.Lying.{if_other, used_at}
use Rattle.slot_keys.specs.{declared.key.Key.Key, Keys.key_cmp, Keys.key_cmp-total, Keys.same_key}
use Rattle.slot_keys.proofs.Lists.{one_of, or_left}
use Rattle.triple_catalog.specs.{declared.catalog.Catalog.Catalog, Interning.HasTermsOf, Moves.TakesIn}
use Rattle.triple_catalog.specs.Room.{distinct, room_for, terms_of}
use Rattle.triple_catalog.specs.Slots.{HasTriple, term_in, triple_at, used, uses}
use Rattle.triple_catalog.specs.Stored.{HasKey, IsStored, counts_in, limit_of}
use Rattle.triple_catalog.proofs.{Distinct.as_many, Distinct.fewer, Rooming.positive_sum, Rooming.terms_among}
use Rattle.triple_catalog.proofs.Standing.{contains-image, has-triples_at, key_stored, stored_key}

module _ {K : Type 0} (R : K → K → Ordering) where
  length-insert : (k : K) (xs : List K) → length (insert_key R xs k) ≤ length xs + 1
  length-insert k [] = omega arith
  length-insert k (x ∷ xs) =
      elim (R k x) as (λ r. length (match_ordering r (k ∷ x ∷ xs) (x ∷ xs) (x ∷ insert_key R xs k)) ≤ length (x ∷ xs) + 1) [
        | Less ↦ omega arith
        | Equal ↦ omega arith
        | Greater ↦ omega (arith, length-insert k xs)
      ]

  -- a list has no more different elements than elements
  pub length-sorted : (xs : List K) → length (sorted R xs) ≤ length xs
  length-sorted [] = omega arith
  length-sorted (x ∷ xs) = omega (arith, length-insert x (sorted R xs), length-sorted xs)

-- the terms in the slots
abbrev in_slots : Texts → List (Option Entry) → List Term
in_slots r [] = []
in_slots r (None ∷ rest) = in_slots r rest
in_slots r (Some e ∷ rest) = term_in (bytes_of r e.piece) ∷ in_slots r rest

length-in_slots : (r : Texts) (slots : List (Option Entry)) → length (in_slots r slots) ≡ count_by is_some slots
length-in_slots r [] = refl
length-in_slots r (None ∷ rest) = omega (arith, length-in_slots r rest, sum_by-cons (λ (o : Option Entry). cond (is_some o) 1 0) None rest)
length-in_slots r (Some e ∷ rest) = omega (arith, length-in_slots r rest, sum_by-cons (λ (o : Option Entry). cond (is_some o) 1 0) (Some e) rest)

slot_in : (r : Texts) (slots : List (Option Entry)) (i : ℕ) (t : Term) → live_text r (get_or slots i None) ≡ Some (term_text t) → has term_cmp t (in_slots r slots) ≡ true
slot_in r [] i t h = cc
slot_in r (None ∷ rest) zero t h = cc
slot_in r (None ∷ rest) (suc i) t h = slot_in r rest i t h
slot_in r (Some e ∷ rest) zero t h =
    or_left (eq_by_cmp term_cmp t (term_in (bytes_of r e.piece))) _ (ap (eq_by_cmp term_cmp t) (ap term_in h ∙ undo-term_text t) ∙ ap is_eq (tied_itself term_cmp-total t))
slot_in r (Some e ∷ rest) (suc i) t h = or_true (eq_by_cmp term_cmp t (term_in (bytes_of r e.piece))) _ (slot_in r rest i t h)

-- terms each of which is in a slot are no more than the slots
no_more : (p : Pool) (r : Texts) (ts : List Term) → ((t : Term) → has term_cmp t ts ≡ true → (slot : ℕ) × (text_in_slot p r slot ≡ Some (term_text t))) → distinct ts ≤ terms p
no_more p r ts each =
    let mine = in_slots r p.slots.slots in
    omega (arith, fewer term_cmp-total term_cmp-IsAntisymmetric ts mine (λ t there. let one : (slot : ℕ) × (text_in_slot p r slot ≡ Some (term_text t)) = each t there in slot_in r p.slots.slots one.0 t one.1), length-sorted term_cmp mine, length-in_slots r p.slots.slots)

-- a term of a list of triples is one of a triple
pub term_of : (ts : List Triple) (x : Term) → has term_cmp x (flat_map terms_of ts) ≡ true → (t : Triple) × (has triple_cmp t ts ≡ true) × (has term_cmp x (terms_of t) ≡ true)
term_of [] x h = absurd (true≢false (sym h))
term_of (t ∷ ts) x h =
    ⊎_elim
    (λ first. (t, has_itself triple_cmp-total t ts, first))
    (λ later. let one : (u : Triple) × (has triple_cmp u ts ≡ true) × (has term_cmp x (terms_of u) ≡ true) = term_of ts x later in (one.0, or_true (eq_by_cmp triple_cmp one.0 t) _ one.1, one.2))
    (one_of (has term_cmp x (terms_of t)) (has term_cmp x (flat_map terms_of ts)) (sym (has-append term_cmp x (terms_of t) (flat_map terms_of ts)) ∙ h))

-- the terms of a triple that slots stand for are in slots
pub in_slot : (p : Pool) (r : Texts) (key : Key) (t : Triple) → HasTriple p r key t → (x : Term) → has term_cmp x (terms_of t) ≡ true → (slot : ℕ) × (text_in_slot p r slot ≡ Some (term_text x))
in_slot p r key t h x there =
    let is : (y : Term) → eq_by_cmp term_cmp x y ≡ true → y ≡ x = λ y e. sym (term_cmp-IsAntisymmetric x y (equal _ e)) in
    ⊎_elim
    (λ a. (key.first, h.subject ∙ ap (λ y. Some (term_text y)) (is t.subject a)))
    (λ rest. ⊎_elim
    (λ b. (key.second, h.predicate ∙ ap (λ y. Some (term_text y)) (is t.predicate b)))
    (λ c. (key.third, h.object ∙ ap (λ y. Some (term_text y)) (is t.object (sym (or_none (eq_by_cmp term_cmp x t.object)) ∙ c))))
    (one_of (eq_by_cmp term_cmp x t.predicate) (eq_by_cmp term_cmp x t.object || false) rest))
    (one_of (eq_by_cmp term_cmp x t.subject) (eq_by_cmp term_cmp x t.predicate || (eq_by_cmp term_cmp x t.object || false)) there)

-- where all that came is stored, there is room for it beside what was stored
pub room_within : (st : Catalog) (r : Texts) (now : Catalog) (s : Texts) (had keys : List Key) (triples : List Triple) → IsStored st r → TakesIn st r now s had keys triples → room_for (counts_in st r) triples ≤ limit_of st
room_within st r now s had keys triples stored h =
    let before = map.keys (counts_in st r) in
    let each : (t : Term) → has term_cmp t (flat_map terms_of (before ++ triples)) ≡ true → (slot : ℕ) × (text_in_slot now.pool s slot ≡ Some (term_text t)) = λ t there.
    let one : (u : Triple) × (has triple_cmp u (before ++ triples) ≡ true) × (has term_cmp t (terms_of u) ≡ true) = term_of (before ++ triples) t there in
    ⊎_elim
    (λ was. let key : (k : Key) × HasKey st r k one.0 = key_stored st r stored one.0 (map.contains_key-keys (counts_in st r) one.0 ∙ was) in in_slot now.pool s key.0 one.0 (h.kept key.0 one.0 key.1).has t one.2)
    (λ came. let key : (k : Key) × HasKey now s k one.0 × (has key_cmp k keys ≡ true) = h.all one.0 came in in_slot now.pool s key.0 one.0 key.1.has t one.2)
    (one_of (has triple_cmp one.0 before) (has triple_cmp one.0 triples) (sym (has-append triple_cmp one.0 before triples) ∙ one.1)) in
    omega (arith, no_more now.pool s (flat_map terms_of (before ++ triples)) each, h.stored.lies.few, h.limit)

-- a used slot is at a place of a triple
used_key : (keys : List Key) (slot : ℕ) → 0 < used keys slot → (key : Key) × (has key_cmp key keys ≡ true) × (0 < uses slot key)
used_key [] slot h = absurd (omega (arith, h))
used_key (k ∷ keys) slot h =
    ⊎_elim
    (λ here. (k, has_itself key_cmp-total k keys, here))
    (λ later. let one : (key : Key) × (has key_cmp key keys ≡ true) × (0 < uses slot key) = used_key keys slot later in (one.0, or_true (same_key one.0 k) _ one.1, one.2))
    (positive_sum (uses slot k) (used keys slot) (omega (arith, h, sum_by-cons (uses slot) k keys)))

read_back : (p : Pool) (r : Texts) (a slot : ℕ) (text : List ℕ) (t : Term) → a ≡ slot → text_in_slot p r a ≡ Some (term_text t) → text_in_slot p r slot ≡ Some text → undo text ≡ t
read_back p r a slot text t e h g =
    let both : Some text ≡ Some (term_text t) = sym g ∙ ap (text_in_slot p r) (sym e) ∙ h in
    ap (λ o. term_in o) both ∙ undo-term_text t

-- what a slot has is a term of the triple at whose place it is
its_term : (p : Pool) (r : Texts) (key : Key) (t : Triple) (slot : ℕ) (text : List ℕ) → HasTriple p r key t → 0 < uses slot key → text_in_slot p r slot ≡ Some text → has term_cmp (undo text) (terms_of t) ≡ true
its_term p r key t slot text h some at =
    ⊎_elim
    (λ a. subst (λ (x : Term). has term_cmp x (terms_of t) ≡ true) (sym (read_back p r key.first slot text t.subject a h.subject at)) (has_itself term_cmp-total t.subject (t.predicate ∷ t.object ∷ [])))
    (λ na. ⊎_elim
    (λ b. subst (λ (x : Term). has term_cmp x (terms_of t) ≡ true) (sym (read_back p r key.second slot text t.predicate b h.predicate at)) (or_true (eq_by_cmp term_cmp t.predicate t.subject) _ (has_itself term_cmp-total t.predicate (t.object ∷ []))))
    (λ nb. ⊎_elim
    (λ c. subst (λ (x : Term). has term_cmp x (terms_of t) ≡ true) (sym (read_back p r key.third slot text t.object c h.object at)) (or_true (eq_by_cmp term_cmp t.object t.subject) _ (or_true (eq_by_cmp term_cmp t.object t.predicate) _ (has_itself term_cmp-total t.object []))))
    (λ nc. absurd (omega (arith, some, if_other key.first slot na, if_other key.second slot nb, if_other key.third slot nc)))
    (cases_eq key.third slot))
    (cases_eq key.second slot))
    (cases_eq key.first slot)

has_terms : (st : Catalog) (r : Texts) → IsStored st r → HasTermsOf st.pool r (flat_map terms_of (map.keys (counts_in st r) ++ []))
has_terms st r h = record {
  each = λ slot text at.
      let m = triple_at st.pool r in
      let keys = map.keys st.index in
      let one : (key : Key) × (has key_cmp key keys ≡ true) × (0 < uses slot key) = used_key keys slot (omega (arith, h.counted slot, used_at st.pool r h.lies slot text at)) in
      let stored : has triple_cmp (m one.0) (map.keys (counts_in st r) ++ []) ≡ true =
      has-append triple_cmp (m one.0) (map.keys (counts_in st r)) [] ∙ or_left _ false (sym (map.contains_key-keys (counts_in st r) (m one.0)) ∙ contains-image m st.index (m one.0) ∙ has-triples_at m keys one.0 one.1) in
      (terms_among (map.keys (counts_in st r) ++ []) (m one.0) stored).each (undo text) (its_term st.pool r one.0 (m one.0) slot text (stored_key st r h one.0 (map.contains_key-keys st.index one.0 ∙ one.1)).has one.2 at);
}

-- there are as many terms as the stored triples have
pub terms_counted : (st : Catalog) (r : Texts) → IsStored st r → terms st.pool ≡ room_for (counts_in st r) []
terms_counted st r h =
    let all = map.keys (counts_in st r) ++ [] in
    let each : (t : Term) → has term_cmp t (flat_map terms_of all) ≡ true → (slot : ℕ) × (text_in_slot st.pool r slot ≡ Some (term_text t)) = λ t there.
    let one : (u : Triple) × (has triple_cmp u all ≡ true) × (has term_cmp t (terms_of u) ≡ true) = term_of all t there in
    let key : (k : Key) × HasKey st r k one.0 = key_stored st r h one.0 (map.contains_key-keys (counts_in st r) one.0 ∙ sym (or_none (has triple_cmp one.0 (map.keys (counts_in st r)))) ∙ sym (has-append triple_cmp one.0 (map.keys (counts_in st r)) []) ∙ one.1) in
    in_slot st.pool r key.0 one.0 key.1.has t one.2 in
    omega (arith, as_many st.pool r (flat_map terms_of all) h.lies (has_terms st r h), no_more st.pool r (flat_map terms_of all) each)
