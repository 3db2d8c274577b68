-- The invariant at the start, after an entity is counted in, and after a record is put in.
use Rattle.std.proofs.Common.{◌≡◌, ◌≢◌, ℕ, ◌+◌, Bool, true, false, not, ◌&&◌, ◌||◌, List, Option, filter, unwrap_or, refl, sym, ◌∙◌, ap, ⊎_elim, arith}
use Rattle.std.specs.FinMap as map
use Rattle.std.specs.Ordering.{eq_by_cmp}
use Rattle.sorted_sets.specs.Counting.{one_if}
use Rattle.sorted_sets.specs.Rising.{has}
use Rattle.sorted_sets.proofs.Bools.{and_none, clash, or_true}
use Rattle.rdf_term.specs.declared.triple.Triple.{Triple}
use Rattle.rdf_term.specs.Order.{triple_cmp}
use Rattle.entity_model.specs.declared.id.EntityId.{EntityId}
use Rattle.entity_model.specs.EntityId.{entity_cmp, entity_cmp_total}
use Rattle.std.specs.Cmp.{eq_by_cmp_equiv}
use Rattle.entity_state.specs.declared.record.Record.{Record}
use Rattle.entity_state.specs.Record.{blank}
use Rattle.replay_model.specs.Records.{Bytes, Records, record_of}
use Rattle.replay_model.specs.Union.{Meaning, triples_held, owners}
use Rattle.shared_triples.specs.Home.{home_of}
use Rattle.shared_triples.specs.Lean.{AreCounted, Exchanges, IsLean, OthersHoldAlike, is_entity, is_own, own_of, stored_of, strangers, triples_of}
use Rattle.shared_triples.proofs.Holding.{held_agrees, id_tells, none_own, owners_but, owners_follow, record_here, record_there}
use Rattle.shared_triples.proofs.Parting.{has-own, has-stored, left_true}

-- without pages nothing is counted
pub at_start : (m : Meaning Triple) (counted : List EntityId) → IsLean m counted (λ t. 0) map.empty
at_start m counted = record {
  counts = λ t. sym (none_own (stored_of counted m) t);
  strangers = λ y x there. clash there (ap (λ (o : Option (Record Bytes)). has entity_cmp x (strangers y (triples_held m y (unwrap_or o blank).held))) (map.get-empty entity_cmp y));
}

-- ---- counting in

shares : (s a : Bool) → one_if a ≡ one_if (not s && a) + one_if (s && a)
shares true true = refl
shares true false = refl
shares false true = refl
shares false false = refl

module _ (m : Meaning Triple) (counted counted_after : List EntityId) (x : EntityId)
    (more : (y : EntityId) → has entity_cmp y counted_after ≡ (eq_by_cmp entity_cmp y x || has entity_cmp y counted)) where
  counted_now : has entity_cmp x counted_after ≡ true
  counted_now = more x ∙ left_true (eq_by_cmp entity_cmp x x) _ ((eq_by_cmp_equiv entity_cmp_total).refl x)

  -- all of the page of x is stored now, and of the other pages what was
  none_own_now : (t : Triple) → is_own counted_after x t ≡ false
  none_own_now t = ap (λ b. is_entity x (home_of t) && not b) counted_now ∙ and_none (is_entity x (home_of t))

  others_stored : (y : EntityId) → y ≢ x → (rev : ℕ) (bytes : Bytes) → stored_of counted_after m y rev bytes ≡ stored_of counted m y rev bytes
  others_stored y other rev bytes =
      let same : has entity_cmp y counted_after ≡ has entity_cmp y counted =
      ⊎_elim (λ own. absurd (other own.1)) (λ no. more y ∙ ap (λ b. b || has entity_cmp y counted) no.0) (id_tells y x) in
      λ i. filter (λ t. not (is_entity y (home_of t) && not (same i))) (m y rev bytes)

  pub counted_in-kept : (count count_after : Triple → ℕ) (records : Records) → IsLean m counted count records
      → ((t : Triple) → count_after t ≡ count t + one_if (has triple_cmp t (triples_of (own_of counted m) records x)))
      → IsLean m counted_after count_after records
  counted_in-kept count count_after records h counts = record {
    counts = λ t.
        let a : Bool = has triple_cmp t (triples_of m records x) in
        let s : Bool = is_own counted x t in
        let was : count t ≡ owners triple_cmp (stored_of counted m) records t = h.counts t in
        let now : count_after t ≡ count t + one_if (has triple_cmp t (triples_of (own_of counted m) records x)) = counts t in
        let own : one_if (has triple_cmp t (triples_of (own_of counted m) records x)) ≡ one_if (s && a) = ap one_if (has-own counted m x (record_of records x).held t) in
        let old : one_if (has triple_cmp t (triples_of (stored_of counted m) records x)) ≡ one_if (not s && a) = ap one_if (has-stored counted m x (record_of records x).held t) in
        let new : one_if (has triple_cmp t (triples_of (stored_of counted_after m) records x)) ≡ one_if a =
        ap one_if (has-stored counted_after m x (record_of records x).held t ∙ ap (λ b. not b && a) (none_own_now t)) in
        let both : one_if a ≡ one_if (not s && a) + one_if (s && a) = shares s a in
        let moved : owners triple_cmp (stored_of counted_after m) records t + one_if (has triple_cmp t (triples_of (stored_of counted m) records x))
        ≡ owners triple_cmp (stored_of counted m) records t + one_if (has triple_cmp t (triples_of (stored_of counted_after m) records x)) = owners_but (stored_of counted m) (stored_of counted_after m) x others_stored records t in
        omega arith;
    strangers = λ y z there. more z ∙ or_true (eq_by_cmp entity_cmp z x) _ (h.strangers y z there);
  }

-- ---- counting out

module _ (m : Meaning Triple) (counted counted_after : List EntityId) (x : EntityId) (there : has entity_cmp x counted ≡ true)
    (fewer : (y : EntityId) → has entity_cmp y counted_after ≡ (not (eq_by_cmp entity_cmp y x) && has entity_cmp y counted)) where
  other_counted : (y : EntityId) → y ≢ x → has entity_cmp y counted_after ≡ has entity_cmp y counted
  other_counted y other = ⊎_elim (λ own. absurd (other own.1)) (λ no. fewer y ∙ ap (λ b. not b && has entity_cmp y counted) no.0) (id_tells y x)

  others_stored_out : (y : EntityId) → y ≢ x → (rev : ℕ) (bytes : Bytes) → stored_of counted m y rev bytes ≡ stored_of counted_after m y rev bytes
  others_stored_out y other rev bytes = λ i. filter (λ t. not (is_entity y (home_of t) && not (sym (other_counted y other) i))) (m y rev bytes)

  pub counted_out-kept : (count count_after : Triple → ℕ) (records : Records) → IsLean m counted count records
      → ((y : EntityId) → has entity_cmp x (strangers y (triples_of m records y)) ≡ false)
      → ((t : Triple) → count_after t + one_if (has triple_cmp t (triples_of (own_of counted_after m) records x)) ≡ count t)
      → IsLean m counted_after count_after records
  counted_out-kept count count_after records h unnamed counts = record {
    counts = λ t.
        let a : Bool = has triple_cmp t (triples_of m records x) in
        let s : Bool = is_own counted_after x t in
        let was : count t ≡ owners triple_cmp (stored_of counted m) records t = h.counts t in
        let now : count_after t + one_if (has triple_cmp t (triples_of (own_of counted_after m) records x)) ≡ count t = counts t in
        let own : one_if (has triple_cmp t (triples_of (own_of counted_after m) records x)) ≡ one_if (s && a) = ap one_if (has-own counted_after m x (record_of records x).held t) in
        let new : one_if (has triple_cmp t (triples_of (stored_of counted_after m) records x)) ≡ one_if (not s && a) = ap one_if (has-stored counted_after m x (record_of records x).held t) in
        let none : is_own counted x t ≡ false = ap (λ b. is_entity x (home_of t) && not b) there ∙ and_none (is_entity x (home_of t)) in
        let old : one_if (has triple_cmp t (triples_of (stored_of counted m) records x)) ≡ one_if a =
        ap one_if (has-stored counted m x (record_of records x).held t ∙ ap (λ b. not b && a) none) in
        let both : one_if a ≡ one_if (not s && a) + one_if (s && a) = shares s a in
        let moved : owners triple_cmp (stored_of counted m) records t + one_if (has triple_cmp t (triples_of (stored_of counted_after m) records x))
        ≡ owners triple_cmp (stored_of counted_after m) records t + one_if (has triple_cmp t (triples_of (stored_of counted m) records x)) =
        owners_but (stored_of counted_after m) (stored_of counted m) x others_stored_out records t in
        omega arith;
    strangers = λ y z named. ⊎_elim
        (λ own. clash named (ap (λ w. has entity_cmp w (strangers y (triples_of m records y))) own.1 ∙ unnamed y))
        (λ no. other_counted z no.1 ∙ h.strangers y z named)
        (id_tells z x);
  }

-- ---- putting in

module _ (m n : Meaning Triple) (x : EntityId) (agree : (y : EntityId) → y ≢ x → (rev : ℕ) (bytes : Bytes) → n y rev bytes ≡ m y rev bytes) (records : Records) (r : Record Bytes) where
  -- all others hold the same
  pub put_in-alike : OthersHoldAlike x m records n (map.insert records x r)
  put_in-alike y other =
      ⊎_elim
      (λ own. absurd (other own.1))
      (λ no. ap (λ (s : Record Bytes). triples_held n y s.held) (record_there records x r y no.0) ∙ held_agrees m n x agree y other (record_of records y).held)
      (id_tells y x)

  pub put_in-kept : (counted : List EntityId) (count count_after : Triple → ℕ) → IsLean m counted count records
      → AreCounted counted (strangers x (triples_held n x r.held))
      → Exchanges count count_after (triples_of (stored_of counted m) records x) (triples_held (stored_of counted n) x r.held)
      → IsLean n counted count_after (map.insert records x r)
  put_in-kept counted count count_after h known moves = record {
    counts = λ t.
        let was : count t ≡ owners triple_cmp (stored_of counted m) records t = h.counts t in
        let now : count_after t + one_if (has triple_cmp t (triples_of (stored_of counted m) records x)) ≡ count t + one_if (has triple_cmp t (triples_held (stored_of counted n) x r.held)) = moves.counts t in
        let owned : owners triple_cmp (stored_of counted n) (map.insert records x r) t + one_if (has triple_cmp t (triples_of (stored_of counted m) records x))
        ≡ owners triple_cmp (stored_of counted m) records t + one_if (has triple_cmp t (triples_held (stored_of counted n) x r.held)) =
        owners_follow (stored_of counted m) (stored_of counted n) x (λ y other rev bytes. ap (filter (λ t. not (is_own counted y t))) (agree y other rev bytes)) records r t in
        omega arith;
    strangers = λ y z there. ⊎_elim
        (λ own.
        known z (sym (ap (λ (s : Record Bytes). has entity_cmp z (strangers y (triples_held n y s.held))) (record_here records x r y own.0) ∙ ap (λ w. has entity_cmp z (strangers w (triples_held n w r.held))) own.1) ∙ there))
        (λ no. h.strangers y z (sym (ap (λ ts. has entity_cmp z (strangers y ts)) (put_in-alike y no.1)) ∙ there))
        (id_tells y x);
  }

-- ---- mapping the page of x anew

module _ (m n : Meaning Triple) (x : EntityId) (agree : (y : EntityId) → y ≢ x → (rev : ℕ) (bytes : Bytes) → n y rev bytes ≡ m y rev bytes) (records : Records) where
  pub remap-alike : OthersHoldAlike x m records n records
  remap-alike y other = held_agrees m n x agree y other (record_of records y).held

  pub remap-kept : (counted : List EntityId) (count count_after : Triple → ℕ) → IsLean m counted count records
      → AreCounted counted (strangers x (triples_of n records x))
      → Exchanges count count_after (triples_of (stored_of counted m) records x) (triples_of (stored_of counted n) records x)
      → IsLean n counted count_after records
  remap-kept counted count count_after h known moves = record {
    counts = λ t.
        let was : count t ≡ owners triple_cmp (stored_of counted m) records t = h.counts t in
        let now : count_after t + one_if (has triple_cmp t (triples_of (stored_of counted m) records x)) ≡ count t + one_if (has triple_cmp t (triples_of (stored_of counted n) records x)) = moves.counts t in
        let owned : owners triple_cmp (stored_of counted n) records t + one_if (has triple_cmp t (triples_of (stored_of counted m) records x))
        ≡ owners triple_cmp (stored_of counted m) records t + one_if (has triple_cmp t (triples_of (stored_of counted n) records x)) =
        owners_but (stored_of counted m) (stored_of counted n) x (λ y other rev bytes. ap (filter (λ t. not (is_own counted y t))) (agree y other rev bytes)) records t in
        omega arith;
    strangers = λ y z there. ⊎_elim
        (λ own. known z (sym (ap (λ w. has entity_cmp z (strangers w (triples_of n records w))) own.1) ∙ there))
        (λ no. h.strangers y z (sym (ap (λ ts. has entity_cmp z (strangers y ts)) (remap-alike y no.1)) ∙ there))
        (id_tells y x);
  }
