-- A lean world needs no more room than one that stores all triples.
use Rattle.std.proofs.Common.{◌≡◌, ℕ, ◌≤◌, Bool, true, false, not, ◌||◌, List, [], ◌∷◌, ◌++◌, Option, flat_map, sym, ◌∙◌, true≢false, ⊎_elim, arith}
use Rattle.std.specs.Ordering.{eq_by_cmp}
use Rattle.sorted_sets.specs.Rising.{has}
use Rattle.sorted_sets.proofs.{Bools.and_right, Bools.or_true}
use Rattle.sorted_sets.proofs.Rising.{has-append, has_itself}
use Rattle.rdf_term.specs.{declared.term.Term.Term, declared.triple.Triple.Triple}
use Rattle.rdf_term.specs.Order.{term_cmp, term_cmp-total, triple_cmp, triple_cmp-total}
use Rattle.rdf_term.proofs.Texts.{term_cmp-IsAntisymmetric}
use Rattle.entity_model.specs.declared.id.EntityId.{EntityId}
use Rattle.entity_state.specs.declared.record.Held.{Held}
use Rattle.slot_keys.proofs.Lists.{one_of, or_left}
use Rattle.triple_catalog.specs.Room.{distinct, terms_of}
use Rattle.triple_catalog.proofs.{Distinct.fewer, Rooming.terms_among}
use Rattle.replay_model.specs.{Records.Bytes, Records.Records, Union.Meaning, Union.triples_held, Union.union}
use Rattle.replay_model.proofs.Owners.{has-union}
use Rattle.shared_triples.specs.Lean.{is_own, stored_of, triples_of}
use Rattle.shared_triples.proofs.{Holding.holder, Holding.in_union, Parting.has-stored}
use Rattle.holders.specs.Roomed.{room_with}
use Rattle.lean_holdings.specs.Changing.{counted_with, named_by}
use Rattle.world.specs.Limit.{needs}

-- the terms of some triples are among those of more
terms_within : (ts us : List Triple) → ((t : Triple) → has triple_cmp t ts ≡ true → has triple_cmp t us ≡ true) → (x : Term) → has term_cmp x (flat_map terms_of ts) ≡ true → has term_cmp x (flat_map terms_of us) ≡ true
terms_within [] us within x h = absurd (true≢false (sym h))
terms_within (t ∷ ts) us within x h = ⊎_elim
    (λ here. (terms_among us t (within t (has_itself triple_cmp-total t ts))).each x here)
    (λ later. terms_within ts us (λ u there. within u (or_true (eq_by_cmp triple_cmp u t) _ there)) x later)
    (one_of (has term_cmp x (terms_of t)) (has term_cmp x (flat_map terms_of ts)) (sym (has-append term_cmp x (terms_of t) (flat_map terms_of ts)) ∙ h))

module _ (counted : List EntityId) (m n : Meaning Triple) (records : Records) (x : EntityId) (held : Option (Held Bytes)) where
  -- what is stored of a page is of the page
  of_page : (k : Meaning Triple) (y : EntityId) (page : Option (Held Bytes)) (t : Triple) → has triple_cmp t (triples_held (stored_of counted k) y page) ≡ true → has triple_cmp t (triples_held k y page) ≡ true
  of_page k y page t there = and_right (not (is_own counted y t)) _ (sym (has-stored counted k y page t) ∙ there)

  -- what is stored is held
  of_all : (t : Triple) → has triple_cmp t (union triple_cmp (stored_of counted m) records) ≡ true → has triple_cmp t (union triple_cmp m records) ≡ true
  of_all t there =
      let found = holder (stored_of counted m) records t (sym (has-union triple_cmp-total (stored_of counted m) records t) ∙ there) in
      in_union m records found.0 t (of_page m found.0 _ t found.1)

  some_of : (t : Triple) → has triple_cmp t (union triple_cmp (stored_of counted m) records ++ triples_held (stored_of counted n) x held) ≡ true
      → has triple_cmp t (union triple_cmp m records ++ triples_held n x held) ≡ true
  some_of t there =
      let all : List Triple = union triple_cmp m records in
      has-append triple_cmp t all (triples_held n x held)
      ∙ ⊎_elim
      (λ stored. or_left (has triple_cmp t all) (has triple_cmp t (triples_held n x held)) (of_all t stored))
      (λ page. or_true (has triple_cmp t all) _ (of_page n x held t page))
      (one_of (has triple_cmp t (union triple_cmp (stored_of counted m) records)) (has triple_cmp t (triples_held (stored_of counted n) x held))
      (sym (has-append triple_cmp t (union triple_cmp (stored_of counted m) records) (triples_held (stored_of counted n) x held)) ∙ there))

  fewer_stored : room_with (stored_of counted m) records (triples_held (stored_of counted n) x held) ≤ room_with m records (triples_held n x held)
  fewer_stored =
      let stored : List Triple = union triple_cmp (stored_of counted m) records ++ triples_held (stored_of counted n) x held in
      let all : List Triple = union triple_cmp m records ++ triples_held n x held in
      fewer term_cmp-total term_cmp-IsAntisymmetric (flat_map terms_of stored) (flat_map terms_of all) (terms_within stored all some_of)

-- where there is room for all, there is room in a world of either kind
pub few_needs : (lean : Bool) (m n : Meaning Triple) (records : Records) (x : EntityId) (held : Option (Held Bytes)) (limit : ℕ) → room_with m records (triples_held n x held) ≤ limit → needs lean m n records x held ≤ limit
few_needs false m n records x held limit enough = enough
few_needs true m n records x held limit enough =
    omega (arith, enough, fewer_stored (counted_with (named_by m records) x (triples_held n x held)) m n records x held)
