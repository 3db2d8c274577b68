-- The keys of parts together, and an exchange in which those of some parts stay.
use Rattle.std.proofs.Common.{◌≡◌, ℕ, ◌+◌, Bool, true, false, not, ◌&&◌, ◌||◌, ⊎_elim, List, [], ◌++◌, length, refl, sym, ◌∙◌, ap, subst, true≢false}
use Rattle.std.specs.List.{flat_map}
use Rattle.std.specs.FinMap as map
use Rattle.sorted_sets.specs.Rising.{has}
use Rattle.sorted_sets.proofs.{Bools.and_none, Bools.or_true, Rising.has-append, Rising.sorted_same}
use Rattle.rdf_term.specs.{declared.triple.Triple.Triple, declared.term.Term.Term, Order.term_cmp, Order.term_cmp-total, Order.triple_cmp}
use Rattle.rdf_term.proofs.Texts.{term_cmp-IsAntisymmetric}
use Rattle.text_region.specs.Region.{Texts}
use Rattle.term_pool.specs.Pool.{one_if}
use Rattle.slot_keys.specs.{declared.key.Key.Key, Keys.key_cmp}
use Rattle.slot_keys.proofs.Lists.{one_of, or_left}
use Rattle.triple_catalog.specs.{declared.catalog.Catalog.Catalog, Counts.count_of, Room.room_for, Room.terms_of, Slots.triple_at}
use Rattle.triple_catalog.specs.{Stored.HasKey, Stored.IsStored, Stored.counts_in, Stored.is_key, Moves.TakesIn, Moves.triples_at}
use Rattle.triple_store.specs.Parts.{StandFor}
use Rattle.triple_catalog.proofs.{Exchanged.same_test, Live.tells, Rooming.terms_among}
use Rattle.triple_catalog.proofs.Standing.{counted_key, has-triples_at, triples_at-has, stored_if, stored_key}
use Rattle.triple_store.proofs.Stocked.{term_of}

-- nothing
pub stand_nothing : (st : Catalog) (r : Texts) → StandFor st r [] []
stand_nothing st r = record { each = λ key h. absurd (true≢false (sym h)); all = λ t h. absurd (true≢false (sym h)) }

-- a triple that the owner had gets no owner more
had_stays : (old now : ℕ) (came had done more : Bool) → more ≡ (done || came) → (done ≡ true → had ≡ true) → now ≡ old + one_if (came && not had) → now ≡ old + one_if (more && not had)
had_stays old now came had false more is k e = e ∙ ap (λ b. old + one_if (b && not had)) (sym is)
had_stays old now came true true more is k e = e ∙ ap (λ b. old + one_if b) (and_none came ∙ sym (and_none more))
had_stays old now came false true more is k e = absurd (true≢false (sym (k refl)))

module _ (st : Catalog) (r : Texts) (now : Catalog) (s : Texts) (had met stays : List Key) (kept came : List Triple) (stored : IsStored st r) (among : (key : Key) → has key_cmp key stays ≡ true → has key_cmp key had ≡ true) (stand : StandFor st r stays kept) (h : TakesIn st r now s had met came) where
  kept_had : (t : Triple) → has triple_cmp t kept ≡ true → has triple_cmp t (triples_at st r had) ≡ true
  kept_had t there =
      let one : (key : Key) × HasKey st r key t × (has key_cmp key stays ≡ true) = stand.all t there in
      subst (λ (u : Triple). has triple_cmp u (triples_at st r had) ≡ true) (tells st.pool r one.0 t one.1.has) (has-triples_at (triple_at st.pool r) had one.0 (among one.0 one.2))

  -- triples of keys that stay come with those that came
  pub taken_with : TakesIn st r now s had (met ++ stays) (kept ++ came)
  taken_with = record {
    stored = h.stored;
    each = λ key there. ⊎_elim
        (λ new. let one : (t : Triple) × HasKey now s key t × (has triple_cmp t came ≡ true) = h.each key new in (one.0, one.1, has-append triple_cmp one.0 kept came ∙ or_true (has triple_cmp one.0 kept) _ one.2))
        (λ old. let one : (t : Triple) × HasKey st r key t × (has triple_cmp t kept ≡ true) = stand.each key old in (one.0, h.kept key one.0 one.1, has-append triple_cmp one.0 kept came ∙ or_left _ _ one.2))
        (one_of (has key_cmp key met) (has key_cmp key stays) (sym (has-append key_cmp key met stays) ∙ there));
    all = λ t there. ⊎_elim
        (λ old. let one : (key : Key) × HasKey st r key t × (has key_cmp key stays ≡ true) = stand.all t old in (one.0, h.kept one.0 t one.1, has-append key_cmp one.0 met stays ∙ or_true (has key_cmp one.0 met) _ one.2))
        (λ new. let one : (key : Key) × HasKey now s key t × (has key_cmp key met ≡ true) = h.all t new in (one.0, one.1, has-append key_cmp one.0 met stays ∙ or_left _ _ one.2))
        (one_of (has triple_cmp t kept) (has triple_cmp t came) (sym (has-append triple_cmp t kept came) ∙ there));
    counts = λ t. had_stays (count_of (counts_in st r) t) (count_of (counts_in now s) t) (has triple_cmp t came) (has triple_cmp t (triples_at st r had)) (has triple_cmp t kept) _ (has-append triple_cmp t kept came) (kept_had t) (h.counts t);
    kept = h.kept;
    beside = h.beside;
    limit = h.limit;
  }

-- triples that are stored need no more room
module _ (st : Catalog) (r : Texts) (stays : List Key) (kept came : List Triple) (stored : IsStored st r) (stand : StandFor st r stays kept) where
  abbrev all_stored : List Triple
  all_stored = map.keys (counts_in st r)

  kept_stored : (t : Triple) → has triple_cmp t kept ≡ true → has triple_cmp t all_stored ≡ true
  kept_stored t there =
      let one : (key : Key) × HasKey st r key t × (has key_cmp key stays ≡ true) = stand.all t there in
      sym (map.contains_key-keys (counts_in st r) t) ∙ stored_if (counts_in st r) t (counted_key st r stored one.0 t one.1)

  without : (t : Triple) → has triple_cmp t (all_stored ++ (kept ++ came)) ≡ true → has triple_cmp t (all_stored ++ came) ≡ true
  without t there = has-append triple_cmp t all_stored came ∙ ⊎_elim
      (λ was. or_left _ _ was)
      (λ rest. ⊎_elim
      (λ old. or_left _ _ (kept_stored t old))
      (λ new. or_true (has triple_cmp t all_stored) _ new)
      (one_of (has triple_cmp t kept) (has triple_cmp t came) (sym (has-append triple_cmp t kept came) ∙ rest)))
      (one_of (has triple_cmp t all_stored) (has triple_cmp t (kept ++ came)) (sym (has-append triple_cmp t all_stored (kept ++ came)) ∙ there))

  with_kept : (t : Triple) → has triple_cmp t (all_stored ++ came) ≡ true → has triple_cmp t (all_stored ++ (kept ++ came)) ≡ true
  with_kept t there = has-append triple_cmp t all_stored (kept ++ came) ∙ ⊎_elim
      (λ was. or_left _ _ was)
      (λ new. or_true (has triple_cmp t all_stored) _ (has-append triple_cmp t kept came ∙ or_true (has triple_cmp t kept) _ new))
      (one_of (has triple_cmp t all_stored) (has triple_cmp t came) (sym (has-append triple_cmp t all_stored came) ∙ there))

  terms_within : (xs ys : List Triple) → ((t : Triple) → has triple_cmp t xs ≡ true → has triple_cmp t ys ≡ true) → (x : Term) → has term_cmp x (flat_map terms_of xs) ≡ true → has term_cmp x (flat_map terms_of ys) ≡ true
  terms_within xs ys into x there =
      let one : (t : Triple) × (has triple_cmp t xs ≡ true) × (has term_cmp x (terms_of t) ≡ true) = term_of xs x there in
      (terms_among ys one.0 (into one.0 one.1)).each x one.2

  pub room_same : room_for (counts_in st r) (kept ++ came) ≡ room_for (counts_in st r) came
  room_same = ap length (sorted_same term_cmp-total term_cmp-IsAntisymmetric (flat_map terms_of (all_stored ++ (kept ++ came))) (flat_map terms_of (all_stored ++ came)) (λ x.
      same_test _ _ (terms_within (all_stored ++ (kept ++ came)) (all_stored ++ came) without x) (terms_within (all_stored ++ came) (all_stored ++ (kept ++ came)) with_kept x)))

-- stored keys stand for what they mean
pub stand_themselves : (st : Catalog) (r : Texts) → IsStored st r → (keys : List Key) → ((key : Key) → has key_cmp key keys ≡ true → is_key st key ≡ true) → StandFor st r keys (triples_at st r keys)
stand_themselves st r stored keys there = record {
  each = λ key is. (triple_at st.pool r key, stored_key st r stored key (there key is), has-triples_at (triple_at st.pool r) keys key is);
  all = λ t is.
      let one : (key : Key) × (has key_cmp key keys ≡ true) × (triple_at st.pool r key ≡ t) = triples_at-has (triple_at st.pool r) keys t is in
      (one.0, subst (λ (u : Triple). HasKey st r one.0 u) one.2 (stored_key st r stored one.0 (there one.0 one.1)), one.1);
}
