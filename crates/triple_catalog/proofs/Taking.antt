-- Triples that an owner gets, one by one.
use Rattle.std.proofs.Common.{◌≡◌, ℕ, ◌+◌, Bool, true, false, not, ◌||◌, ◌&&◌, ◌⊎◌, inl, inr, ⊎_elim, List, [], ◌∷◌, ◌++◌, Ordering, is_eq, refl, sym, ◌∙◌, ap, subst, arith, true≢false}
use Rattle.std.specs.{Cmp.IsTotalOrder, Ordering.eq_by_cmp}
use Rattle.std.proofs.lemmas.Cmp.{tied_itself}
use Rattle.sorted_sets.specs.Rising.{has}
use Rattle.sorted_sets.proofs.{Bools.clash, Bools.equal, Bools.or_none, Bools.or_true, Rising.has-append}
use Rattle.rdf_term.specs.{declared.triple.Triple.Triple, Order.triple_cmp, Order.triple_cmp-total}
use Rattle.rdf_term.proofs.Texts.{triple_cmp-IsAntisymmetric}
use Rattle.text_region.specs.{declared.piece.Piece.Piece, Region.Texts}
use Rattle.term_pool.specs.Pool.{one_if}
use Rattle.slot_keys.specs.{declared.key.Key.Key, Keys.key_cmp, Keys.key_cmp-total, Keys.key_cmp-IsAntisymmetric, Keys.same_key}
use Rattle.slot_keys.proofs.Lists.{has-push, never, one_of, or_left}
use Rattle.triple_catalog.specs.{declared.catalog.Catalog.Catalog, Counts.count_of, Counts.raised, Slots.HasTriple, Slots.triple_at}
use Rattle.triple_catalog.specs.Stored.{HasKey, IsStored, beside, counts_in, is_key, limit_of}
use Rattle.triple_catalog.specs.Moves.{TakesIn, triples_at}
use Rattle.triple_catalog.proofs.{Owners.same_triple, Owners.count_of-raised, Live.tells}
use Rattle.triple_catalog.proofs.Standing.{has-triples_at, triples_at-has, stored_key}

itself : {K : Type 0} {R : K → K → Ordering} → IsTotalOrder R → (x : K) → eq_by_cmp R x x ≡ true
itself o x = ap is_eq (tied_itself o x)

-- the count of a triple that is done again, or that the owner had, stays
stays : (old now : ℕ) (done gone same more : Bool) → more ≡ (done || same) → (same ≡ true → (done ≡ true) ⊎ (gone ≡ true)) → now ≡ old + one_if (done && not gone) → now ≡ old + one_if (more && not gone)
stays old now true gone same more is k e = e ∙ ap (λ b. old + one_if (b && not gone)) (sym is)
stays old now false true true more is k e = e ∙ ap (λ b. old + one_if (b && not true)) (sym is)
stays old now false false true more is k e = ⊎_elim (λ f. absurd (true≢false (sym f))) (λ f. absurd (true≢false (sym f))) (k refl)
stays old now false gone false more is k e = e ∙ ap (λ b. old + one_if (b && not gone)) (sym is)

-- that of a new one is one more
one_more : (old now new : ℕ) (done gone same more : Bool) → more ≡ (done || same) → (same ≡ true → (done ≡ false) × (gone ≡ false)) → now ≡ old + one_if (done && not gone) → new ≡ now + one_if same → new ≡ old + one_if (more && not gone)
one_more old now new done gone true more is k e f =
    let n : (done ≡ false) × (gone ≡ false) = k refl in
    let m : more ≡ true = is ∙ ap (λ b. b || true) n.0 in
    omega (arith, e, f, ap (λ b. one_if (b && not gone)) n.0, ap (λ b. one_if (b && not gone)) m, ap (λ b. one_if (not b)) n.1)
one_more old now new done gone false more is k e f = omega (arith, e, f, ap (λ b. one_if (b && not gone)) (is ∙ or_none done))

module _ (st : Catalog) (r : Texts) (now : Catalog) (s : Texts) (had keys : List Key) (done : List Triple) (stored : IsStored st r) (all : (key : Key) → has key_cmp key had ≡ true → is_key st key ≡ true) (h : TakesIn st r now s had keys done) where
  -- a key of the owner stands for what it stood for
  pub had_key : (key : Key) → has key_cmp key had ≡ true → HasKey now s key (triple_at st.pool r key)
  had_key key there = h.kept key (triple_at st.pool r key) (stored_key st r stored key (all key there))

  -- a key that is at hand stands for a triple that is done, or that the owner had
  record IsKnown (key : Key) (t : Triple) : Type 0 where
    pub its : HasKey now s key t
    pub known : (has triple_cmp t done ≡ true) ⊎ (has triple_cmp t (triples_at st r had) ≡ true)

  known : (key : Key) (t : Triple) → has key_cmp key (had ++ keys) ≡ true → HasTriple now.pool s key t → IsKnown key t
  known key t there is =
      let same : (u : Triple) → HasKey now s key u → u ≡ t = λ u k. sym (tells now.pool s key u k.has) ∙ tells now.pool s key t is in
      ⊎_elim
      (λ old.
      let k = had_key key old in
      record {
        its = record { stored = k.stored; has = is };
        known = inr (subst (λ (u : Triple). has triple_cmp u (triples_at st r had) ≡ true) (same (triple_at st.pool r key) k) (has-triples_at (triple_at st.pool r) had key old));
      })
      (λ new.
      let k : (u : Triple) × HasKey now s key u × (has triple_cmp u done ≡ true) = h.each key new in
      record {
        its = record { stored = k.1.stored; has = is };
        known = inl (subst (λ (u : Triple). has triple_cmp u done ≡ true) (same k.0 k.1) k.2);
      })
      (one_of (has key_cmp key had) (has key_cmp key keys) (sym (has-append key_cmp key had keys) ∙ there))

  -- with one more key, after which each key stands for what it stood for
  module _ (new : Catalog) (u : Texts) (later : (k : Key) (t : Triple) → HasKey now s k t → HasKey new u k t) (key : Key) (t : Triple) (one : HasKey new u key t) where
    each_more : (k : Key) → has key_cmp k (keys ++ key ∷ []) ≡ true → (v : Triple) × HasKey new u k v × (has triple_cmp v (done ++ t ∷ []) ≡ true)
    each_more k there =
        ⊎_elim
        (λ old.
        let was : (v : Triple) × HasKey now s k v × (has triple_cmp v done ≡ true) = h.each k old in
        (was.0, later k was.0 was.1, has-push triple_cmp was.0 done t ∙ or_left _ _ was.2))
        (λ same. (t, subst (λ (x : Key). HasKey new u x t) (sym (key_cmp-IsAntisymmetric k key (equal _ same))) one, has-push triple_cmp t done t ∙ or_true (has triple_cmp t done) _ (itself triple_cmp-total t)))
        (one_of (has key_cmp k keys) (same_key k key) (sym (has-push key_cmp k keys key) ∙ there))

    all_more : (v : Triple) → has triple_cmp v (done ++ t ∷ []) ≡ true → (k : Key) × HasKey new u k v × (has key_cmp k (keys ++ key ∷ []) ≡ true)
    all_more v there =
        ⊎_elim
        (λ old.
        let was : (k : Key) × HasKey now s k v × (has key_cmp k keys ≡ true) = h.all v old in
        (was.0, later was.0 v was.1, has-push key_cmp was.0 keys key ∙ or_left _ _ was.2))
        (λ same. (key, subst (HasKey new u key) (sym (triple_cmp-IsAntisymmetric v t (equal _ same))) one, has-push key_cmp key keys key ∙ or_true (has key_cmp key keys) _ (itself key_cmp-total key)))
        (one_of (has triple_cmp v done) (same_triple v t) (sym (has-push triple_cmp v done t) ∙ there))

  -- one more triple whose key is at hand
  pub held_taken : (key : Key) (t : Triple) → has key_cmp key (had ++ keys) ≡ true → HasTriple now.pool s key t → TakesIn st r now s had (keys ++ key ∷ []) (done ++ t ∷ [])
  held_taken key t there is =
      let k = known key t there is in
      record {
        stored = h.stored;
        each = each_more now s (λ k t is. is) key t k.its;
        all = all_more now s (λ k t is. is) key t k.its;
        counts = λ v. stays (count_of (counts_in st r) v) (count_of (counts_in now s) v) (has triple_cmp v done) (has triple_cmp v (triples_at st r had)) (same_triple v t) _ (has-push triple_cmp v done t)
            (λ same. subst (λ (x : Triple). (has triple_cmp x done ≡ true) ⊎ (has triple_cmp x (triples_at st r had) ≡ true)) (sym (triple_cmp-IsAntisymmetric v t (equal _ same))) k.known) (h.counts v);
        kept = h.kept;
        beside = h.beside;
        limit = h.limit;
      }

  -- a triple none of whose keys is at hand is neither done nor one that the owner had
  record IsNew (t : Triple) : Type 0 where
    pub done_ : has triple_cmp t done ≡ false
    pub gone : has triple_cmp t (triples_at st r had) ≡ false

  is_new : (t : Triple) → ((key : Key) → HasTriple now.pool s key t → has key_cmp key (had ++ keys) ≡ false) → IsNew t
  is_new t none = record {
    done_ = never (has triple_cmp t done) (λ there.
        let one : (key : Key) × HasKey now s key t × (has key_cmp key keys ≡ true) = h.all t there in
        clash (has-append key_cmp one.0 had keys ∙ or_true _ _ one.2) (none one.0 one.1.has));
    gone = never (has triple_cmp t (triples_at st r had)) (λ there.
        let one : (key : Key) × (has key_cmp key had ≡ true) × (triple_at st.pool r key ≡ t) = triples_at-has (triple_at st.pool r) had t there in
        clash (has-append key_cmp one.0 had keys ∙ or_left _ _ one.1) (none one.0 (subst (HasTriple now.pool s one.0) one.2 (had_key one.0 one.1).has)));
  }

  -- one more triple that is counted once more
  pub new_taken : (new : Catalog) (u : Texts) (key : Key) (t : Triple) → ((key : Key) → HasTriple now.pool s key t → has key_cmp key (had ++ keys) ≡ false) → IsStored new u → counts_in new u ≡ raised (counts_in now s) t → HasKey new u key t → ((k : Key) (t : Triple) → HasKey now s k t → HasKey new u k t) → ((piece : Piece) → beside new u piece ≡ beside now s piece) → limit_of new ≡ limit_of now → TakesIn st r new u had (keys ++ key ∷ []) (done ++ t ∷ [])
  new_taken new u key t none after more one later others limit =
      let n = is_new t none in
      record {
        stored = after;
        each = each_more new u later key t one;
        all = all_more new u later key t one;
        counts = λ v. one_more (count_of (counts_in st r) v) (count_of (counts_in now s) v) (count_of (counts_in new u) v) (has triple_cmp v done) (has triple_cmp v (triples_at st r had)) (same_triple v t) _ (has-push triple_cmp v done t)
            (λ same. subst (λ (x : Triple). (has triple_cmp x done ≡ false) × (has triple_cmp x (triples_at st r had) ≡ false)) (sym (triple_cmp-IsAntisymmetric v t (equal _ same))) (n.done_, n.gone))
            (h.counts v) (ap (λ c. count_of c v) more ∙ count_of-raised (counts_in now s) t v);
        kept = λ k v was. later k v (h.kept k v was);
        beside = λ piece. others piece ∙ h.beside piece;
        limit = limit ∙ h.limit;
      }

  -- after a fault all is as it was
  pub none_more : (new : Catalog) (u : Texts) → IsStored new u → counts_in new u ≡ counts_in now s → ((k : Key) (t : Triple) → HasKey now s k t → HasKey new u k t) → ((piece : Piece) → beside new u piece ≡ beside now s piece) → limit_of new ≡ limit_of now → TakesIn st r new u had keys done
  none_more new u after same later others limit = record {
    stored = after;
    each = λ key there. let was : (t : Triple) × HasKey now s key t × (has triple_cmp t done ≡ true) = h.each key there in (was.0, later key was.0 was.1, was.2);
    all = λ t there. let was : (key : Key) × HasKey now s key t × (has key_cmp key keys ≡ true) = h.all t there in (was.0, later was.0 t was.1, was.2);
    counts = λ t. ap (λ c. count_of c t) same ∙ h.counts t;
    kept = λ k t was. later k t (h.kept k t was);
    beside = λ piece. others piece ∙ h.beside piece;
    limit = limit ∙ h.limit;
  }

  -- it has as many owners as before
  pub as_many : (t : Triple) → ((key : Key) → HasTriple now.pool s key t → has key_cmp key (had ++ keys) ≡ false) → count_of (counts_in now s) t ≡ count_of (counts_in st r) t
  as_many t none = let n = is_new t none in omega (arith, h.counts t, ap (λ b. one_if (b && not (has triple_cmp t (triples_at st r had)))) n.done_)
