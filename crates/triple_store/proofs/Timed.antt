-- How many times triples come, one triple after another.
use Rattle.std.proofs.Common.{◌≡◌, ◌≢◌, ℕ, zero, suc, ◌+◌, ◌<◌, ◌≤◌, Bool, true, false, cond, ◌||◌, List, [], ◌∷◌, ◌++◌, length, take, get_or, is_eq, ⊎_elim, refl, sym, ◌∙◌, ap, subst, arith, true≢false}
use Rattle.std.specs.Prelude.{IfSome, slice_get, set}
use Rattle.std.specs.Ordering.{eq_by_cmp}
use Rattle.std.proofs.{lemmas.List.get_or-set_other, lemmas.List.get_or-set_same, lemmas.List.length-set, lemmas.List.Sums.sum_by_push}
use Rattle.std.proofs.{lemmas.Bool.cases_eq, lemmas.Cmp.tied_itself}
use Rattle.sorted_sets.specs.Rising.{IsRising, has}
use Rattle.sorted_sets.proofs.{Bools.equal, Bools.or_true, Rising.has-append}
use Rattle.rdf_term.specs.{declared.triple.Triple.Triple, Order.triple_cmp, Order.triple_cmp-total}
use Rattle.rdf_term.proofs.Texts.{triple_cmp-IsAntisymmetric}
use Rattle.triple_texts.specs.{declared.triple_text.TripleText.TripleText, Texts.IsTextOf}
use Rattle.text_region.specs.Region.{Texts}
use Rattle.term_pool.specs.Pool.{one_if}
use Rattle.slot_keys.specs.{declared.key.Key.Key, Keys.key_cmp, Keys.key_cmp-total}
use Rattle.slot_keys.proofs.Lists.{has_at, never, other_at}
use Rattle.triple_catalog.specs.{declared.catalog.Catalog.Catalog, Slots.HasTexts, Slots.HasTriple, Slots.triple_of}
use Rattle.triple_catalog.specs.Stored.{HasKey, IsStored, is_key}
use Rattle.triple_store.specs.Times.{AddTimes, AreLeftWithout, AreTimesOf, Exceeds, times, triple_of_key}
use Rattle.triple_store.proofs.Becoming.{none_times, some_times, times-cons}
use Rattle.triple_catalog.proofs.{Listed.row, Live.key_same, Live.tells, Standing.stored_key, Standing.texts_triple, Standing.triple_texts}

-- the first triples of a list hold a triple no more often than all do
times-take : (t : Triple) (n : ℕ) (ts : List Triple) → times t (take n ts) ≤ times t ts
times-take t zero ts = omega arith
times-take t (suc n) [] = omega arith
times-take t (suc n) (u ∷ ts) = omega (arith, times-cons t u (take n ts), times-cons t u ts, times-take t n ts)

-- one triple more
times-push : (t u : Triple) (ts : List Triple) → times t (ts ++ u ∷ []) ≡ times t ts + cond (eq_by_cmp triple_cmp t u) 1 0
times-push t u ts = sum_by_push (λ v. cond (eq_by_cmp triple_cmp t v) 1 0) ts u

plain_or : (b : Bool) → (b || false) ≡ b
plain_or true = refl
plain_or false = refl

-- whether a list has a triple, where one triple more is in it
has-push : (t u : Triple) (ts : List Triple) → has triple_cmp t (ts ++ u ∷ []) ≡ (has triple_cmp t ts || eq_by_cmp triple_cmp t u)
has-push t u ts = has-append triple_cmp t ts (u ∷ []) ∙ ap (λ b. has triple_cmp t ts || b) (plain_or (eq_by_cmp triple_cmp t u))

-- the next triple of a list, whose key is at an index
module _ (st : Catalog) (r : Texts) (stored : IsStored st r) (keys : List Key) (rises : IsRising key_cmp keys) (all : (key : Key) → has key_cmp key keys ≡ true → is_key st key ≡ true)
    (triples : List Triple) (i : ℕ) (texts : TripleText) (low : i < length triples) (at : IfSome (slice_get triples i) (IsTextOf texts))
    (place : ℕ) (there : place < length keys) (its : (other : Key) → HasTexts st.pool r (get_or keys place other) texts) where
  has_t : (other : Key) → HasTriple st.pool r (get_or keys place other) (triple_of texts)
  has_t other = texts_triple st.pool r (get_or keys place other) texts (triple_of texts) (row triples i texts low at).is (its other)

  stored_at : (index : ℕ) (other : Key) → index < length keys → HasTriple st.pool r (get_or keys index other) (triple_of_key st r keys index other)
  stored_at index other within = (stored_key st r stored (get_or keys index other) (all (get_or keys index other) (has_at key_cmp-total keys index other within))).has

  -- is counted at its key alone
  here : (other : Key) → eq_by_cmp triple_cmp (triple_of_key st r keys place other) (triple_of texts) ≡ true
  here other = ap (λ u. eq_by_cmp triple_cmp u (triple_of texts)) (tells st.pool r (get_or keys place other) (triple_of texts) (has_t other)) ∙ ap is_eq (tied_itself triple_cmp-total (triple_of texts))

  elsewhere : (index : ℕ) (other : Key) → index < length keys → index ≢ place → eq_by_cmp triple_cmp (triple_of_key st r keys index other) (triple_of texts) ≡ false
  elsewhere index other within differ = never (eq_by_cmp triple_cmp (triple_of_key st r keys index other) (triple_of texts)) (λ e.
      let same : triple_of_key st r keys index other ≡ triple_of texts = triple_cmp-IsAntisymmetric (triple_of_key st r keys index other) (triple_of texts) (equal _ e) in
      other_at key_cmp-total keys index place other rises within there differ
      (key_same st.pool r (get_or keys index other) (get_or keys place other) (triple_of texts) stored.lies
      (subst (HasTriple st.pool r (get_or keys index other)) same (stored_at index other within)) (has_t other)))

  more : (index : ℕ) (other : Key) → times (triple_of_key st r keys index other) (take (i + 1) triples)
      ≡ times (triple_of_key st r keys index other) (take i triples) + cond (eq_by_cmp triple_cmp (triple_of_key st r keys index other) (triple_of texts)) 1 0
  more index other = ap (times (triple_of_key st r keys index other)) (row triples i texts low at).more ∙ times-push (triple_of_key st r keys index other) (triple_of texts) (take i triples)

  -- one less of its key
  pub times-less : (old left : List ℕ) (n : ℕ) → length left ≡ length keys → n + 1 ≡ get_or left place 0 → AddTimes st r keys left old (take i triples) → AddTimes st r keys (set left place n) old (take (i + 1) triples)
  times-less old left n long is h =
      record {
        as_many = h.as_many ∙ sym (length-set left place n);
        counted = λ index other within. ⊎_elim
            (λ same.
            omega (
              arith,
              ap (λ k. get_or (set left place n) k 0) same,
              get_or-set_same left place n 0 (omega (arith, long, there)),
              is,
              h.counted index other within,
              ap (λ k. get_or left k 0) same,
              more index other,
              ap one_if (subst (λ (k : ℕ). eq_by_cmp triple_cmp (triple_of_key st r keys k other) (triple_of texts) ≡ true) (sym same) (here other)),
            ))
            (λ differ.
            omega (arith, get_or-set_other left place index n 0 differ, h.counted index other within, more index other, ap one_if (elsewhere index other within differ)))
            (cases_eq index place);
      }

  -- its key counts no longer
  pub without-key : (left : List ℕ) → length left ≡ length keys → AreLeftWithout st r keys left (take i triples) → AreLeftWithout st r keys (set left place 0) (take (i + 1) triples)
  without-key left long h = record {
    as_many = length-set left place 0 ∙ h.as_many;
    counted = λ index other within. ⊎_elim
        (λ same.
        ap (λ k. get_or (set left place 0) k 0) same ∙ get_or-set_same left place 0 0 (omega (arith, long, there))
        ∙ sym (ap (λ b. cond b 0 1) (next index other
        ∙ or_true (has triple_cmp (triple_of_key st r keys index other) (take i triples)) _
        (subst (λ (k : ℕ). eq_by_cmp triple_cmp (triple_of_key st r keys k other) (triple_of texts) ≡ true) (sym same) (here other)))))
        (λ differ.
        get_or-set_other left place index 0 0 differ ∙ h.counted index other within
        ∙ sym (ap (λ b. cond b 0 1) (next index other ∙ ap (λ b. has triple_cmp (triple_of_key st r keys index other) (take i triples) || b) (elsewhere index other within differ)
        ∙ plain_or (has triple_cmp (triple_of_key st r keys index other) (take i triples)))))
        (cases_eq index place);
  }
    where
      next : (index : ℕ) (other : Key) → has triple_cmp (triple_of_key st r keys index other) (take (i + 1) triples)
          ≡ (has triple_cmp (triple_of_key st r keys index other) (take i triples) || eq_by_cmp triple_cmp (triple_of_key st r keys index other) (triple_of texts))
      next index other = ap (has triple_cmp (triple_of_key st r keys index other)) (row triples i texts low at).more ∙ has-push (triple_of_key st r keys index other) (triple_of texts) (take i triples)

  -- which may be once too often
  pub exceeds_at : (old left : List ℕ) (before : List Triple) → get_or left place 0 ≡ 0 → AddTimes st r keys left old (take i triples) → AreTimesOf st r keys old before → Exceeds triples before
  exceeds_at old left before none h its_times =
      let other : Key = record { first = 0; second = 0; third = 0 } in
      let t = triple_of_key st r keys place other in
      record {
        triple = t;
        more = omega (arith, none, h.counted place other there, its_times.counted place other there, more place other, ap one_if (here other), times-take t (i + 1) triples);
      }

-- a triple that has none of the keys of a list goes more often than it comes among what these stand for
pub exceeds_other : (st : Catalog) (r : Texts) (keys : List Key) (counts : List ℕ) (before gone : List Triple) (i : ℕ) (texts : TripleText) → i < length gone → IfSome (slice_get gone i) (IsTextOf texts)
    → ((key : Key) → has key_cmp key keys ≡ true → HasTexts st.pool r key texts → ⊥) → AreTimesOf st r keys counts before → Exceeds gone before
exceeds_other st r keys counts before gone i texts low at none its_times =
    let its = row gone i texts low at in
    record {
      triple = triple_of texts;
      more = omega (
        arith,
        some_times (triple_of texts) gone its.among,
        none_times (triple_of texts) before (never (has triple_cmp (triple_of texts) before) (λ is.
            let one : (key : Key) × HasKey st r key (triple_of texts) × (has key_cmp key keys ≡ true) = its_times.keys_of.all (triple_of texts) is in
            none one.0 one.2 (triple_texts st.pool r one.0 texts (triple_of texts) its.is one.1.has))),
      );
    }

-- a triple that has none of the keys changes nothing of what is left
pub without-none : (st : Catalog) (r : Texts) → IsStored st r → (keys : List Key) → ((key : Key) → has key_cmp key keys ≡ true → is_key st key ≡ true) → (left : List ℕ) (gone : List Triple) (i : ℕ) (texts : TripleText)
    → i < length gone → IfSome (slice_get gone i) (IsTextOf texts) → ((key : Key) → has key_cmp key keys ≡ true → HasTexts st.pool r key texts → ⊥)
    → AreLeftWithout st r keys left (take i gone) → AreLeftWithout st r keys left (take (i + 1) gone)
without-none st r stored keys all left gone i texts low at none h =
    let its = row gone i texts low at in
    record {
      as_many = h.as_many;
      counted = λ index other within.
          let key = get_or keys index other in
          let t = triple_of_key st r keys index other in
          let among : has key_cmp key keys ≡ true = has_at key_cmp-total keys index other within in
          let not_it : eq_by_cmp triple_cmp t (triple_of texts) ≡ false = never (eq_by_cmp triple_cmp t (triple_of texts)) (λ e.
          let same : t ≡ triple_of texts = triple_cmp-IsAntisymmetric t (triple_of texts) (equal _ e) in
          none key among (triple_texts st.pool r key texts (triple_of texts) its.is (subst (HasTriple st.pool r key) same (stored_key st r stored key (all key among)).has))) in
          h.counted index other within
          ∙ sym (ap (λ b. cond b 0 1) (ap (has triple_cmp t) its.more ∙ has-push t (triple_of texts) (take i gone) ∙ ap (λ b. has triple_cmp t (take i gone) || b) not_it ∙ plain_or (has triple_cmp t (take i gone))));
    }
