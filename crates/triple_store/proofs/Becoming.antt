-- What an owner has after others came to what is left of its triples, by how many times each comes.
use Rattle.std.proofs.Common.{◌≡◌, ℕ, zero, suc, ◌+◌, ◌<◌, ◌≤◌, Bool, true, false, ◌||◌, cond, nat_lt, List, [], ◌∷◌, ◌++◌, length, get_or, ◌⊎◌, inl, inr, ⊎_elim, refl, sym, ◌∙◌, ap, subst, arith, true≢false}
use Rattle.std.specs.Ordering.{eq_by_cmp}
use Rattle.std.proofs.{lemmas.Bool.Decides.nat_tests, lemmas.List.Sums.sum_by-cons}
use Rattle.sorted_sets.specs.Rising.{has}
use Rattle.sorted_sets.proofs.{Bools.equal, Bools.or_true, Rising.has-append, Rising.has_itself}
use Rattle.rdf_term.specs.{declared.triple.Triple.Triple, Order.triple_cmp}
use Rattle.text_region.specs.Region.{Texts}
use Rattle.term_pool.specs.Pool.{one_if}
use Rattle.slot_keys.specs.{declared.key.Key.Key, KeyCounts.counted_keys, Keys.key_cmp, Keys.key_cmp-IsAntisymmetric, Keys.key_cmp-total}
use Rattle.slot_keys.proofs.Lists.{one_of, or_left}
use Rattle.triple_catalog.specs.{declared.catalog.Catalog.Catalog, Slots.triple_at, Stored.AreKeysOf, Stored.HasKey, Moves.triples_at}
use Rattle.triple_store.specs.Times.{AddTimes, AreTimesOf, Becomes, ComesTo, times, triple_of_key}
use Rattle.triple_catalog.proofs.{Exchanged.same_test, Live.tells, Standing.has-triples_at, Standing.triples_at-has}

-- a triple stands in a list where it comes once at least
pub times-cons : (t u : Triple) (ts : List Triple) → times t (u ∷ ts) ≡ cond (eq_by_cmp triple_cmp t u) 1 0 + times t ts
times-cons t u ts = sum_by-cons (λ v. cond (eq_by_cmp triple_cmp t v) 1 0) u ts

pub some_times : (t : Triple) (ts : List Triple) → has triple_cmp t ts ≡ true → 0 < times t ts
some_times t [] h = absurd (true≢false (sym h))
some_times t (u ∷ ts) h = ⊎_elim
    (λ here. omega (arith, times-cons t u ts, ap one_if here))
    (λ there. omega (arith, times-cons t u ts, some_times t ts there))
    (one_of (eq_by_cmp triple_cmp t u) (has triple_cmp t ts) h)

pub times_some : (t : Triple) (ts : List Triple) → 0 < times t ts → has triple_cmp t ts ≡ true
times_some t [] h = absurd (omega (arith, h))
times_some t (u ∷ ts) h = at (eq_by_cmp triple_cmp t u) refl (times_some t ts)
  where
    at : (b : Bool) → eq_by_cmp triple_cmp t u ≡ b → (0 < times t ts → has triple_cmp t ts ≡ true) → (b || has triple_cmp t ts) ≡ true
    at true e rest = refl
    at false e rest = rest (omega (arith, h, times-cons t u ts, ap one_if e))

pub none_times : (t : Triple) (ts : List Triple) → has triple_cmp t ts ≡ false → times t ts ≡ 0
none_times t ts e = zero_or (times t ts) (λ some. absurd (true≢false (sym (times_some t ts some) ∙ e)))
  where
    zero_or : (n : ℕ) → (0 < n → n ≡ 0) → n ≡ 0
    zero_or zero h = refl
    zero_or (suc n) h = h (omega arith)

-- a key of a list has an index
pub record IsAt (keys : List Key) (key : Key) : Type 0 where
  pub index : ℕ
  pub low : index < length keys
  pub is : (other : Key) → get_or keys index other ≡ key

pub at_index : (keys : List Key) (key : Key) → has key_cmp key keys ≡ true → IsAt keys key
at_index [] key h = absurd (true≢false (sym h))
at_index (k ∷ keys) key h = ⊎_elim
    (λ here. record { index = 0; low = omega arith; is = λ other. sym (key_cmp-IsAntisymmetric key k (equal _ here)) })
    (λ there. let a = at_index keys key there in record { index = suc a.index; low = omega (arith, a.low); is = a.is })
    (one_of (eq_by_cmp key_cmp key k) (has key_cmp key keys) h)

-- a key that is counted
pub record IsCounted (keys : List Key) (counts : List ℕ) (key : Key) : Type 0 where
  pub index : ℕ
  pub low : index < length keys
  pub is : (other : Key) → get_or keys index other ≡ key
  pub some : 0 < get_or counts index 0

later : (k : Key) (n : ℕ) (keys : List Key) (counts : List ℕ) (key : Key) → IsCounted keys counts key → IsCounted (k ∷ keys) (n ∷ counts) key
later k n keys counts key h = record { index = suc h.index; low = omega (arith, h.low); is = h.is; some = h.some }

pub counted-has : (keys : List Key) (counts : List ℕ) (key : Key) → has key_cmp key (counted_keys keys counts) ≡ true → IsCounted keys counts key
counted-has [] counts key h = absurd (true≢false (sym h))
counted-has (k ∷ keys) [] key h = absurd (true≢false (sym h))
counted-has (k ∷ keys) (n ∷ counts) key h = at (nat_lt 0 n) refl h (counted-has keys counts key)
  where
    at : (b : Bool) → nat_lt 0 n ≡ b → has key_cmp key (cond b (k ∷ counted_keys keys counts) (counted_keys keys counts)) ≡ true
        → (has key_cmp key (counted_keys keys counts) ≡ true → IsCounted keys counts key) → IsCounted (k ∷ keys) (n ∷ counts) key
    at true e h rest = ⊎_elim
        (λ here. record { index = 0; low = omega arith; is = λ other. sym (key_cmp-IsAntisymmetric key k (equal _ here)); some = grind (arith, nat_tests, e) })
        (λ there. later k n keys counts key (rest there))
        (one_of (eq_by_cmp key_cmp key k) (has key_cmp key (counted_keys keys counts)) h)
    at false e h rest = later k n keys counts key (rest h)

pub has-counted : (keys : List Key) (counts : List ℕ) (index : ℕ) (other : Key) → index < length keys → 0 < get_or counts index 0
    → has key_cmp (get_or keys index other) (counted_keys keys counts) ≡ true
has-counted [] counts index other low some = absurd (omega (arith, low))
has-counted (k ∷ keys) [] index other low some = absurd (omega (arith, some))
has-counted (k ∷ keys) (n ∷ counts) zero other low some = at (nat_lt 0 n) refl
  where
    at : (b : Bool) → nat_lt 0 n ≡ b → has key_cmp k (cond b (k ∷ counted_keys keys counts) (counted_keys keys counts)) ≡ true
    at true e = has_itself key_cmp-total k (counted_keys keys counts)
    at false e = absurd (grind (arith, nat_tests, e, some))
has-counted (k ∷ keys) (n ∷ counts) (suc index) other low some = at (nat_lt 0 n) (has-counted keys counts index other (omega (arith, low)) some)
  where
    at : (b : Bool) → has key_cmp (get_or keys index other) (counted_keys keys counts) ≡ true → has key_cmp (get_or keys index other) (cond b (k ∷ counted_keys keys counts) (counted_keys keys counts)) ≡ true
    at true rest = or_true (eq_by_cmp key_cmp (get_or keys index other) k) _ rest
    at false rest = rest

pub either : (b : Bool) → (b ≡ true) ⊎ (b ≡ false)
either true = inl refl
either false = inr refl

module _ (st : Catalog) (r : Texts) (keys : List Key) (left : List ℕ) (come before after : List Triple) (h : ComesTo st r keys left come before after) where
  abbrev pub stays : List Key
  stays = counted_keys keys left

  -- a triple that the owner had, at the index of its key
  record IsOldOne (t : Triple) : Type 0 where
    pub key : Key
    pub own : HasKey st r key t
    pub at : IsAt keys key
    pub is : times t after ≡ get_or left at.index 0 + times t come

  old_one : (t : Triple) → has triple_cmp t before ≡ true → IsOldOne t
  old_one t is =
      let one : (key : Key) × HasKey st r key t × (has key_cmp key keys ≡ true) = h.keys_of.all t is in
      let at = at_index keys one.0 one.2 in
      let same : triple_of_key st r keys at.index one.0 ≡ t = ap (triple_at st.pool r) (at.is one.0) ∙ tells st.pool r one.0 t one.1.has in
      record {
        key = one.0;
        own = one.1;
        at = at;
        is = omega (arith, h.counted at.index one.0 at.low, ap (λ u. times u come) same, ap (λ u. times u after) same);
      }

  -- what comes is there at least as many times
  pub at_least : (t : Triple) → times t come ≤ times t after
  at_least t = ⊎_elim
      (λ old. omega (arith, (old_one t old).is))
      (λ new. omega (arith, h.others t new))
      (either (has triple_cmp t before))

  there : (t : Triple) → has triple_cmp t (triples_at st r stays ++ come) ≡ true → has triple_cmp t after ≡ true
  there t is = ⊎_elim
      (λ kept.
      let one : (key : Key) × (has key_cmp key stays ≡ true) × (triple_at st.pool r key ≡ t) = triples_at-has (triple_at st.pool r) stays t kept in
      let at = counted-has keys left one.0 one.1 in
      let same : triple_of_key st r keys at.index one.0 ≡ t = ap (triple_at st.pool r) (at.is one.0) ∙ one.2 in
      times_some t after (omega (arith, at.some, h.counted at.index one.0 at.low, ap (λ u. times u after) same)))
      (λ came. times_some t after (omega (arith, at_least t, some_times t come came)))
      (one_of (has triple_cmp t (triples_at st r stays)) (has triple_cmp t come) (sym (has-append triple_cmp t (triples_at st r stays) come) ∙ is))

  -- a triple that doesn't come has a key that stays
  kept : (t : Triple) → has triple_cmp t after ≡ true → has triple_cmp t come ≡ false → has triple_cmp t (triples_at st r stays) ≡ true
  kept t is none = ⊎_elim
      (λ old.
      let one = old_one t old in
      let some : 0 < get_or left one.at.index 0 = omega (arith, one.is, some_times t after is, none_times t come none) in
      let stay : has key_cmp one.key stays ≡ true = subst (λ (k : Key). has key_cmp k stays ≡ true) (one.at.is one.key) (has-counted keys left one.at.index one.key one.at.low some) in
      subst (λ (u : Triple). has triple_cmp u (triples_at st r stays) ≡ true) (tells st.pool r one.key t one.own.has) (has-triples_at (triple_at st.pool r) stays one.key stay))
      (λ new. absurd (omega (arith, h.others t new, some_times t after is, none_times t come none)))
      (either (has triple_cmp t before))

  back : (t : Triple) → has triple_cmp t after ≡ true → has triple_cmp t (triples_at st r stays ++ come) ≡ true
  back t is = has-append triple_cmp t (triples_at st r stays) come ∙ at (has triple_cmp t come) refl
    where
      at : (b : Bool) → has triple_cmp t come ≡ b → (has triple_cmp t (triples_at st r stays) || b) ≡ true
      at true e = or_true (has triple_cmp t (triples_at st r stays)) _ refl
      at false e = or_left _ _ (kept t is e)

  -- the triples of the keys that stay and those that come are what the owner has
  pub becomes : (t : Triple) → has triple_cmp t (triples_at st r stays ++ come) ≡ has triple_cmp t after
  becomes t = same_test _ _ (there t) (back t)

-- ---- where it is so

-- what comes is all that the owner has
pub comes_whole : (st : Catalog) (r : Texts) (keys : List Key) (come before : List Triple) → AreKeysOf st r keys before → ComesTo st r keys [] come before come
comes_whole st r keys come before are = record { keys_of = are; counted = λ index other low. omega arith; others = λ t none. refl }

-- some triples are gone, and others come
pub comes_parted : (st : Catalog) (r : Texts) (keys : List Key) (counts left : List ℕ) (before after gone come : List Triple) → AreTimesOf st r keys counts before → AddTimes st r keys left counts gone → Becomes before after gone come → ComesTo st r keys left come before after
comes_parted st r keys counts left before after gone come its less h = record {
  keys_of = its.keys_of;
  counted = λ index other low. omega (arith, h.balance (triple_of_key st r keys index other), less.counted index other low, its.counted index other low);
  others = λ t none. omega (arith, h.balance t, h.within t, none_times t before none);
}
