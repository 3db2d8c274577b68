-- A list in which each triple comes at most as many times as in another is no longer.
use Rattle.std.proofs.Common.{◌≡◌, ℕ, ◌+◌, ◌<◌, ◌≤◌, Bool, true, false, ◌||◌, cond, nat_lt, List, [], ◌∷◌, ◌++◌, length, get_or, is_eq, refl, sym, ◌∙◌, ap, subst, arith, true≢false}
use Rattle.std.specs.Ordering.{eq_by_cmp}
use Rattle.std.proofs.{lemmas.List.length-append, lemmas.List.length-map, lemmas.List.Sums.sum_by-append}
use Rattle.sorted_sets.specs.Rising.{Above, IsRising, has}
use Rattle.sorted_sets.proofs.{Bools.equal, Bools.or_false, Bools.or_true, Rising.has_itself}
use Rattle.rdf_term.specs.{declared.triple.Triple.Triple, Order.triple_cmp, Order.triple_cmp-total}
use Rattle.rdf_term.proofs.Texts.{triple_cmp-IsAntisymmetric}
use Rattle.text_region.specs.Region.{Texts}
use Rattle.term_pool.specs.Pool.{one_if}
use Rattle.slot_keys.specs.{declared.key.Key.Key, KeyCounts.counted_keys, Keys.key_cmp, Keys.key_cmp-total}
use Rattle.slot_keys.proofs.Lists.{never}
use Rattle.triple_catalog.specs.{declared.catalog.Catalog.Catalog, Costs.Costs, Moves.triples_at, Slots.triple_at}
use Rattle.triple_catalog.specs.Stored.{HasKey, IsStored, is_key}
use Rattle.triple_store.specs.{declared.telling.Telling.Telling, Telling.if_told, Times.ComesTo, Times.times}
use Rattle.triple_store.proofs.Afterwards.{stays_among}
use Rattle.triple_store.proofs.Becoming.{at_least, counted-has, none_times, some_times, times-cons, times_some}
use Rattle.triple_store.proofs.Costs.{told_fewer}
use Rattle.triple_catalog.proofs.{Costs.at_most, Costs.both, Live.key_same, Standing.stored_key, Standing.triples_at-has}

-- the list without the triple where it comes first
abbrev without : Triple → List Triple → List Triple
without x [] = []
without x (y ∷ ys) = cond (eq_by_cmp triple_cmp x y) ys (y ∷ without x ys)

-- it comes once less there, and the list is shorter by one
record IsOneLess (x : Triple) (ys less : List Triple) : Type 0 where
  pub counts : (t : Triple) → times t ys ≡ cond (eq_by_cmp triple_cmp t x) 1 0 + times t less
  pub shorter : length ys ≡ length less + 1

one_less : (x : Triple) (ys : List Triple) → has triple_cmp x ys ≡ true → IsOneLess x ys (without x ys)
one_less x [] h = absurd (true≢false (sym h))
one_less x (y ∷ ys) h = at (eq_by_cmp triple_cmp x y) refl h (one_less x ys)
  where
    at : (b : Bool) → eq_by_cmp triple_cmp x y ≡ b → (b || has triple_cmp x ys) ≡ true → (has triple_cmp x ys ≡ true → IsOneLess x ys (without x ys)) → IsOneLess x (y ∷ ys) (cond b ys (y ∷ without x ys))
    at true e h rest =
        let same : x ≡ y = triple_cmp-IsAntisymmetric x y (equal _ e) in
        record {
          counts = λ t. times-cons t y ys ∙ ap (λ (v : Triple). cond (eq_by_cmp triple_cmp t v) 1 0 + times t ys) (sym same);
          shorter = omega arith;
        }
    at false e h rest =
        let less = rest h in
        record {
          counts = λ t. omega (arith, times-cons t y ys, less.counts t, times-cons t y (without x ys));
          shorter = omega (arith, less.shorter);
        }

pub fewer_times : (xs ys : List Triple) → ((t : Triple) → times t xs ≤ times t ys) → length xs ≤ length ys
fewer_times [] ys h = omega arith
fewer_times (x ∷ xs) ys h =
    let some : 0 < times x (x ∷ xs) = some_times x (x ∷ xs) (has_itself triple_cmp-total x xs) in
    let less = one_less x ys (times_some x ys (omega (arith, some, h x))) in
    let rest = fewer_times xs (without x ys) (λ t. omega (arith, h t, less.counts t, times-cons t x xs)) in
    omega (arith, rest, less.shorter)

-- ---- keys that stay, and what comes, are no more than what the owner has then

above_none : (k : Key) (keys : List Key) → Above key_cmp k keys → has key_cmp k keys ≡ false
above_none k [] h = refl
above_none k (x ∷ keys) h = or_false _ _ (ap is_eq h.0) (above_none k keys h.1)

Above-counted : (k : Key) (keys : List Key) (counts : List ℕ) → Above key_cmp k keys → Above key_cmp k (counted_keys keys counts)
Above-counted k [] counts h = tt
Above-counted k (x ∷ keys) [] h = tt
Above-counted k (x ∷ keys) (n ∷ counts) h = at (nat_lt 0 n) (Above-counted k keys counts h.1)
  where
    at : (b : Bool) → Above key_cmp k (counted_keys keys counts) → Above key_cmp k (cond b (x ∷ counted_keys keys counts) (counted_keys keys counts))
    at true rest = (h.0, rest)
    at false rest = rest

IsRising-counted : (keys : List Key) (counts : List ℕ) → IsRising key_cmp keys → IsRising key_cmp (counted_keys keys counts)
IsRising-counted [] counts h = tt
IsRising-counted (k ∷ keys) [] h = tt
IsRising-counted (k ∷ keys) (n ∷ counts) h = at (nat_lt 0 n) (IsRising-counted keys counts h.1)
  where
    at : (b : Bool) → IsRising key_cmp (counted_keys keys counts) → IsRising key_cmp (cond b (k ∷ counted_keys keys counts) (counted_keys keys counts))
    at true rest = (Above-counted k keys counts h.0, rest)
    at false rest = rest

module _ (st : Catalog) (r : Texts) (stored : IsStored st r) where
  -- no two of them have one triple
  pub once : (keys : List Key) → IsRising key_cmp keys → ((key : Key) → has key_cmp key keys ≡ true → is_key st key ≡ true) → (t : Triple) → times t (triples_at st r keys) ≤ 1
  once [] rises there t = omega arith
  once (k ∷ keys) rises there t = at (eq_by_cmp triple_cmp t (triple_at st.pool r k)) refl (once keys rises.1 (λ key is. there key (or_true (eq_by_cmp key_cmp key k) _ is)) t)
    where
      at : (b : Bool) → eq_by_cmp triple_cmp t (triple_at st.pool r k) ≡ b → times t (triples_at st r keys) ≤ 1 → times t (triples_at st r (k ∷ keys)) ≤ 1
      at true e rest =
          let same : t ≡ triple_at st.pool r k = triple_cmp-IsAntisymmetric t (triple_at st.pool r k) (equal _ e) in
          let mine : HasKey st r k t = subst (λ (u : Triple). HasKey st r k u) (sym same) (stored_key st r stored k (there k (has_itself key_cmp-total k keys))) in
          let nothing : times t (triples_at st r keys) ≡ 0 = none_times t (triples_at st r keys) (never (has triple_cmp t (triples_at st r keys)) (λ is.
          let one : (key : Key) × (has key_cmp key keys ≡ true) × (triple_at st.pool r key ≡ t) = triples_at-has (triple_at st.pool r) keys t is in
          let its : HasKey st r one.0 t = subst (λ (u : Triple). HasKey st r one.0 u) one.2 (stored_key st r stored one.0 (there one.0 (or_true (eq_by_cmp key_cmp one.0 k) _ one.1))) in
          let one_key : one.0 ≡ k = key_same st.pool r one.0 k t stored.lies its.has mine.has in
          true≢false (sym (subst (λ (key : Key). has key_cmp key keys ≡ true) one_key one.1) ∙ above_none k keys rises.0))) in
          omega (arith, times-cons t (triple_at st.pool r k) (triples_at st r keys), ap one_if e, nothing)
      at false e rest = omega (arith, times-cons t (triple_at st.pool r k) (triples_at st r keys), ap one_if e, rest)

  module _ (keys : List Key) (left : List ℕ) (come before after : List Triple) (there : (key : Key) → has key_cmp key keys ≡ true → is_key st key ≡ true) (h : ComesTo st r keys left come before after) where
    abbrev some : List Key
    some = counted_keys keys left

    few : (t : Triple) → times t (triples_at st r some) + times t come ≤ times t after
    few t = at (has triple_cmp t (triples_at st r some)) refl
      where
        at : (b : Bool) → has triple_cmp t (triples_at st r some) ≡ b → times t (triples_at st r some) + times t come ≤ times t after
        at true e =
            let one : (key : Key) × (has key_cmp key some ≡ true) × (triple_at st.pool r key ≡ t) = triples_at-has (triple_at st.pool r) some t e in
            let at = counted-has keys left one.0 one.1 in
            let same : triple_at st.pool r (get_or keys at.index one.0) ≡ t = ap (triple_at st.pool r) (at.is one.0) ∙ one.2 in
            omega (
              arith,
              once some (IsRising-counted keys left h.keys_of.rising) (λ key is. there key (stays_among keys left key is)) t,
              at.some,
              h.counted at.index one.0 at.low,
              ap (λ v. times v come) same,
              ap (λ v. times v after) same,
            )
        at false e = omega (arith, none_times t (triples_at st r some) e, at_least st r keys left come before after h t)

    pub stays_few : length some + length come ≤ length after
    stays_few = omega (
      arith,
      fewer_times (triples_at st r some ++ come) after (λ t. omega (arith, few t, sum_by-append (λ v. cond (eq_by_cmp triple_cmp t v) 1 0) (triples_at st r some) come)),
      length-append (triples_at st r some) come,
      length-map some (triple_at st.pool r),
    )

-- so the exchange costs no more than one of all that the owner has then: where what came was taken back
pub cost_undone : (telling : Telling) (n m k come stay had all gone before mid after : ℕ) → stay + come ≤ all → gone ≤ come → Costs n m come 0 before mid → Costs m k 0 gone mid after → Costs n k all (if_told telling (all + had) + (all + had)) before after
cost_undone telling n m k come stay had all gone before mid after few less f g =
    at_most n k (come + 0) all (0 + gone) (if_told telling (all + had) + (all + had)) before after (omega (arith, few)) (omega (arith, few, less)) (both n m k come 0 0 gone before mid after f g)

-- and where it was told
pub cost_told : (telling : Telling) (n m k come stay had all these gone before mid then after : ℕ) → stay + come ≤ all → these ≤ come + stay → gone ≤ all + had
    → Costs n m come 0 before mid → Costs m m 0 (if_told telling (these + had)) mid then → Costs m k 0 gone then after → Costs n k all (if_told telling (all + had) + (all + had)) before after
cost_told telling n m k come stay had all these gone before mid then after few short less f g h =
    let told = if_told telling (these + had) in
    at_most n k (come + (0 + 0)) all (0 + (told + gone)) (if_told telling (all + had) + (all + had)) before after (omega (arith, few)) (omega (arith, less, told_fewer telling (these + had) (all + had) (omega (arith, few, short))))
    (both n m k come (0 + 0) 0 (told + gone) before mid after f (both m m k 0 0 told gone mid then after g h))

-- nor does one for which nothing is left and nothing comes
pub cost_for_none : (telling : Telling) (n m had all before after : ℕ) → Costs n m 0 (if_told telling had + had) before after → Costs n m all (if_told telling (all + had) + (all + had)) before after
cost_for_none telling n m had all before after h =
    at_most n m 0 all (if_told telling had + had) (if_told telling (all + had) + (all + had)) before after (omega arith) (omega (arith, told_fewer telling had (all + had) (omega arith))) h
