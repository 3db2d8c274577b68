-- What an owner has after some of its triples are gone, each of which it has once, and others came.
use Rattle.std.proofs.Common.{◌≡◌, ℕ, ◌+◌, ◌<◌, ◌≤◌, Bool, true, false, not, ◌&&◌, ◌||◌, cond, List, [], ◌∷◌, ◌++◌, length, get_or, filter, is_eq, refl, sym, ◌∙◌, ap, subst, arith, true≢false}
use Rattle.std.specs.Ordering.{eq_by_cmp}
use Rattle.std.proofs.lemmas.List.Sums.{sum_by-append}
use Rattle.sorted_sets.specs.Rising.{IsRising, has}
use Rattle.sorted_sets.proofs.{Bools.equal, Filtering.has-filter, Rising.has-append}
use Rattle.rdf_term.specs.{declared.triple.Triple.Triple, Order.triple_cmp}
use Rattle.rdf_term.proofs.Texts.{triple_cmp-IsAntisymmetric}
use Rattle.text_region.specs.Region.{Texts}
use Rattle.term_pool.specs.Pool.{one_if}
use Rattle.slot_keys.specs.{declared.key.Key.Key, Keys.key_cmp, Keys.key_cmp-total}
use Rattle.slot_keys.proofs.Lists.{has_at}
use Rattle.triple_catalog.specs.{declared.catalog.Catalog.Catalog, Moves.triples_at, Slots.triple_at, Stored.IsStored, Stored.is_key}
use Rattle.triple_catalog.proofs.Standing.{has-triples_at}
use Rattle.triple_store.specs.Times.{AreLeftWithout, ComesTo, times, triple_of_key}
use Rattle.triple_store.proofs.{Becoming.none_times, Becoming.some_times, Becoming.times-cons, Multitude.once, Parts.stand_themselves}

-- a triple comes among those that pass a test as many times as among all, or not at all
pub times-filter : (p : Triple → Bool) (t : Triple) (ts : List Triple) → times t (filter p ts) ≡ cond (p t) (times t ts) 0
times-filter p t [] = at (p t)
  where
    at : (b : Bool) → times t [] ≡ cond b (times t []) 0
    at true = refl
    at false = refl
times-filter p t (u ∷ ts) = at (eq_by_cmp triple_cmp t u) refl (p u) refl (p t) refl (times-filter p t ts)
  where
    at : (e : Bool) → eq_by_cmp triple_cmp t u ≡ e → (b : Bool) → p u ≡ b → (c : Bool) → p t ≡ c → times t (filter p ts) ≡ cond c (times t ts) 0
        → times t (cond b (u ∷ filter p ts) (filter p ts)) ≡ cond c (times t (u ∷ ts)) 0
    at true e true b true c rest = omega (arith, times-cons t u (filter p ts), times-cons t u ts, rest)
    at true e false b false c rest = rest
    at true e true b false c rest = absurd (true≢false (sym b ∙ ap p (sym (triple_cmp-IsAntisymmetric t u (equal _ e))) ∙ c))
    at true e false b true c rest = absurd (true≢false (sym c ∙ ap p (triple_cmp-IsAntisymmetric t u (equal _ e)) ∙ b))
    at false e true b true c rest = omega (arith, times-cons t u (filter p ts), times-cons t u ts, ap one_if e, rest)
    at false e true b false c rest = omega (arith, times-cons t u (filter p ts), ap one_if e, rest)
    at false e false b true c rest = omega (arith, times-cons t u ts, ap one_if e, rest)
    at false e false b false c rest = rest

module _ (st : Catalog) (r : Texts) (stored : IsStored st r) (keys : List Key) (rises : IsRising key_cmp keys) (there : (key : Key) → has key_cmp key keys ≡ true → is_key st key ≡ true) (gone come : List Triple) where
  -- what it had
  abbrev pub had : List Triple
  had = triples_at st r keys

  -- and what it has then
  abbrev pub has_then : List Triple
  has_then = filter (λ t. not (has triple_cmp t gone)) had ++ come

  pub then_has : (t : Triple) → has triple_cmp t has_then ≡ ((not (has triple_cmp t gone) && has triple_cmp t had) || has triple_cmp t come)
  then_has t = has-append triple_cmp t (filter (λ u. not (has triple_cmp u gone)) had) come ∙ ap (λ b. b || has triple_cmp t come) (has-filter triple_cmp triple_cmp-IsAntisymmetric (λ u. not (has triple_cmp u gone)) t had)

  then_times : (t : Triple) → times t has_then ≡ cond (not (has triple_cmp t gone)) (times t had) 0 + times t come
  then_times t = sum_by-append (λ v. cond (eq_by_cmp triple_cmp t v) 1 0) (filter (λ u. not (has triple_cmp u gone)) had) come ∙ ap (λ n. n + times t come) (times-filter (λ u. not (has triple_cmp u gone)) t had)

  -- each of its triples is there once
  had_once : (index : ℕ) (other : Key) → index < length keys → times (triple_of_key st r keys index other) had ≡ 1
  had_once index other low =
      let key = get_or keys index other in
      let t = triple_of_key st r keys index other in
      omega (arith, once st r stored keys rises there t, some_times t had (has-triples_at (triple_at st.pool r) keys key (has_at key_cmp-total keys index other low)))

  pub comes_without : (left : List ℕ) → AreLeftWithout st r keys left gone → ComesTo st r keys left come had has_then
  comes_without left h =
      let stand = stand_themselves st r stored keys there in
      record {
        keys_of = record { rising = rises; each = stand.each; all = stand.all };
        counted = λ index other low.
            let t = triple_of_key st r keys index other in
            then_times t ∙ ap (λ n. n + times t come) (at (has triple_cmp t gone) (times t had) (had_once index other low) ∙ sym (h.counted index other low));
        others = λ t none. omega (arith, then_times t, nothing (has triple_cmp t gone) (times t had) (none_times t had none));
      }
    where
      at : (b : Bool) (n : ℕ) → n ≡ 1 → cond (not b) n 0 ≡ cond b 0 1
      at true n one = refl
      at false n one = one

      nothing : (b : Bool) (n : ℕ) → n ≡ 0 → cond (not b) n 0 ≡ 0
      nothing true n none = refl
      nothing false n none = none
