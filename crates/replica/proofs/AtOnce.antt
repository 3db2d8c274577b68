-- What a store has after a record was applied at once.
use Rattle.std.proofs.Common.{◌≡◌, ◌+◌, ◌<◌, ◌≤◌, Bool, true, false, not, cond, ◌&&◌, ◌||◌, List, [], ◌∷◌, ◌++◌, length, filter, Ordering, Less, Equal, Greater, refl, sym, ◌∙◌, ap, subst, arith, length-append, true≢false}
use Rattle.std.specs.{BTreeSet.insert_key, Cmp.IsTotalOrder, List.AllByRecursion, Ordering.eq_by_cmp, Ordering.match_ordering}
use Rattle.std.specs.FinMap as map
use Rattle.std.specs.FinMap.{IsAntisymmetric}
use Rattle.std.proofs.{lemmas.Bool.and_from, lemmas.List.Sums.count_by-le-length, lemmas.List.Sums.length-filter, lemmas.List.length-map}
use Rattle.sorted_sets.specs.Rising.{IsRising, has, sorted}
use Rattle.sorted_sets.proofs.{Bools.clash, Bools.equal, Bools.or_true, Filtering.has-filter}
use Rattle.sorted_sets.proofs.Rising.{has-append, same_rising, sorted_rising}
use Rattle.rdf_term.specs.{declared.triple.Triple.Triple, Fit.HasFitAndShortTerms, Order.triple_cmp, Order.triple_cmp-total}
use Rattle.rdf_term.proofs.Texts.{triple_cmp-IsAntisymmetric}
use Rattle.term_pool.specs.Pool.{one_if}
use Rattle.slot_keys.specs.declared.key.Key.{Key}
use Rattle.slot_keys.proofs.Keyed.{keys_rising}
use Rattle.triple_store.specs.{Counts.Counts, Counts.Exchanges, Counts.count_of}
use Rattle.triple_store.specs.StoreState.{AreKeysOf, KeepsKeys, StoreState, IsSound as StoreIsSound, counts_in, limit_of}
use Rattle.triple_store.specs.Updates.{AreStored, KeepsRest, MayCome}
use Rattle.triple_store.proofs.{Distinct.fewer, Standing.owned, Standing.stored_if}
use Rattle.replica.specs.{declared.record.PatchRecord.PatchRecord, Record.IsSound}
use Rattle.replica.specs.Applying.{AreGained, KeepsCounts}
use Rattle.replica.specs.Replica.{AreOwnedOnce, effect, patched, terms_with}
use Rattle.replica.specs.TripleLine.{HasReadableTerms}
use Rattle.replica.proofs.Applied.{came_is, few_terms, gone_is, keys_then, left_part, once_then, one_at_most, some_one, stored_by_count}

-- ---- lists

module _ {K : Type 0} {R : K → K → Ordering} (o : IsTotalOrder R) (same : IsAntisymmetric R) where
  length-insert_key : (k : K) (xs : List K) → length (insert_key R xs k) ≤ length xs + 1
  length-insert_key k [] = omega arith
  length-insert_key k (x ∷ xs) =
      elim (R k x) as (λ r. length (match_ordering r (k ∷ x ∷ xs) (x ∷ xs) (x ∷ insert_key R xs k)) ≤ length (x ∷ xs) + 1) [
        | Less ↦ omega arith
        | Equal ↦ omega arith
        | Greater ↦ omega (arith, length-insert_key k xs)
      ]

  length-sorted : (xs : List K) → length (sorted R xs) ≤ length xs
  length-sorted [] = omega arith
  length-sorted (x ∷ xs) = omega (arith, length-insert_key x (sorted R xs), length-sorted xs)

  -- the elements but for one
  abbrev others : K → List K → List K
  others k xs = filter (λ y. not (eq_by_cmp R k y)) xs

  fewer_others : (k : K) (xs : List K) → length (others k xs) ≤ length xs
  fewer_others k xs = omega (arith, length-filter (λ y. not (eq_by_cmp R k y)) xs, count_by-le-length (λ y. not (eq_by_cmp R k y)) xs)

  one_less : (k : K) (xs : List K) → has R k xs ≡ true → length (others k xs) + 1 ≤ length xs
  one_less k [] h = clash h refl
  one_less k (x ∷ xs) h = by (eq_by_cmp R k x) (one_less k xs) h
    where
      by : (b : Bool) → (has R k xs ≡ true → length (others k xs) + 1 ≤ length xs) → (b || has R k xs) ≡ true → length (cond (not b) (x ∷ others k xs) (others k xs)) + 1 ≤ length (x ∷ xs)
      by true later there = omega (arith, fewer_others k xs)
      by false later there = omega (arith, later there)

  -- an element that is where another isn't is another one
  apart : (k q : K) (xs : List K) (b c : Bool) → has R k xs ≡ b → has R q xs ≡ not b → eq_by_cmp R k q ≡ c → not c ≡ true
  apart k q xs b false hk hq e = refl
  apart k q xs b true hk hq e =
      let is : k ≡ q = same k q (equal (R k q) e) in
      absurd (never b (sym hk ∙ ap (λ x. has R x xs) is ∙ hq))
    where
      never : (b : Bool) → b ≡ not b → ⊥
      never true h = true≢false h
      never false h = true≢false (sym h)

  still_there : (k q : K) (xs ys : List K) (b : Bool) → has R k xs ≡ b → has R q xs ≡ not b → has R q ys ≡ true → has R q (others k ys) ≡ true
  still_there k q xs ys b hk hq there = has-filter R same (λ y. not (eq_by_cmp R k y)) q ys ∙ and_from _ _ (apart k q xs b (eq_by_cmp R k q) hk hq refl) there

  -- a set within another that isn't larger is the other
  no_more : (xs ys : List K) → IsRising R xs → length ys ≤ length xs → ((k : K) → has R k xs ≡ true → has R k ys ≡ true) → (k : K) → has R k ys ≡ true → has R k xs ≡ true
  no_more xs ys rising few within k there = by (has R k xs) refl
    where
      by : (b : Bool) → has R k xs ≡ b → has R k xs ≡ true
      by true h = h
      by false h =
          let fits = fewer o same xs (others k ys) (λ q inside. still_there k q xs ys false h inside (within q inside)) in
          absurd (omega (arith, few, one_less k ys there, fits, length-sorted (others k ys), ap length (sorted_rising o same xs rising)))

  -- a set of others and of as many more has no element of these among the others
  all_new : (xs ys zs : List K) → IsRising R zs → length zs ≡ length xs + length ys → ((k : K) → has R k zs ≡ true → (has R k xs || has R k ys) ≡ true) → (k : K) → has R k ys ≡ true → has R k xs ≡ false
  all_new xs ys zs rising long within k there = by (has R k xs) refl
    where
      step : (q : K) (a : Bool) → has R k xs ≡ true → has R q xs ≡ a → (a || has R q ys) ≡ true → (a || has R q (others k ys)) ≡ true
      step q true h e w = refl
      step q false h e w = still_there k q xs ys true h e w

      by : (b : Bool) → has R k xs ≡ b → has R k xs ≡ false
      by false h = h
      by true h =
          let fits = fewer o same zs (xs ++ others k ys) (λ q inside. has-append R q xs (others k ys) ∙ step q (has R q xs) h refl (within q inside)) in
          absurd (omega (arith, long, one_less k ys there, fits, length-sorted (xs ++ others k ys), length-append xs (others k ys), ap length (sorted_rising o same zs rising)))

-- ---- counts and keys

len_keys : (counts : Counts) → map.len counts ≡ length (map.keys counts)
len_keys counts = map.len-entries counts ∙ sym (length-map (map.entries counts) (λ e. e.0))

module _ (store : StoreState) (sound : StoreIsSound store) where
  has_owner : (t : Triple) → has triple_cmp t (map.keys (counts_in store)) ≡ true → 0 < count_of (counts_in store) t
  has_owner t h = owned store.catalog store.texts sound t (map.contains_key-keys (counts_in store) t ∙ h)

  is_there : (t : Triple) → 0 < count_of (counts_in store) t → has triple_cmp t (map.keys (counts_in store)) ≡ true
  is_there t h = sym (map.contains_key-keys (counts_in store) t) ∙ stored_if (counts_in store) t h

once_owner : (store : StoreState) → AreOwnedOnce (counts_in store) → (t : Triple) → has triple_cmp t (map.keys (counts_in store)) ≡ true → 0 < count_of (counts_in store) t
once_owner store once t h = subst (λ n. 0 < n) (sym (once t)) (some_one (has triple_cmp t (map.keys (counts_in store))) h)

-- keys of triples are keys of stored triples
pub stored_keys : (store : StoreState) (keys : List Key) (triples : List Triple) → AreKeysOf store keys triples → AreStored store keys
stored_keys store keys triples are = record { rising = are.rising; there = λ key h. (are.each key h).1.stored }

-- and go on being theirs as long as these have owners
kept_keys : (old new : StoreState) (keys : List Key) (triples : List Triple) → AreKeysOf old keys triples → KeepsKeys old new → ((t : Triple) → has triple_cmp t triples ≡ true → 0 < count_of (counts_in new) t) → AreKeysOf new keys triples
kept_keys old new keys triples are keeps some = record {
  rising = are.rising;
  each = λ key h. let one = are.each key h in (one.0, keeps.kept key one.0 one.1 (some one.0 one.2), one.2);
  all = λ t h. let one = are.all t h in (one.0, keeps.kept one.0 t one.1 (some t h), one.2);
}

-- one after the other, where no count was lower between
pub kept_twice : (old mid new : StoreState) → KeepsRest old mid → KeepsRest mid new → ((t : Triple) → count_of (counts_in new) t ≤ count_of (counts_in mid) t) → KeepsRest old new
kept_twice old mid new first next fewer_then = record {
  keeps = record { kept = λ key t there some. next.keeps.kept key t (first.keeps.kept key t there (omega (arith, some, fewer_then t))) some };
  beside = λ piece. next.beside piece ∙ first.beside piece;
  limit = next.limit ∙ first.limit;
  sound = next.sound;
}

-- what was given back has as many owners as before
pub given_back : (old mid new : StoreState) (triples : List Triple) → Exchanges (counts_in old) (counts_in mid) [] triples → Exchanges (counts_in mid) (counts_in new) triples [] → KeepsCounts old new
given_back old mid new triples up down t = omega (arith, up.counts t, down.counts t)

pub not_more : (mid new : StoreState) (triples : List Triple) → Exchanges (counts_in mid) (counts_in new) triples [] → (t : Triple) → count_of (counts_in new) t ≤ count_of (counts_in mid) t
not_more mid new triples down t = omega (arith, down.counts t)

-- where each triple has as many owners as before, the same are stored
module _ (old new : StoreState) (once : AreOwnedOnce (counts_in old)) (sound : StoreIsSound new) (kept : KeepsCounts old new) where
  has_same : (t : Triple) → has triple_cmp t (map.keys (counts_in new)) ≡ has triple_cmp t (map.keys (counts_in old))
  has_same t = stored_by_count new sound t (has triple_cmp t (map.keys (counts_in old))) (kept t ∙ once t)

  pub same_keys : map.keys (counts_in new) ≡ map.keys (counts_in old)
  same_keys = same_rising triple_cmp-total triple_cmp-IsAntisymmetric (map.keys (counts_in new)) (map.keys (counts_in old)) (keys_rising (counts_in new)) (keys_rising (counts_in old)) has_same

  pub once_still : AreOwnedOnce (counts_in new)
  once_still t = kept t ∙ once t ∙ ap one_if (sym (has_same t))

-- ---- a record's triples

fit_all : (xs : List Triple) → AllByRecursion HasReadableTerms xs → AllByRecursion HasFitAndShortTerms xs
fit_all [] h = tt
fit_all (x ∷ xs) h = (record { subject = h.0.subject.canonical; predicate = h.0.predicate.canonical; object = h.0.object.canonical }, fit_all xs h.1)

pub right_part : (xs ys : List Triple) → AllByRecursion HasReadableTerms (xs ++ ys) → AllByRecursion HasReadableTerms ys
right_part [] ys h = h
right_part (x ∷ xs) ys h = right_part xs ys h.1

pub removes_come : (store : StoreState) (item : PatchRecord) → AreOwnedOnce (counts_in store) → IsSound item → MayCome store item.removes
removes_come store item once sound = record {
  fit = fit_all item.removes (right_part item.adds item.removes sound.readable);
  countable = λ t _. omega (arith, once t, one_at_most (has triple_cmp t (map.keys (counts_in store))));
}

module _ (old first : StoreState) (item : PatchRecord) (gone : List Key) (once : AreOwnedOnce (counts_in old)) (sound : IsSound item) (up : AreGained old first item.removes 0 gone)
    (rest_first : KeepsRest old first) where
  -- each triple that goes was stored
  was_stored : (t : Triple) → has triple_cmp t (map.keys (counts_in first)) ≡ true → has triple_cmp t (map.keys (counts_in old)) ≡ true
  was_stored =
      no_more triple_cmp-total triple_cmp-IsAntisymmetric (map.keys (counts_in old)) (map.keys (counts_in first)) (keys_rising (counts_in old))
      (omega (arith, up.fresh_are, len_keys (counts_in old), len_keys (counts_in first)))
      (λ t h. is_there first rest_first.sound t (omega (arith, once_owner old once t h, up.owners.counts t)))

  goes_stored : (t : Triple) → has triple_cmp t item.removes ≡ true → has triple_cmp t (map.keys (counts_in old)) ≡ true
  goes_stored t h = was_stored t (is_there first rest_first.sound t (omega (arith, up.owners.counts t, some_one (has triple_cmp t item.removes) h)))

  pub adds_come : MayCome first item.adds
  adds_come = record {
    fit = fit_all item.adds (left_part item.adds item.removes sound.readable);
    countable = λ t _. omega (arith, once t, one_at_most (has triple_cmp t (map.keys (counts_in old))), up.owners.counts t, one_at_most (has triple_cmp t item.removes));
  }

  -- ---- what comes isn't taken

  module _ (second : StoreState) (none : KeepsCounts first second) (rest_second : KeepsRest first second) where
    pub keys_back : AreKeysOf second gone item.removes
    keys_back = kept_keys first second gone item.removes up.keys_of rest_second.keeps (λ t h. omega (arith, none t, up.owners.counts t, some_one (has triple_cmp t item.removes) h))

    pub as_before : (third : StoreState) → Exchanges (counts_in second) (counts_in third) item.removes [] → KeepsCounts old third
    as_before third down t = omega (arith, up.owners.counts t, none t, down.counts t)

  -- ---- what comes is taken, and what goes has two owners less

  module _ (second : StoreState) (came : List Key) (more : AreGained first second item.adds (length item.adds) came) (rest_second : KeepsRest first second) where
    within_second : (t : Triple) → has triple_cmp t (map.keys (counts_in second)) ≡ true → (has triple_cmp t (map.keys (counts_in first)) || has triple_cmp t item.adds) ≡ true
    within_second t h = by (has triple_cmp t item.adds) refl
      where
        or_there : (a b : Bool) → a ≡ true → (a || b) ≡ true
        or_there true b e = refl
        or_there false b e = clash e refl

        by : (b : Bool) → has triple_cmp t item.adds ≡ b → (has triple_cmp t (map.keys (counts_in first)) || has triple_cmp t item.adds) ≡ true
        by true e = or_true (has triple_cmp t (map.keys (counts_in first))) (has triple_cmp t item.adds) e
        by false e =
            or_there (has triple_cmp t (map.keys (counts_in first))) (has triple_cmp t item.adds)
            (is_there first rest_first.sound t (omega (arith, has_owner second rest_second.sound t h, more.owners.counts t, ap one_if e)))

    -- no triple that comes was stored
    comes_new : (t : Triple) → has triple_cmp t item.adds ≡ true → has triple_cmp t (map.keys (counts_in old)) ≡ false
    comes_new t h = by (has triple_cmp t (map.keys (counts_in old))) refl
      where
        new_first : has triple_cmp t (map.keys (counts_in first)) ≡ false
        new_first =
            all_new triple_cmp-total triple_cmp-IsAntisymmetric (map.keys (counts_in first)) item.adds (map.keys (counts_in second)) (keys_rising (counts_in second))
            (omega (arith, more.fresh_are, len_keys (counts_in first), len_keys (counts_in second))) within_second t h

        by : (b : Bool) → has triple_cmp t (map.keys (counts_in old)) ≡ b → has triple_cmp t (map.keys (counts_in old)) ≡ false
        by false e = e
        by true e = absurd (true≢false (sym (is_there first rest_first.sound t (omega (arith, once_owner old once t e, up.owners.counts t))) ∙ new_first))

    pub keys_second : AreKeysOf second gone item.removes
    keys_second = kept_keys first second gone item.removes up.keys_of rest_second.keeps (λ t h. omega (arith, more.owners.counts t, up.owners.counts t, some_one (has triple_cmp t item.removes) h))

    pub has_room : terms_with (map.keys (counts_in old)) item.adds ≤ limit_of old
    has_room =
        let fewer_terms = few_terms (map.keys (counts_in old) ++ item.adds) (map.keys (counts_in first) ++ item.adds) among in
        omega (arith, fewer_terms, more.within, rest_first.limit)
      where
        either : (t : Triple) (b : Bool) → has triple_cmp t (map.keys (counts_in old)) ≡ b → (b || has triple_cmp t item.adds) ≡ true → (has triple_cmp t (map.keys (counts_in first)) || has triple_cmp t item.adds) ≡ true
        either t true e h = ap (λ b. b || has triple_cmp t item.adds) (is_there first rest_first.sound t (omega (arith, once_owner old once t e, up.owners.counts t)))
        either t false e h = or_true (has triple_cmp t (map.keys (counts_in first))) (has triple_cmp t item.adds) h

        among : (t : Triple) → has triple_cmp t (map.keys (counts_in old) ++ item.adds) ≡ true → has triple_cmp t (map.keys (counts_in first) ++ item.adds) ≡ true
        among t h =
            has-append triple_cmp t (map.keys (counts_in first)) item.adds
            ∙ either t (has triple_cmp t (map.keys (counts_in old))) refl (sym (has-append triple_cmp t (map.keys (counts_in old)) item.adds) ∙ h)

    module _ (third : StoreState) (down : Exchanges (counts_in second) (counts_in third) item.removes []) (rest_third : KeepsRest second third) where
      pub keys_third : AreKeysOf third gone item.removes
      keys_third =
          kept_keys second third gone item.removes keys_second rest_third.keeps
          (λ t h. omega (arith, more.owners.counts t, up.owners.counts t, down.counts t, once_owner old once t (goes_stored t h)))

      module _ (fourth : StoreState) (again : Exchanges (counts_in third) (counts_in fourth) item.removes []) (rest_fourth : KeepsRest third fourth) where
        both_first : (k r : Bool) → (r ≡ true → k ≡ true) → (k && r) ≡ r
        both_first true r h = refl
        both_first false true h = h refl
        both_first false false h = refl

        both_second : (k a : Bool) → (a ≡ true → k ≡ false) → (not k && a) ≡ a
        both_second false a h = refl
        both_second true true h = absurd (true≢false (h refl))
        both_second true false h = refl

        exchanged : Exchanges (counts_in old) (counts_in fourth) (effect (map.keys (counts_in old)) item).removes (effect (map.keys (counts_in old)) item).adds
        exchanged = record {
          counts = λ t.
              let goes : has triple_cmp t (effect (map.keys (counts_in old)) item).removes ≡ has triple_cmp t item.removes =
              gone_is (map.keys (counts_in old)) item t ∙ both_first (has triple_cmp t (map.keys (counts_in old))) (has triple_cmp t item.removes) (goes_stored t) in
              let comes : has triple_cmp t (effect (map.keys (counts_in old)) item).adds ≡ has triple_cmp t item.adds =
              came_is (map.keys (counts_in old)) item t ∙ both_second (has triple_cmp t (map.keys (counts_in old))) (has triple_cmp t item.adds) (comes_new t) in
              omega (arith, ap one_if goes, ap one_if comes, up.owners.counts t, more.owners.counts t, down.counts t, again.counts t);
        }

        pub once_at_last : AreOwnedOnce (counts_in fourth)
        once_at_last = once_then old fourth item once sound rest_fourth.sound exchanged

        pub keys_at_last : map.keys (counts_in fourth) ≡ patched (map.keys (counts_in old)) item
        keys_at_last = keys_then old fourth item once sound rest_fourth.sound exchanged
