-- What the effect of a record does to the triples of a store in which each has one owner.
use Rattle.std.proofs.Common.{◌≡◌, ℕ, ◌+◌, ◌<◌, ◌≤◌, Bool, true, false, not, cond, ◌&&◌, ◌||◌, List, [], ◌∷◌, ◌++◌, Option, Result, Ok, Err, OnOk, filter, unwrap_or, is_some, refl, sym, ◌∙◌, ap, subst, arith, ⊎_elim, true≢false}
use Rattle.std.specs.{List.AllByRecursion, List.flat_map, Ordering.eq_by_cmp}
use Rattle.std.specs.FinMap as map
use Rattle.std.proofs.{lemmas.Bool.and_parts, lemmas.Result.on_ok_weaker}
use Rattle.sorted_sets.specs.Rising.{difference, has, sorted}
use Rattle.sorted_sets.proofs.{Bools.or_true, Filtering.has-difference, Filtering.has-filter}
use Rattle.sorted_sets.proofs.Rising.{IsRising-sorted, has_itself, has-append, has-sorted, same_rising}
use Rattle.rdf_term.specs.{declared.term.Term.Term, declared.triple.Triple.Triple, Fit.HasFitAndShortTerms}
use Rattle.rdf_term.specs.Order.{term_cmp, term_cmp-total, triple_cmp, triple_cmp-total}
use Rattle.rdf_term.proofs.Texts.{term_cmp-IsAntisymmetric, triple_cmp-IsAntisymmetric}
use Rattle.term_pool.specs.{declared.fault.PoolFault.PoolFault, declared.fault.PoolFault.TheVariants.Full, Pool.one_if}
use Rattle.triple_store.specs.{Counts.Counts, Counts.Exchanges, Counts.count_of, Room.distinct, Room.room_for, Room.terms_of}
use Rattle.triple_store.specs.StoreState.{StoreState, IsSound as StoreIsSound, counts_in, limit_of}
use Rattle.triple_store.specs.Updates.{IsPatched, KeepsRest, MayCome, MayGo}
use Rattle.triple_store.proofs.{Distinct.fewer, Rooming.terms_among, Standing.owned, Standing.stored_if}
use Rattle.slot_keys.proofs.{Keyed.has_key, Keyed.keys_rising, Lists.one_of}
use Rattle.replica.specs.{declared.record.PatchRecord.PatchRecord, Record.IsSound}
use Rattle.replica.specs.Replica.{AreOwnedOnce, effect, is_at_side, patched, terms_with}
use Rattle.replica.specs.TripleLine.{HasReadableTerms}

-- ---- what comes and what goes

pub came_is : (triples : List Triple) (item : PatchRecord) (t : Triple) → has triple_cmp t (effect triples item).adds ≡ (not (has triple_cmp t triples) && has triple_cmp t item.adds)
unfolding effect
came_is triples item t = has-filter triple_cmp triple_cmp-IsAntisymmetric (is_at_side triples false) t item.adds

pub gone_is : (triples : List Triple) (item : PatchRecord) (t : Triple) → has triple_cmp t (effect triples item).removes ≡ (has triple_cmp t triples && has triple_cmp t item.removes)
unfolding effect
gone_is triples item t = has-filter triple_cmp triple_cmp-IsAntisymmetric (is_at_side triples true) t item.removes

all_fit : (xs : List Triple) (p : Triple → Bool) → AllByRecursion HasReadableTerms xs → AllByRecursion HasFitAndShortTerms (filter p xs)
all_fit [] p h = tt
all_fit (x ∷ xs) p h = by (p x) (all_fit xs p h.1)
  where
    by : (b : Bool) → AllByRecursion HasFitAndShortTerms (filter p xs) → AllByRecursion HasFitAndShortTerms (cond b (x ∷ filter p xs) (filter p xs))
    by true rest = (record { subject = h.0.subject.canonical; predicate = h.0.predicate.canonical; object = h.0.object.canonical }, rest)
    by false rest = rest

pub left_part : (xs ys : List Triple) → AllByRecursion HasReadableTerms (xs ++ ys) → AllByRecursion HasReadableTerms xs
left_part [] ys h = tt
left_part (x ∷ xs) ys h = (h.0, left_part xs ys h.1)

pub one_at_most : (b : Bool) → one_if b ≤ 1
one_at_most true = omega arith
one_at_most false = omega arith

-- the effect may come and go
pub may_come : (store : StoreState) (item : PatchRecord) → AreOwnedOnce (counts_in store) → IsSound item → MayCome store (effect (map.keys (counts_in store)) item).adds
unfolding effect
may_come store item once sound = record {
  fit = all_fit item.adds (is_at_side (map.keys (counts_in store)) false) (left_part item.adds item.removes sound.readable);
  countable = λ t _. omega (arith, once t, one_at_most (has triple_cmp t (map.keys (counts_in store))));
}

pub some_one : (b : Bool) → b ≡ true → 0 < one_if b
some_one true h = omega arith
some_one false h = cc

pub may_go : (store : StoreState) (item : PatchRecord) → AreOwnedOnce (counts_in store) → MayGo store (effect (map.keys (counts_in store)) item).removes
may_go store item once t there =
    let parts = and_parts (has triple_cmp t (map.keys (counts_in store))) (has triple_cmp t item.removes) (sym (gone_is (map.keys (counts_in store)) item t) ∙ there) in
    subst (λ n. 0 < n) (sym (once t)) (some_one (has triple_cmp t (map.keys (counts_in store))) parts.0)

-- ---- the counts then

-- a count of a triple that is o before, comes by a and goes by r
counted : (n : ℕ) (o a r : Bool) → (a ≡ true → r ≡ false) → n + one_if (o && r) ≡ one_if o + one_if (not o && a) → n ≡ one_if ((not r && o) || a)
counted n true true true apart h = absurd (true≢false (apart refl))
counted n true true false apart h = omega (arith, h)
counted n true false true apart h = omega (arith, h)
counted n true false false apart h = omega (arith, h)
counted n false true true apart h = absurd (true≢false (apart refl))
counted n false true false apart h = omega (arith, h)
counted n false false true apart h = omega (arith, h)
counted n false false false apart h = omega (arith, h)

-- a triple is stored exactly where it has an owner
pub stored_by_count : (store : StoreState) → StoreIsSound store → (t : Triple) (b : Bool) → count_of (counts_in store) t ≡ one_if b → has triple_cmp t (map.keys (counts_in store)) ≡ b
stored_by_count store sound t true one =
    sym (map.contains_key-keys (counts_in store) t) ∙ stored_if (counts_in store) t (omega (arith, one))
stored_by_count store sound t false none = sym (map.contains_key-keys (counts_in store) t) ∙ by (map.contains_key (counts_in store) t) refl
  where
    by : (b : Bool) → map.contains_key (counts_in store) t ≡ b → b ≡ false
    by true there = absurd (omega (arith, none, owned store.catalog store.texts sound t there))
    by false absent = refl

module _ (old new : StoreState) (item : PatchRecord) (once : AreOwnedOnce (counts_in old)) (sound : IsSound item) (stored : StoreIsSound new)
    (exchanged : Exchanges (counts_in old) (counts_in new) (effect (map.keys (counts_in old)) item).removes (effect (map.keys (counts_in old)) item).adds) where
  triples : List Triple
  triples = map.keys (counts_in old)

  count_is : (t : Triple) → count_of (counts_in new) t ≡ one_if ((not (has triple_cmp t item.removes) && has triple_cmp t (map.keys (counts_in old))) || has triple_cmp t item.adds)
  count_is t =
      counted (count_of (counts_in new) t) (has triple_cmp t (map.keys (counts_in old))) (has triple_cmp t item.adds) (has triple_cmp t item.removes) (sound.apart t)
      (ap (λ b. count_of (counts_in new) t + one_if b) (sym (gone_is (map.keys (counts_in old)) item t)) ∙ exchanged.counts t ∙ ap (λ n. n + one_if (has triple_cmp t (effect (map.keys (counts_in old)) item).adds)) (once t)
      ∙ ap (λ b. one_if (has triple_cmp t (map.keys (counts_in old))) + one_if b) (came_is (map.keys (counts_in old)) item t))

  has_is : (t : Triple) → has triple_cmp t (map.keys (counts_in new)) ≡ ((not (has triple_cmp t item.removes) && has triple_cmp t (map.keys (counts_in old))) || has triple_cmp t item.adds)
  has_is t = stored_by_count new stored t _ (count_is t)

  pub once_then : AreOwnedOnce (counts_in new)
  once_then t = count_is t ∙ ap one_if (sym (has_is t))

  -- the triples are those before, less those that go, with those that come
  pub keys_then : map.keys (counts_in new) ≡ patched (map.keys (counts_in old)) item
  unfolding patched
  keys_then =
      same_rising triple_cmp-total triple_cmp-IsAntisymmetric (map.keys (counts_in new)) (sorted triple_cmp (difference triple_cmp (map.keys (counts_in old)) item.removes ++ item.adds))
      (keys_rising (counts_in new)) (IsRising-sorted triple_cmp-total (difference triple_cmp (map.keys (counts_in old)) item.removes ++ item.adds))
      (λ t. has_is t ∙ sym (
      has-sorted triple_cmp-total t (difference triple_cmp (map.keys (counts_in old)) item.removes ++ item.adds)
      ∙ has-append triple_cmp t (difference triple_cmp (map.keys (counts_in old)) item.removes) item.adds
      ∙ ap (λ b. b || has triple_cmp t item.adds) (has-difference triple_cmp-total t (map.keys (counts_in old)) item.removes)
      ))

-- ---- room

-- a term of triples is one of a triple's
term_of_one : (ts : List Triple) (x : Term) → has term_cmp x (flat_map terms_of ts) ≡ true → (t : Triple) × (has triple_cmp t ts ≡ true) × (has term_cmp x (terms_of t) ≡ true)
term_of_one [] x h = absurd (true≢false (sym h))
term_of_one (t ∷ ts) x h =
    ⊎_elim
    (λ here. (t, has_itself triple_cmp-total t ts, here))
    (λ later. let one = term_of_one ts x later in (one.0, or_true (eq_by_cmp triple_cmp one.0 t) (has triple_cmp one.0 ts) one.1, one.2))
    (one_of (has term_cmp x (terms_of t)) (has term_cmp x (flat_map terms_of ts)) (sym (has-append term_cmp x (terms_of t) (flat_map terms_of ts)) ∙ h))

-- the terms of triples that are among others are among theirs
pub few_terms : (xs ys : List Triple) → ((t : Triple) → has triple_cmp t xs ≡ true → has triple_cmp t ys ≡ true) → distinct (flat_map terms_of xs) ≤ distinct (flat_map terms_of ys)
few_terms xs ys among =
    fewer term_cmp-total term_cmp-IsAntisymmetric (flat_map terms_of xs) (flat_map terms_of ys)
    (λ x there. let one = term_of_one xs x there in (terms_among ys one.0 (among one.0 one.1)).each x one.2)

or_part : (o a : Bool) → (o || (not o && a)) ≡ (o || a)
or_part true a = refl
or_part false a = refl

-- the effect needs the room that the record needs
pub same_room : (counts : Counts) (item : PatchRecord) → room_for counts (effect (map.keys counts) item).adds ≡ terms_with (map.keys counts) item.adds
same_room counts item =
    let came = (effect (map.keys counts) item).adds in
    let same : (t : Triple) → has triple_cmp t (map.keys counts ++ came) ≡ has triple_cmp t (map.keys counts ++ item.adds) = λ t.
    has-append triple_cmp t (map.keys counts) came ∙ ap (λ b. has triple_cmp t (map.keys counts) || b) (came_is (map.keys counts) item t)
    ∙ or_part (has triple_cmp t (map.keys counts)) (has triple_cmp t item.adds) ∙ sym (has-append triple_cmp t (map.keys counts) item.adds) in
    let fewer_here = few_terms (map.keys counts ++ came) (map.keys counts ++ item.adds) (λ t h. sym (same t) ∙ h) in
    let fewer_there = few_terms (map.keys counts ++ item.adds) (map.keys counts ++ came) (λ t h. same t ∙ h) in
    omega (arith, fewer_here, fewer_there)

-- ---- what a store has after a patch of the effect

module _ (old new : StoreState) (item : PatchRecord) (once : AreOwnedOnce (counts_in old)) (sound : IsSound item) (rest : KeepsRest old new) where
  -- the patch was the effect of the record
  abbrev IsApplied : Result (Unit {0}) PoolFault → Type 0
  IsApplied r = IsPatched old new (effect (map.keys (counts_in old)) item).removes (effect (map.keys (counts_in old)) item).adds r

  pub once_after : (r : Result (Unit {0}) PoolFault) → IsApplied r → AreOwnedOnce (counts_in new)
  once_after (Ok done) applied = once_then old new item once sound rest.sound applied.ok
  once_after (Err fault) applied = subst AreOwnedOnce (sym applied.err) once

  pub keys_after : (r : Result (Unit {0}) PoolFault) → IsApplied r → OnOk r (map.keys (counts_in new) ≡ patched (map.keys (counts_in old)) item)
  keys_after (Ok done) applied = keys_then old new item once sound rest.sound applied.ok
  keys_after (Err fault) applied = tt

  pub full_after : (r : Result (Unit {0}) PoolFault) → IsApplied r → r ≡ Err Full → limit_of old < terms_with (map.keys (counts_in old)) item.adds
  full_after r applied is = subst (λ n. limit_of old < n) (same_room (counts_in old) item) (applied.full is)

  pub within_after : (r : Result (Unit {0}) PoolFault) → IsApplied r → OnOk r (terms_with (map.keys (counts_in old)) item.adds ≤ limit_of old)
  within_after r applied = on_ok_weaker r (subst (λ n. n ≤ limit_of old) (same_room (counts_in old) item)) applied.within

-- ---- the store without triples

abbrev no_counts : Counts
no_counts = map.empty

absent : (t : Triple) → has triple_cmp t (map.keys no_counts) ≡ false
absent t = has_key no_counts t ∙ ap is_some (map.get-empty triple_cmp t)

pub none_once : AreOwnedOnce map.empty
none_once t = ap (λ (o : Option ℕ). unwrap_or o 0) (map.get-empty triple_cmp t) ∙ ap one_if (sym (absent t))

pub no_keys : (counts : Counts) → counts ≡ map.empty → map.keys counts ≡ []
no_keys counts is = ap (λ (c : Counts). map.keys c) is ∙ same_rising triple_cmp-total triple_cmp-IsAntisymmetric (map.keys no_counts) [] (keys_rising no_counts) tt absent
