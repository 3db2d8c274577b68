-- How many times each triple of an owner comes is known on while others exchange theirs.
use Rattle.std.proofs.Common.{◌≡◌, ℕ, ◌<◌, true, List, [], get_or, sym, ◌∙◌, ap, arith}
use Rattle.sorted_sets.specs.Rising.{has}
use Rattle.rdf_term.specs.{declared.triple.Triple.Triple, Order.triple_cmp}
use Rattle.slot_keys.specs.{declared.key.Key.Key, Keys.key_cmp, Keys.key_cmp-total}
use Rattle.slot_keys.proofs.Lists.{has_at}
use Rattle.triple_catalog.specs.{Counts.count_of, Slots.triple_at}
use Rattle.triple_store.specs.Updates.{AreTimesIfKnown, AreTimesOf, times}
use Rattle.triple_store.specs.StoreState.{AreKeysOf, HasKey, KeepsKeys, StoreState, counts_in}
use Rattle.triple_catalog.proofs.Live.{tells}

-- the keys of triples that are still stored are theirs
pub keys_last : (s s2 : StoreState) (keys : List Key) (ts : List Triple) → AreKeysOf s keys ts → KeepsKeys s s2 → ((t : Triple) → has triple_cmp t ts ≡ true → 0 < count_of (counts_in s2) t) → AreKeysOf s2 keys ts
keys_last s s2 keys ts h keeps owned = record {
  rising = h.rising;
  each = λ key there.
      let is : (t : Triple) × HasKey s key t × (has triple_cmp t ts ≡ true) = h.each key there in
      (is.0, keeps.kept key is.0 is.1 (owned is.0 is.2), is.2);
  all = λ t there.
      let is : (key : Key) × HasKey s key t × (has key_cmp key keys ≡ true) = h.all t there in
      (is.0, keeps.kept is.0 t is.1 (owned t there), is.2);
}

-- and so are their times
pub times_last : (s s2 : StoreState) (keys : List Key) (counts : List ℕ) (ts : List Triple) → AreTimesOf s keys counts ts → KeepsKeys s s2 → ((t : Triple) → has triple_cmp t ts ≡ true → 0 < count_of (counts_in s2) t) → AreTimesOf s2 keys counts ts
times_last s s2 keys counts ts h keeps owned = record {
  keys_of = keys_last s s2 keys ts h.keys_of keeps owned;
  as_many = h.as_many;
  counted = λ index other low.
      let key = get_or keys index other in
      let is : (t : Triple) × HasKey s key t × (has triple_cmp t ts ≡ true) = h.keys_of.each key (has_at key_cmp-total keys index other low) in
      let before : triple_at s.catalog.pool s.texts key ≡ is.0 = tells s.catalog.pool s.texts key is.0 is.1.has in
      let later : HasKey s2 key is.0 = keeps.kept key is.0 is.1 (owned is.0 is.2) in
      let after : triple_at s2.catalog.pool s2.texts key ≡ is.0 = tells s2.catalog.pool s2.texts key is.0 later.has in
      h.counted index other low ∙ ap (λ (t : Triple). times t ts) (before ∙ sym after);
}

-- where they are known
pub times_last_if_known : (s s2 : StoreState) (keys : List Key) (counts : List ℕ) (ts : List Triple) → AreTimesIfKnown s keys counts ts → KeepsKeys s s2 → ((t : Triple) → has triple_cmp t ts ≡ true → 0 < count_of (counts_in s2) t) → AreTimesIfKnown s2 keys counts ts
times_last_if_known s s2 keys counts ts h keeps owned = λ some. times_last s s2 keys counts ts (h some) keeps owned

-- no times are known
pub no_times_known : (s : StoreState) (keys : List Key) (ts : List Triple) → AreTimesIfKnown s keys [] ts
no_times_known s keys ts = λ some. absurd (omega (arith, some))
