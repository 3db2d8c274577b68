-- The keys of triples, and their counts, where other triples are stored.
use Rattle.std.proofs.Common.{◌≡◌, ◌<◌, true, ◌+◌, List, sym, ◌∙◌, ap, subst}
use Rattle.sorted_sets.specs.Rising.{has}
use Rattle.rdf_term.specs.{declared.triple.Triple.Triple, Order.triple_cmp}
use Rattle.slot_keys.specs.{declared.key.Key.Key, Keys.key_cmp}
use Rattle.term_pool.specs.Pool.{one_if}
use Rattle.triple_store.specs.Counts.{Counts, Exchanges, count_of}
use Rattle.triple_store.specs.StoreState.{AreKeysOf, HasKey, KeepsKeys, StoreState, counts_in}
use Rattle.triple_store.proofs.{Exchanged.same_test, Live.tells}

-- keys go on being those of their triples where these go on being stored
pub keys_stay : (s s2 : StoreState) (keys : List Key) (ts : List Triple)
    → AreKeysOf s keys ts → KeepsKeys s s2 → ((t : Triple) → has triple_cmp t ts ≡ true → 0 < count_of (counts_in s2) t) → AreKeysOf s2 keys ts
keys_stay s s2 keys ts h keeps owned = record {
  rising = h.rising;
  each = λ key there.
      let is : (t : Triple) × HasKey s key t × (has triple_cmp t ts ≡ true) = h.each key there in
      (is.0, keeps.kept key is.0 is.1 (owned is.0 is.2), is.2);
  all = λ t there.
      let is : (key : Key) × HasKey s key t × (has key_cmp key keys ≡ true) = h.all t there in
      (is.0, keeps.kept is.0 t is.1 (owned t there), is.2);
}

-- keys are those of the same triples in another order
pub keys_same : (s : StoreState) (keys : List Key) (ts us : List Triple) → ((t : Triple) → has triple_cmp t ts ≡ has triple_cmp t us) → AreKeysOf s keys ts → AreKeysOf s keys us
keys_same s keys ts us same h = record {
  rising = h.rising;
  each = λ key there.
      let is : (t : Triple) × HasKey s key t × (has triple_cmp t ts ≡ true) = h.each key there in
      (is.0, is.1, sym (same is.0) ∙ is.2);
  all = λ t there. h.all t (same t ∙ there);
}

-- keys of the same triples in another region
pub keys_moved : (s s2 : StoreState) (keys : List Key) (ts : List Triple)
    → ((key : Key) (t : Triple) → HasKey s key t → HasKey s2 key t) → AreKeysOf s keys ts → AreKeysOf s2 keys ts
keys_moved s s2 keys ts moves h = record {
  rising = h.rising;
  each = λ key there.
      let is : (t : Triple) × HasKey s key t × (has triple_cmp t ts ≡ true) = h.each key there in
      (is.0, moves key is.0 is.1, is.2);
  all = λ t there.
      let is : (key : Key) × HasKey s key t × (has key_cmp key keys ≡ true) = h.all t there in
      (is.0, moves is.0 t is.1, is.2);
}

-- what came is another list of the same triples
pub exchanged_same : (c d : Counts) (gone came other : List Triple) → ((t : Triple) → has triple_cmp t came ≡ has triple_cmp t other) → Exchanges c d gone came → Exchanges c d gone other
exchanged_same c d gone came other same h = record {
  counts = λ t. h.counts t ∙ ap (λ b. count_of c t + one_if b) (same t);
}

-- two lists that have the same keys have the same triples
pub keys_tell : (s : StoreState) (keys : List Key) (ts us : List Triple) → AreKeysOf s keys ts → AreKeysOf s keys us → (t : Triple) → has triple_cmp t ts ≡ true → has triple_cmp t us ≡ true
keys_tell s keys ts us h k t there =
    let one : (key : Key) × HasKey s key t × (has key_cmp key keys ≡ true) = h.all t there in
    let two : (u : Triple) × HasKey s one.0 u × (has triple_cmp u us ≡ true) = k.each one.0 one.2 in
    let same : t ≡ two.0 = sym (tells s.catalog.pool s.texts one.0 t one.1.has) ∙ tells s.catalog.pool s.texts one.0 two.0 two.1.has in
    ap (λ (u : Triple). has triple_cmp u us) same ∙ two.2

-- so what comes in the place of the one comes in the place of the other
pub exchanged_for : (s s2 : StoreState) (keys : List Key) (before triples after came : List Triple) → AreKeysOf s keys before → AreKeysOf s keys triples
    → ((t : Triple) → has triple_cmp t after ≡ has triple_cmp t came)
    → Exchanges (counts_in s) (counts_in s2) before after → Exchanges (counts_in s) (counts_in s2) triples came
exchanged_for s s2 keys before triples after came h k same moves = record {
  counts = λ t.
      ap (λ b. count_of (counts_in s2) t + one_if b) (same_test (has triple_cmp t triples) (has triple_cmp t before) (keys_tell s keys triples before k h t) (keys_tell s keys before triples h k t))
      ∙ moves.counts t ∙ ap (λ b. count_of (counts_in s) t + one_if b) (same t);
}

-- and where the counts are the same
pub exchanged_through : (c c1 d1 d : Counts) (gone ts us : List Triple) → c1 ≡ c → d ≡ d1 → ((t : Triple) → has triple_cmp t ts ≡ has triple_cmp t us) → Exchanges c1 d1 gone ts → Exchanges c d gone us
exchanged_through c c1 d1 d gone ts us before after same h = record {
  counts = λ t.
      ap (λ (m : Counts). count_of m t + one_if (has triple_cmp t gone)) after
      ∙ h.counts t
      ∙ ap (λ (m : Counts). count_of m t + one_if (has triple_cmp t ts)) before
      ∙ ap (λ b. count_of c t + one_if b) (same t);
}

-- keys go on standing for their triples through steps that keep all of them, the middle one those that go on being stored
pub keeps_through : (s s1 s2 s3 : StoreState)
    → ((key : Key) (t : Triple) → HasKey s key t → HasKey s1 key t)
    → KeepsKeys s1 s2
    → counts_in s3 ≡ counts_in s2
    → ((key : Key) (t : Triple) → HasKey s2 key t → HasKey s3 key t)
    → KeepsKeys s s3
keeps_through s s1 s2 s3 before keeps counts after = record {
  kept = λ key t is owned. after key t (keeps.kept key t (before key t is) (subst (λ (m : Counts). 0 < count_of m t) counts owned));
}
