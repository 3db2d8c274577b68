-- The map to counts, from the set of its triples and the counts of the owners after the first.
use Rattle.std.proofs.Common.{◌≡◌, ℕ, ◌+◌, ◌-◌, ◌<◌, ◌==◌, eq-eqb, Bool, true, false, cond, ◌||◌, List, [], ◌∷◌, length, Some, None, Less, Equal, Greater, is_eq, is_some, unwrap_or, refl, sym, ◌∙◌, ap, subst, arith, true≢false, ⊎_elim}
use Rattle.std.specs.Prelude.{map as mapped}
use Rattle.std.specs.FinMap as map
use Rattle.std.specs.Map.{lookup}
use Rattle.std.specs.Map as by_keys
use Rattle.std.specs.BTreeSet.{insert_key}
use Rattle.std.specs.Set.{remove_key}
use Rattle.std.proofs.lemmas.Bool.{cases_lt}
use Rattle.sorted_sets.specs.Rising.{has, IsRising}
use Rattle.sorted_sets.proofs.Bools.{clash, equal, or_false, or_true}
use Rattle.sorted_sets.proofs.Rising.{has-insert_key, has-tied_above}
use Rattle.sorted_sets.proofs.Sorting.{IsStrictlySortedBy-from_rising}
use Rattle.slot_keys.specs.declared.key.Key.{Key}
use Rattle.slot_keys.specs.Keys.{key_cmp, key_cmp-total, key_cmp-IsAntisymmetric, same_key}
use Rattle.slot_index.specs.Counts.{KeyCounts, HaveOwners, count_of, counts_of, raised, lowered}
use Rattle.slot_index.specs.Counted.{with_more, IsCounted}
use Rattle.slot_index.proofs.Mapped.{got, keys_ordered, len_ordered}
use Rattle.slot_index.proofs.Passing.{one_if}
use Rattle.slot_index.proofs.Owners.{HaveOwners-empty, HaveOwners-with_count, same_counts, count_of-raised, count_of-lowered}

-- to show something of a triple q and k: at q ≡ k, and where they differ
at_key : (P : Key → Bool → Type 0) (k q : Key) → P k true → (same_key q k ≡ false → P q false) → P q (same_key q k)
at_key P k q same other =
    elim (same_key q k) as (λ b. same_key q k ≡ b → P q b) [
      | true ↦ λ e. subst (λ x. P x true) (sym (key_cmp-IsAntisymmetric q k (equal _ e))) same
      | false ↦ λ e. other e
    ] refl

lookup-entries : (more : KeyCounts) (q : Key) (keys : List Key) → lookup (same_key q) (mapped (λ k. (k, count_of more k + 1)) keys) ≡ cond (has key_cmp q keys) (Some (count_of more q + 1)) None
lookup-entries more q [] = refl
lookup-entries more q (k ∷ keys) =
    at_key (λ x b. cond b (Some (count_of more k + 1)) (lookup (same_key q) (mapped (λ k. (k, count_of more k + 1)) keys)) ≡ cond (b || has key_cmp q keys) (Some (count_of more x + 1)) None) k q refl (λ _. lookup-entries more q keys)

get-with_more : (keys : List Key) (more : KeyCounts) (q : Key) → map.get (with_more keys more) q ≡ cond (has key_cmp q keys) (Some (count_of more q + 1)) None
unfolding with_more
get-with_more keys more q = got key_cmp-total q (mapped (λ k. (k, count_of more k + 1)) keys) ∙ lookup-entries more q keys

unwrapped : (b : Bool) (n : ℕ) → unwrap_or (cond b (Some n) None) 0 ≡ cond b n 0
unwrapped true n = refl
unwrapped false n = refl

pub count_of-with_more : (keys : List Key) (more : KeyCounts) (q : Key) → count_of (with_more keys more) q ≡ cond (has key_cmp q keys) (count_of more q + 1) 0
count_of-with_more keys more q = ap (λ v. unwrap_or v 0) (get-with_more keys more q) ∙ unwrapped (has key_cmp q keys) (count_of more q + 1)

pub HaveOwners-with_more : (keys : List Key) (more : KeyCounts) → HaveOwners (with_more keys more)
HaveOwners-with_more keys more q = subst (λ v. is_some v ≡ true → 0 < unwrap_or v 0) (sym (get-with_more keys more q)) (by (has key_cmp q keys))
  where
    by : (b : Bool) → is_some (cond b (Some (count_of more q + 1)) None) ≡ true → 0 < unwrap_or (cond b (Some (count_of more q + 1)) None) 0
    by true e = omega arith
    by false e = absurd (true≢false (sym e))

keys-entries : (more : KeyCounts) (keys : List Key) → by_keys.keys_of (mapped (λ k. (k, count_of more k + 1)) keys) ≡ keys
keys-entries more [] = refl
keys-entries more (k ∷ keys) = ap (λ l. k ∷ l) (keys-entries more keys)

pub keys-with_more : (keys : List Key) (more : KeyCounts) → IsRising key_cmp keys → map.keys (with_more keys more) ≡ keys
unfolding with_more
keys-with_more keys more h =
    let same = keys-entries more keys in
    keys_ordered key_cmp-total key_cmp-IsAntisymmetric (mapped (λ k. (k, count_of more k + 1)) keys) (IsStrictlySortedBy-from_rising key_cmp _ (subst (IsRising key_cmp) (sym same) h)) ∙ same

-- the entries of the map
abbrev entries_of : KeyCounts → List Key → List (Key × ℕ)
entries_of more keys = mapped (λ k. (k, count_of more k + 1)) keys

length-entries : (more : KeyCounts) (keys : List Key) → length (entries_of more keys) ≡ length keys
length-entries more [] = refl
length-entries more (k ∷ keys) = let rest = length-entries more keys in omega arith

pub len-with_more : (keys : List Key) (more : KeyCounts) → IsRising key_cmp keys → map.len (with_more keys more) ≡ length keys
unfolding with_more
len-with_more keys more h =
    let same = keys-entries more keys in
    len_ordered key_cmp-total key_cmp-IsAntisymmetric (mapped (λ k. (k, count_of more k + 1)) keys) (IsStrictlySortedBy-from_rising key_cmp _ (subst (IsRising key_cmp) (sym same) h)) ∙ length-entries more keys

-- a map in which each stored triple has owners is fixed by its numbers
more_is : (keys : List Key) (more m : KeyCounts) → HaveOwners m → ((q : Key) → cond (has key_cmp q keys) (count_of more q + 1) 0 ≡ count_of m q) → with_more keys more ≡ m
more_is keys more m h e = same_counts (with_more keys more) m (HaveOwners-with_more keys more) h (λ q. count_of-with_more keys more q ∙ e q)

none_more : (keys : List Key) (more : KeyCounts) (k : Key) → IsCounted keys more → has key_cmp k keys ≡ false → count_of more k ≡ 0
none_more keys more k h absent = ⊎_elim
    (λ some. clash (h.stored k some) absent)
    (λ none. omega arith)
    (cases_lt 0 (count_of more k))

-- a triple that wasn't stored
pub put_in : (keys : List Key) (more : KeyCounts) (k : Key) → IsCounted keys more → has key_cmp k keys ≡ false → with_more (insert_key key_cmp keys k) more ≡ raised (with_more keys more) k
put_in keys more k h absent = more_is (insert_key key_cmp keys k) more _ (HaveOwners-with_count _ k _ (HaveOwners-with_more keys more)) (λ q.
    ap (λ b. cond b (count_of more q + 1) 0) (has-insert_key key_cmp-total q k keys)
    ∙ at_key (λ x b. cond (b || has key_cmp x keys) (count_of more x + 1) 0 ≡ cond (has key_cmp x keys) (count_of more x + 1) 0 + one_if b) k q
    (let none = none_more keys more k h absent in
    let zero : cond (has key_cmp k keys) (count_of more k + 1) 0 ≡ 0 = ap (λ b. cond b (count_of more k + 1) 0) absent in
    omega arith)
    (λ _. let n = cond (has key_cmp q keys) (count_of more q + 1) 0 in omega arith)
    ∙ ap (λ n. n + one_if (same_key q k)) (sym (count_of-with_more keys more q))
    ∙ sym (count_of-raised (with_more keys more) k q))

raised_one : (b c : Bool) (n : ℕ) → (c ≡ true → b ≡ true) → cond b (n + one_if c + 1) 0 ≡ cond b (n + 1) 0 + one_if c
raised_one true true n h = omega arith
raised_one true false n h = omega arith
raised_one false true n h = absurd (true≢false (sym (h refl)))
raised_one false false n h = refl

lowered_one : (b c : Bool) (n : ℕ) → (c ≡ true → 0 < n) → cond b (n - one_if c + 1) 0 ≡ cond b (n + 1) 0 - one_if c
lowered_one true true n h = let some = h refl in omega arith
lowered_one true false n h = omega arith
lowered_one false true n h = refl
lowered_one false false n h = refl

has_same : (keys : List Key) (k q : Key) → has key_cmp k keys ≡ true → same_key q k ≡ true → has key_cmp q keys ≡ true
has_same keys k q there e = ap (λ x. has key_cmp x keys) (key_cmp-IsAntisymmetric q k (equal _ e)) ∙ there

-- a further owner of a stored triple comes, or goes
pub one_more : (keys : List Key) (more : KeyCounts) (k : Key) → has key_cmp k keys ≡ true → with_more keys (raised more k) ≡ raised (with_more keys more) k
one_more keys more k there = more_is keys (raised more k) _ (HaveOwners-with_count _ k _ (HaveOwners-with_more keys more)) (λ q.
    ap (λ n. cond (has key_cmp q keys) (n + 1) 0) (count_of-raised more k q)
    ∙ raised_one (has key_cmp q keys) (same_key q k) (count_of more q) (has_same keys k q there)
    ∙ ap (λ n. n + one_if (same_key q k)) (sym (count_of-with_more keys more q))
    ∙ sym (count_of-raised (with_more keys more) k q))

pub one_less : (keys : List Key) (more : KeyCounts) (k : Key) → 0 < count_of more k → with_more keys (lowered more k) ≡ lowered (with_more keys more) k
one_less keys more k some = more_is keys (lowered more k) _ (HaveOwners-with_count _ k _ (HaveOwners-with_more keys more)) (λ q.
    ap (λ n. cond (has key_cmp q keys) (n + 1) 0) (count_of-lowered more k q)
    ∙ lowered_one (has key_cmp q keys) (same_key q k) (count_of more q) (λ e. subst (λ x. 0 < count_of more x) (sym (key_cmp-IsAntisymmetric q k (equal _ e))) some)
    ∙ ap (λ n. n - one_if (same_key q k)) (sym (count_of-with_more keys more q))
    ∙ sym (count_of-lowered (with_more keys more) k q))

-- a rising list without a triple hasn't it, and has all the others
without_same : (k : Key) (keys : List Key) → IsRising key_cmp keys → has key_cmp k (remove_key (same_key k) keys) ≡ false
without_same k [] h = refl
without_same k (x ∷ keys) h =
    elim (key_cmp k x) as (λ r. key_cmp k x ≡ r → has key_cmp k (cond (is_eq r) keys (x ∷ remove_key (same_key k) keys)) ≡ false) [
      | Less ↦ λ e. or_false (same_key k x) _ (ap is_eq e) (without_same k keys h.1)
      | Equal ↦ λ e. has-tied_above key_cmp-total k x keys e h.0
      | Greater ↦ λ e. or_false (same_key k x) _ (ap is_eq e) (without_same k keys h.1)
    ] refl

without_other : (k q : Key) (keys : List Key) → same_key q k ≡ false → has key_cmp q (remove_key (same_key k) keys) ≡ has key_cmp q keys
without_other k q [] apart = refl
without_other k q (x ∷ keys) apart =
    elim (key_cmp k x) as (λ r. key_cmp k x ≡ r → has key_cmp q (cond (is_eq r) keys (x ∷ remove_key (same_key k) keys)) ≡ (same_key q x || has key_cmp q keys)) [
      | Less ↦ λ e. ap (λ b. same_key q x || b) (without_other k q keys apart)
      | Equal ↦ λ e. ap (λ b. b || has key_cmp q keys) (sym (ap (same_key q) (sym (key_cmp-IsAntisymmetric k x e)) ∙ apart))
      | Greater ↦ λ e. ap (λ b. same_key q x || b) (without_other k q keys apart)
    ] refl

-- the one owner of a triple goes
pub taken : (keys : List Key) (more : KeyCounts) (k : Key) → IsRising key_cmp keys → count_of more k ≡ 0 → with_more (remove_key (same_key k) keys) more ≡ lowered (with_more keys more) k
taken keys more k h none = more_is (remove_key (same_key k) keys) more _ (HaveOwners-with_count _ k _ (HaveOwners-with_more keys more)) (λ q.
    at_key (λ x b. cond (has key_cmp x (remove_key (same_key k) keys)) (count_of more x + 1) 0 ≡ cond (has key_cmp x keys) (count_of more x + 1) 0 - one_if b) k q
    (ap (λ b. cond b (count_of more k + 1) 0) (without_same k keys h) ∙ none_left (has key_cmp k keys) (count_of more k) none)
    (λ apart. ap (λ b. cond b (count_of more q + 1) 0) (without_other k q keys apart) ∙ sym (less_none (cond (has key_cmp q keys) (count_of more q + 1) 0)))
    ∙ ap (λ n. n - one_if (same_key q k)) (sym (count_of-with_more keys more q))
    ∙ sym (count_of-lowered (with_more keys more) k q))
  where
    none_left : (b : Bool) (n : ℕ) → n ≡ 0 → 0 ≡ cond b (n + 1) 0 - 1
    none_left true n e = omega arith
    none_left false n e = refl

    less_none : (n : ℕ) → n - 0 ≡ n
    less_none n = omega arith

-- the parts of an index stay as they must
pub IsCounted-put : (keys : List Key) (more : KeyCounts) (k : Key) → IsCounted keys more → IsCounted (insert_key key_cmp keys k) more
IsCounted-put keys more k h = record {
  owned = h.owned;
  stored = λ q some. has-insert_key key_cmp-total q k keys ∙ or_true (same_key q k) (has key_cmp q keys) (h.stored q some);
  few = h.few;
}

pub IsCounted-more : (keys : List Key) (more : KeyCounts) (k : Key) → IsCounted keys more → has key_cmp k keys ≡ true → count_of more k + 1 < 18446744073709551615 → IsCounted keys (raised more k)
IsCounted-more keys more k h there small = record {
  owned = HaveOwners-with_count more k _ h.owned;
  stored = λ q. subst (λ n. 0 < n → has key_cmp q keys ≡ true) (sym (count_of-raised more k q))
      (at_key (λ x b. 0 < count_of more x + one_if b → has key_cmp x keys ≡ true) k q (λ _. there) (λ _ some. h.stored q (omega arith)));
  few = λ q. subst (λ n. n < 18446744073709551615) (sym (count_of-raised more k q))
      (at_key (λ x b. count_of more x + one_if b < 18446744073709551615) k q small (λ _. let below = h.few q in omega arith));
}

pub IsCounted-less : (keys : List Key) (more : KeyCounts) (k : Key) → IsCounted keys more → IsCounted keys (lowered more k)
IsCounted-less keys more k h = record {
  owned = HaveOwners-with_count more k _ h.owned;
  stored = λ q some. let n = count_of-lowered more k q in h.stored q (omega arith);
  few = λ q. let n = count_of-lowered more k q in let below = h.few q in omega arith;
}

pub IsCounted-taken : (keys : List Key) (more : KeyCounts) (k : Key) → IsCounted keys more → count_of more k ≡ 0 → IsCounted (remove_key (same_key k) keys) more
IsCounted-taken keys more k h none = record {
  owned = h.owned;
  stored = λ q some. without_other k q keys (apart q some) ∙ h.stored q some;
  few = h.few;
}
  where
    apart : (q : Key) → 0 < count_of more q → same_key q k ≡ false
    apart q some = at_key (λ x b. 0 < count_of more x → b ≡ false) k q (λ one. absurd (omega arith)) (λ _ _. refl) some

pub counted_there : (keys : List Key) (more : KeyCounts) (k : Key) → has key_cmp k keys ≡ true → count_of (with_more keys more) k ≡ count_of more k + 1
counted_there keys more k there = count_of-with_more keys more k ∙ ap (λ b. cond b (count_of more k + 1) 0) there

pub counted_absent : (keys : List Key) (more : KeyCounts) (k : Key) → has key_cmp k keys ≡ false → count_of (with_more keys more) k ≡ 0
counted_absent keys more k absent = count_of-with_more keys more k ∙ ap (λ b. cond b (count_of more k + 1) 0) absent

-- whether a triple has one owner or none is whether it is in the list, where no further owner is counted
owner_alone : (b : Bool) (n : ℕ) → n ≡ 0 → b ≡ (cond b (n + 1) 0 == 1)
owner_alone true n e = sym (eq-eqb (n + 1) 1 (omega arith))
owner_alone false n e = refl

pub alone : (keys : List Key) (more : KeyCounts) (k : Key) → count_of more k ≡ 0 → has key_cmp k keys ≡ (count_of (with_more keys more) k == 1)
alone keys more k none = owner_alone (has key_cmp k keys) (count_of more k) none ∙ ap (λ n. n == 1) (sym (count_of-with_more keys more k))

none_counted : (k : Key) → count_of {R = key_cmp} map.empty k ≡ 0
none_counted k = ap (λ v. unwrap_or v 0) (map.get-empty key_cmp k)

pub IsCounted-empty : IsCounted [] (counts_of [])
IsCounted-empty = record {
  owned = HaveOwners-empty;
  stored = λ k some. let none : count_of map.empty k ≡ 0 = none_counted k in absurd (omega arith);
  few = λ k. let none : count_of map.empty k ≡ 0 = none_counted k in omega arith;
}

pub with_more-empty : (more : KeyCounts) → with_more [] more ≡ map.empty
unfolding with_more
with_more-empty more = refl
