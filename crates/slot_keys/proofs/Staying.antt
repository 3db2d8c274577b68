-- Keys that stay, by marks, and others that are met.
use Rattle.std.proofs.Common.{◌≡◌, ℕ, zero, suc, ◌+◌, ◌<◌, Bool, true, false, ◌||◌, cond, nat_lt, append-nil, replicate, List, [], ◌∷◌, ◌++◌, length, take, get_or, Some, refl, sym, ◌∙◌, ap, subst}
use Rattle.std.specs.Prelude.{slice_get, slice_set}
use Rattle.std.specs.Prelude.{map as mapped}
use Rattle.std.specs.Ordering.{eq_by_cmp}
use Rattle.std.proofs.lemmas.List.{get_or-map, length-map, take_more}
use Rattle.sorted_sets.specs.Rising.{has, sorted}
use Rattle.sorted_sets.proofs.Bools.{clash, equal, or_assoc, or_false}
use Rattle.sorted_sets.proofs.Rising.{has-append, has-sorted, sorted_same}
use Rattle.slot_keys.specs.declared.key.Key.{Key}
use Rattle.slot_keys.specs.Keys.{key_cmp, key_cmp-IsAntisymmetric, key_cmp-total, same_key}
use Rattle.slot_keys.specs.Marks.{marked}
use Rattle.slot_keys.specs.KeyCounts.{AddKeys, MovesKeys, count_beside, counted_keys}
use Rattle.slot_keys.proofs.KeyTimes.{moves_keys}
use Rattle.slot_keys.proofs.Marked.{has-mark}
use Rattle.slot_keys.proofs.Lists.{has-push, never}

-- the keys whose counts are marked
marked_counted : (keys : List Key) (counts : List ℕ) → marked keys (mapped (nat_lt 0) counts) ≡ counted_keys keys counts
marked_counted [] counts = refl
marked_counted (k ∷ keys) [] = refl
marked_counted (k ∷ keys) (n ∷ counts) = ap (λ ks. cond (nat_lt 0 n) (k ∷ ks) ks) (marked_counted keys counts)

or_last : (a b c : Bool) → ((a || b) || c) ≡ ((a || c) || b)
or_last true b c = refl
or_last false true true = refl
or_last false true false = refl
or_last false false true = refl
or_last false false false = refl

or_front : (a b c : Bool) → ((c || a) || b) ≡ ((a || b) || c)
or_front true true true = refl
or_front true true false = refl
or_front true false true = refl
or_front true false false = refl
or_front false true true = refl
or_front false true false = refl
or_front false false true = refl
or_front false false false = refl

-- one key more is met beside keys that stay
module _ (old met stays : List Key) (marks : List Bool) (rest : List Key) (i : ℕ) (d : Key) (low : i < length met) (same : (q : Key) → has key_cmp q (marked old marks ++ rest) ≡ has key_cmp q (take i met ++ stays)) where
  abbrev next : Key
  next = get_or met i d

  abbrev is_next : Key → Bool
  is_next q = eq_by_cmp key_cmp q next

  met_more : (q : Key) → has key_cmp q (take (i + 1) met ++ stays) ≡ (has key_cmp q (take i met ++ stays) || is_next q)
  met_more q =
      has-append key_cmp q (take (i + 1) met) stays
      ∙ ap (λ b. b || has key_cmp q stays) (ap (has key_cmp q) (take_more met i d low) ∙ has-push key_cmp q (take i met) next)
      ∙ or_last (has key_cmp q (take i met)) (is_next q) (has key_cmp q stays)
      ∙ ap (λ b. b || is_next q) (sym (has-append key_cmp q (take i met) stays))

  -- one of the old ones
  pub beside_kept : (index : ℕ) → length marks ≡ length old → slice_get old index ≡ Some next → (q : Key) → has key_cmp q (marked old (slice_set marks index true) ++ rest) ≡ has key_cmp q (take (i + 1) met ++ stays)
  beside_kept index long e q =
      has-append key_cmp q (marked old (slice_set marks index true)) rest
      ∙ ap (λ b. b || has key_cmp q rest) (has-mark key_cmp q next old marks index long e)
      ∙ or_front (has key_cmp q (marked old marks)) (has key_cmp q rest) (is_next q)
      ∙ ap (λ b. b || is_next q) (sym (has-append key_cmp q (marked old marks) rest) ∙ same q)
      ∙ sym (met_more q)

  -- or another
  pub beside_rest : (q : Key) → has key_cmp q (marked old marks ++ (rest ++ next ∷ [])) ≡ has key_cmp q (take (i + 1) met ++ stays)
  beside_rest q =
      has-append key_cmp q (marked old marks) (rest ++ next ∷ [])
      ∙ ap (λ b. has key_cmp q (marked old marks) || b) (has-push key_cmp q rest next)
      ∙ sym (or_assoc (has key_cmp q (marked old marks)) (has key_cmp q rest) (is_next q))
      ∙ ap (λ b. b || is_next q) (sym (has-append key_cmp q (marked old marks) rest) ∙ same q)
      ∙ sym (met_more q)

-- none is met yet
pub beside_none_met : (old met : List Key) (marks : List Bool) (rest : List Key) → rest ≡ [] → (q : Key) → has key_cmp q (marked old marks ++ rest) ≡ has key_cmp q (take 0 met ++ marked old marks)
beside_none_met old met marks rest none q = ap (λ ks. has key_cmp q (marked old marks ++ ks)) none ∙ ap (has key_cmp q) (append-nil (marked old marks))

-- nothing is among the old ones
pub nothing_apart : (old rest : List Key) → rest ≡ [] → (q : Key) → has key_cmp q old ≡ true → has key_cmp q rest ≡ false
nothing_apart old rest none q is = ap (has key_cmp q) none

-- one of the others more isn't among the old ones
pub apart_more : (old rest : List Key) (d : Key) → has key_cmp d old ≡ false → ((q : Key) → has key_cmp q old ≡ true → has key_cmp q rest ≡ false) → (q : Key) → has key_cmp q old ≡ true → has key_cmp q (rest ++ d ∷ []) ≡ false
apart_more old rest d none apart q is =
    has-push key_cmp q rest d
    ∙ or_false (has key_cmp q rest) (eq_by_cmp key_cmp q d) (apart q is) (never (eq_by_cmp key_cmp q d) (λ e. clash (subst (λ (k : Key). has key_cmp k old ≡ true) (key_cmp-IsAntisymmetric q d (equal _ e)) is) none))

-- in order, by the counts
pub beside_sorted : (old met rest others : List Key) (kept marks : List Bool) (counts : List ℕ) → marks ≡ mapped (nat_lt 0) counts → ((q : Key) → has key_cmp q (marked old kept ++ rest) ≡ has key_cmp q (met ++ marked old marks)) → others ≡ sorted key_cmp rest → sorted key_cmp (marked old kept ++ others) ≡ sorted key_cmp (met ++ counted_keys old counts)
beside_sorted old met rest others kept marks counts is same in_order =
    sorted_same key_cmp-total key_cmp-IsAntisymmetric (marked old kept ++ others) (met ++ counted_keys old counts) (λ q.
    has-append key_cmp q (marked old kept) others
    ∙ ap (λ b. has key_cmp q (marked old kept) || b) (ap (has key_cmp q) in_order ∙ has-sorted key_cmp-total q rest)
    ∙ sym (has-append key_cmp q (marked old kept) rest)
    ∙ same q
    ∙ ap (λ ks. has key_cmp q (met ++ ks)) (ap (marked old) is ∙ marked_counted old counts))

-- each marked key is in order among them
pub kept_there : (old others keys : List Key) (kept : List Bool) → keys ≡ sorted key_cmp (marked old kept ++ others) → (q : Key) → has key_cmp q (marked old kept) ≡ true → has key_cmp q keys ≡ true
kept_there old others keys kept is q h =
    ap (has key_cmp q) is
    ∙ has-sorted key_cmp-total q (marked old kept ++ others)
    ∙ has-append key_cmp q (marked old kept) others
    ∙ ap (λ b. b || has key_cmp q others) h

zero_cond : (b : Bool) (n : ℕ) → n ≡ 0 → cond b 0 n ≡ 0
zero_cond true n e = refl
zero_cond false n e = e

-- no key has a count where none is left
pub none_beside : (keys : List Key) (n : ℕ) (zeros : List ℕ) → ◌≡◌ {A = List ℕ} zeros (replicate n 0) → (key : Key) → count_beside keys zeros key ≡ 0
none_beside keys n zeros is key = ap (λ ns. count_beside keys ns key) is ∙ at keys n
  where
    at : (keys : List Key) (n : ℕ) → count_beside keys (replicate n 0) key ≡ 0
    at [] n = refl
    at (k ∷ keys) zero = refl
    at (k ∷ keys) (suc n) = zero_cond (same_key key k) (count_beside keys (replicate n 0) key) (at keys n)

pub zero_counts : (count : Key → ℕ) → ((key : Key) → count key ≡ 0) → (keys : List Key) (counts : List ℕ) → ◌≡◌ {A = List ℕ} counts (mapped count keys) → (index : ℕ) → get_or counts index 0 ≡ 0
zero_counts count none keys counts is index = ap (λ ns. get_or ns index 0) is ∙ at keys index
  where
    at : (keys : List Key) (index : ℕ) → get_or (mapped count keys) index 0 ≡ 0
    at [] index = refl
    at (k ∷ keys) zero = none k
    at (k ∷ keys) (suc index) = at keys index

-- the counts that moved, and once more for each key that was met
pub moves_beside : (had : List Key) (left : List ℕ) (keys : List Key) (moved added : List ℕ) (met : List Key) → ◌≡◌ {A = List ℕ} moved (mapped (count_beside had left) keys) → AddKeys keys moved added met → MovesKeys had left keys added met
moves_beside had left keys moved added met is more =
    moves_keys had left keys moved added met (ap length is ∙ length-map keys (count_beside had left)) (λ index other low. ap (λ ns. get_or ns index 0) is ∙ get_or-map (count_beside had left) keys index other 0 low) more

-- no key stays where no count is left
pub counted_zeros : (keys : List Key) (n : ℕ) (zeros : List ℕ) → ◌≡◌ {A = List ℕ} zeros (replicate n 0) → counted_keys keys zeros ≡ []
counted_zeros keys n zeros is = ap (counted_keys keys) is ∙ at keys n
  where
    at : (keys : List Key) (n : ℕ) → counted_keys keys (replicate n 0) ≡ []
    at [] n = refl
    at (k ∷ keys) zero = refl
    at (k ∷ keys) (suc n) = at keys n
