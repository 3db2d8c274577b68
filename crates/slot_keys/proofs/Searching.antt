-- The counts beside the keys of a rising list.
use Rattle.std.proofs.Common.{◌≡◌, ℕ, zero, suc, ◌<◌, Bool, true, false, ◌||◌, cond, List, [], ◌∷◌, length, get_or, Less, Ok, Err, Result, Some, is_eq, is_ok, refl, sym, ◌∙◌, ap, arith, true≢false}
use Rattle.std.specs.Prelude.{slice_get}
use Rattle.std.specs.List.Sorted.{IsSearchInRange, IsBinarySearchResult}
use Rattle.std.proofs.lemmas.Cmp.{tied_itself}
use Rattle.std.proofs.lemmas.Option.{slice_get-get_or, slice_get_within, get_or_from_slice_get}
use Rattle.sorted_sets.specs.Rising.{Above, IsRising, has}
use Rattle.sorted_sets.proofs.Rising.{turned}
use Rattle.sorted_sets.proofs.Sorting.{found}
use Rattle.slot_keys.specs.declared.key.Key.{Key}
use Rattle.slot_keys.specs.Keys.{key_cmp, key_cmp-IsAntisymmetric, key_cmp-total, same_key}
use Rattle.slot_keys.specs.KeyCounts.{count_beside}

-- ---- what a search over a rising list finds

pub search_found : (keys : List Key) (key : Key) (r : Result ℕ ℕ) (i : ℕ) → IsSearchInRange r (length keys) → IsBinarySearchResult (λ y. key_cmp y key) keys r → r ≡ Ok i → slice_get keys i ≡ Some key
search_found keys key (Ok j) i within at e =
    let same : j ≡ i = cc in
    ap (slice_get keys) (sym same) ∙ slice_get-get_or keys j key within ∙ ap Some (key_cmp-IsAntisymmetric (get_or keys j key) key (at key))
search_found keys key (Err j) i within at e = absurd cc

pub search_none : (keys : List Key) (key : Key) (r : Result ℕ ℕ) → IsRising key_cmp keys → IsSearchInRange r (length keys) → IsBinarySearchResult (λ y. key_cmp y key) keys r → is_ok r ≡ false → has key_cmp key keys ≡ false
search_none keys key r rises within at e = sym (found key_cmp-total keys key r rises within at) ∙ e

-- ---- the count beside a key

above_at : (k : Key) (xs : List Key) (i : ℕ) (d : Key) → i < length xs → Above key_cmp k xs → key_cmp k (get_or xs i d) ≡ Less
above_at k [] i d l h = absurd (omega arith)
above_at k (x ∷ xs) zero d l h = h.0
above_at k (x ∷ xs) (suc i) d l h = above_at k xs i d (omega arith) h.1

pub beside_at : (keys : List Key) (counts : List ℕ) (i : ℕ) (key : Key) → IsRising key_cmp keys → length counts ≡ length keys → i < length keys → ((other : Key) → get_or keys i other ≡ key) → count_beside keys counts key ≡ get_or counts i 0
beside_at [] counts i key rises long low is = absurd (omega (arith, low))
beside_at (k ∷ keys) [] i key rises long low is = absurd (omega (arith, long))
beside_at (k ∷ keys) (n ∷ counts) zero key rises long low is =
    ap (λ b. cond b n (count_beside keys counts key)) (ap (λ x. same_key x k) (sym (is k)) ∙ ap is_eq (tied_itself key_cmp-total k))
beside_at (k ∷ keys) (n ∷ counts) (suc i) key rises long low is =
    ap (λ b. cond b n (count_beside keys counts key)) (ap (λ x. same_key x k) (sym (is k)) ∙ ap is_eq (turned key_cmp-total k (get_or keys i k) Less (above_at k keys i k (omega (arith, low)) rises.0)))
    ∙ beside_at keys counts i key rises.1 (omega (arith, long)) (omega (arith, low)) is

pub beside_none : (keys : List Key) (counts : List ℕ) (key : Key) → has key_cmp key keys ≡ false → count_beside keys counts key ≡ 0
beside_none [] counts key h = refl
beside_none (k ∷ keys) [] key h = refl
beside_none (k ∷ keys) (n ∷ counts) key h = at (same_key key k) h (beside_none keys counts key)
  where
    at : (b : Bool) → (b || has key_cmp key keys) ≡ false → (has key_cmp key keys ≡ false → count_beside keys counts key ≡ 0) → cond b n (count_beside keys counts key) ≡ 0
    at true e rest = absurd (true≢false e)
    at false e rest = rest e

-- by the index that was found
pub beside_found : (keys : List Key) (counts : List ℕ) (i : ℕ) (key : Key) → IsRising key_cmp keys → length counts ≡ length keys → slice_get keys i ≡ Some key → count_beside keys counts key ≡ get_or counts i 0
beside_found keys counts i key rises long e = beside_at keys counts i key rises long (slice_get_within keys i key e) (λ other. get_or_from_slice_get keys i key other e)
