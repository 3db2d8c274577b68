-- Keys that are put one by one in a rising list.
use Rattle.std.proofs.Common.{◌≡◌, ℕ, zero, suc, ◌+◌, ◌<◌, ◌≤◌, Bool, true, false, cond, not, ◌||◌, if◌then◌else◌, List, [], ◌∷◌, ◌++◌, length, take, drop, get_or, Less, Equal, Greater, refl, sym, ◌∙◌, ap, subst, arith, append-nil}
use Rattle.std.specs.Prelude.{map as mapped}
use Rattle.std.specs.BTreeSet.{insert_key}
use Rattle.std.specs.Ordering.{eq_by_cmp, match_ordering}
use Rattle.std.proofs.lemmas.List.{append_assoc, drop_all, drop_more, get_or-map, length-map, map_push}
use Rattle.std.proofs.lemmas.Option.{slice_get-get_or}
use Rattle.sorted_sets.specs.Rising.{Above, IsRising, difference, has, sorted}
use Rattle.sorted_sets.proofs.Bools.{clash, or_swap}
use Rattle.sorted_sets.proofs.Filtering.{Above-append}
use Rattle.sorted_sets.proofs.Rising.{Above-weaken, has-append, has_itself, sorted_rising, sorted_same, turned}
use Rattle.slot_keys.specs.declared.key.Key.{Key}
use Rattle.slot_keys.specs.Keys.{key_cmp, key_cmp-IsAntisymmetric, key_cmp-total}
use Rattle.slot_keys.specs.Marks.{marked}
use Rattle.slot_keys.specs.KeyCounts.{count_beside}
use Rattle.slot_keys.proofs.Marked.{Above-marked, marked_more}
use Rattle.slot_keys.proofs.Lists.{has_at}
use Rattle.slot_keys.proofs.Searching.{beside_found}

-- ---- what comes first in order

above_insert : (q k : Key) (xs : List Key) → key_cmp q k ≡ Less → Above key_cmp q xs → Above key_cmp q (insert_key key_cmp xs k)
above_insert q k [] e h = (e, tt)
above_insert q k (x ∷ xs) e h =
    elim (key_cmp k x) as (λ r. Above key_cmp q (match_ordering r (k ∷ x ∷ xs) (x ∷ xs) (x ∷ insert_key key_cmp xs k))) [
      | Less ↦ (e, h)
      | Equal ↦ h
      | Greater ↦ (h.0, above_insert q k xs e h.1)
    ]

above_sorted : (q : Key) (xs : List Key) → Above key_cmp q xs → Above key_cmp q (sorted key_cmp xs)
above_sorted q [] h = tt
above_sorted q (x ∷ xs) h = above_insert q x (sorted key_cmp xs) h.0 (above_sorted q xs h.1)

insert_first : (k : Key) (xs : List Key) → Above key_cmp k xs → insert_key key_cmp xs k ≡ k ∷ xs
insert_first k [] h = refl
insert_first k (x ∷ xs) h = ap (λ r. match_ordering r (k ∷ x ∷ xs) (x ∷ xs) (x ∷ insert_key key_cmp xs k)) h.0

first_sorted : (k : Key) (xs : List Key) → Above key_cmp k xs → sorted key_cmp (k ∷ xs) ≡ k ∷ sorted key_cmp xs
first_sorted k xs h = insert_first k (sorted key_cmp xs) (above_sorted k xs h)

-- one of the others
other_first : (r : Key) (keys others : List Key) → Above key_cmp r keys → Above key_cmp r others → sorted key_cmp (keys ++ r ∷ others) ≡ r ∷ sorted key_cmp (keys ++ others)
other_first r keys others below before =
    sorted_same key_cmp-total key_cmp-IsAntisymmetric (keys ++ r ∷ others) (r ∷ (keys ++ others)) (λ q.
    has-append key_cmp q keys (r ∷ others)
    ∙ or_swap (has key_cmp q keys) (eq_by_cmp key_cmp q r) (has key_cmp q others)
    ∙ ap (λ b. eq_by_cmp key_cmp q r || b) (sym (has-append key_cmp q keys others)))
    ∙ first_sorted r (keys ++ others) (Above-append key_cmp r keys others below before)

-- ---- a rising list from an index on

above_suc : (xs : List Key) (i : ℕ) (d : Key) → IsRising key_cmp xs → i < length xs → Above key_cmp (get_or xs i d) (drop (suc i) xs)
above_suc [] i d rises low = absurd (omega (arith, low))
above_suc (x ∷ xs) zero d rises low = rises.0
above_suc (x ∷ xs) (suc i) d rises low = above_suc xs i d rises.1 (omega (arith, low))

above_next : (xs : List Key) (i : ℕ) (d : Key) → IsRising key_cmp xs → i < length xs → Above key_cmp (get_or xs i d) (drop (i + 1) xs)
above_next xs i d rises low =
    let next : suc i ≡ i + 1 = omega arith in
    subst (λ (n : ℕ). Above key_cmp (get_or xs i d) (drop n xs)) next (above_suc xs i d rises low)

rising_from : (xs : List Key) (i : ℕ) → IsRising key_cmp xs → IsRising key_cmp (drop i xs)
rising_from xs zero rises = rises
rising_from [] (suc i) rises = tt
rising_from (x ∷ xs) (suc i) rises = rising_from xs i rises.1

-- ---- the others that are below a key

module _ (others : List Key) (rises : IsRising key_cmp others) (key : Key) (i : ℕ) (d : Key) (low : i < length others) where
  abbrev other : Key
  other = get_or others i d

  -- one more is put
  pub one_below : (start : ℕ) (was now new : List Key) → key_cmp other key ≡ Less → new ≡ now ++ other ∷ []
      → ((rest : List Key) → ((k : Key) → key_cmp k key ≡ Less → Above key_cmp k rest) → now ++ sorted key_cmp (rest ++ drop i others) ≡ was ++ sorted key_cmp (rest ++ drop start others))
      → (rest : List Key) → ((k : Key) → key_cmp k key ≡ Less → Above key_cmp k rest) → new ++ sorted key_cmp (rest ++ drop (i + 1) others) ≡ was ++ sorted key_cmp (rest ++ drop start others)
  one_below start was now new less pushed so_far rest below =
      let behind = drop (i + 1) others in
      ap (λ ks. ks ++ sorted key_cmp (rest ++ behind)) pushed
      ∙ append_assoc now (other ∷ []) (sorted key_cmp (rest ++ behind))
      ∙ ap (λ ks. now ++ ks) (sym (other_first other rest behind (below other less) (above_next others i d rises low)) ∙ ap (λ ks. sorted key_cmp (rest ++ ks)) (sym (drop_more others i d low)))
      ∙ so_far rest below

  -- or the next one is above
  pub above_from : key_cmp other key ≡ Greater → Above key_cmp key (drop i others)
  above_from e =
      let less : key_cmp key other ≡ Less = turned key_cmp-total other key Greater e in
      subst (λ (ks : List Key). Above key_cmp key ks) (sym (drop_more others i d low)) (less, Above-weaken key_cmp-total key other (drop (i + 1) others) less (above_next others i d rises low))

  -- for it isn't the key
  pub above_else : key_cmp other key ≡ Equal → has key_cmp key others ≡ false → Above key_cmp key (drop i others)
  above_else e none = clash (subst (λ (k : Key). has key_cmp k others ≡ true) (key_cmp-IsAntisymmetric other key e) (has_at key_cmp-total others i d low)) none

-- one more with the count 0
pub one_zero : (others : List Key) (i : ℕ) (d : Key) → i < length others → (count : Key → ℕ) → ((k : Key) → has key_cmp k others ≡ true → count k ≡ 0) → (now new : List Key) (counts more : List ℕ) → new ≡ now ++ get_or others i d ∷ [] → ◌≡◌ {A = List ℕ} more (counts ++ 0 ∷ []) → ◌≡◌ {A = List ℕ} counts (mapped count now) → ◌≡◌ {A = List ℕ} more (mapped count new)
one_zero others i d low count none now new counts more pushed added is =
    added
    ∙ ap (λ ns. ns ++ 0 ∷ []) is
    ∙ ap (λ n. mapped count now ++ n ∷ []) (sym (none (get_or others i d) (has_at key_cmp-total others i d low)))
    ∙ sym (map_push count now (get_or others i d))
    ∙ ap (mapped count) (sym pushed)

-- ---- the old keys from an index on

module _ (old : List Key) (stays : List Bool) (rises : IsRising key_cmp old) (long : length stays ≡ length old) (i : ℕ) (d : Key) (low : i < length old) where
  abbrev key : Key
  key = get_or old i d

  abbrev behind : List Key
  behind = marked (drop (i + 1) old) (drop (i + 1) stays)

  above_behind : Above key_cmp key behind
  above_behind = Above-marked key_cmp key (drop (i + 1) old) (drop (i + 1) stays) (above_next old i d rises low)

  -- what is below the next one is below all of them
  pub below_next : (k : Key) → key_cmp k key ≡ Less → Above key_cmp k (marked (drop i old) (drop i stays))
  below_next k less =
      Above-marked key_cmp k (drop i old) (drop i stays)
      (subst (λ (ks : List Key). Above key_cmp k ks) (sym (drop_more old i d low)) (less, Above-weaken key_cmp-total k key (drop (i + 1) old) less (above_next old i d rises low)))

  next_marked : (b : Bool) → marked (drop i old) (drop i stays) ≡ cond (get_or stays i b) (key ∷ behind) behind
  next_marked b =
      let within : i < length stays = omega (arith, low, long) in
      ap (λ ks. marked ks (drop i stays)) (drop_more old i d low)
      ∙ ap (λ ms. marked (key ∷ drop (i + 1) old) ms) (drop_more stays i b within)

  -- it is put where it stays
  pub next_put : (b stay : Bool) (others all now new : List Key) → stay ≡ get_or stays i b → Above key_cmp key others → new ≡ now ++ (if stay then key ∷ [] else [])
      → now ++ sorted key_cmp (marked (drop i old) (drop i stays) ++ others) ≡ all → new ++ sorted key_cmp (behind ++ others) ≡ all
  next_put b stay others all now new is above put so_far =
      ap (λ ks. ks ++ sorted key_cmp (behind ++ others)) put
      ∙ by stay (next_marked b ∙ ap (λ t. cond t (key ∷ behind) behind) (sym is))
      ∙ so_far
    where
      by : (t : Bool) → marked (drop i old) (drop i stays) ≡ cond t (key ∷ behind) behind → (now ++ (if t then key ∷ [] else [])) ++ sorted key_cmp (behind ++ others) ≡ now ++ sorted key_cmp (marked (drop i old) (drop i stays) ++ others)
      by true e =
          append_assoc now (key ∷ []) (sorted key_cmp (behind ++ others))
          ∙ ap (λ ks. now ++ ks) (sym (first_sorted key (behind ++ others) (Above-append key_cmp key behind others above_behind above)) ∙ ap (λ ks. sorted key_cmp (ks ++ others)) (sym e))
      by false e =
          ap (λ ks. ks ++ sorted key_cmp (behind ++ others)) (append-nil now)
          ∙ ap (λ ks. now ++ sorted key_cmp (ks ++ others)) (sym e)

  -- or is gone
  pub next_gone : (b stay : Bool) (now new : List Key) → stay ≡ get_or stays i b → new ≡ now ++ (if stay then [] else key ∷ []) → now ≡ marked (take i old) (mapped not stays) → new ≡ marked (take (i + 1) old) (mapped not stays)
  next_gone b stay now new is put so_far =
      let within : i < length stays = omega (arith, low, long) in
      put
      ∙ ap (λ ks. ks ++ (if stay then [] else key ∷ [])) so_far
      ∙ ap (λ ks. marked (take i old) (mapped not stays) ++ ks) (turned_cond stay ∙ ap (λ t. cond t (key ∷ []) []) (ap not is ∙ sym (get_or-map not stays i b true within)))
      ∙ sym (marked_more old (mapped not stays) i d true low (omega (arith, within, length-map stays not)))
    where
      turned_cond : (t : Bool) → (if t then [] else key ∷ []) ≡ cond (not t) (key ∷ []) []
      turned_cond true = refl
      turned_cond false = refl

  -- its count is the one beside it
  pub next_count : (counts : List ℕ) → length counts ≡ length old → (stay : Bool) (n : ℕ) → n ≡ get_or counts i 0 → (now new : List Key) (before after : List ℕ) → new ≡ now ++ (if stay then key ∷ [] else []) → ◌≡◌ {A = List ℕ} after (before ++ (if stay then n ∷ [] else [])) → ◌≡◌ {A = List ℕ} before (mapped (count_beside old counts) now) → ◌≡◌ {A = List ℕ} after (mapped (count_beside old counts) new)
  next_count counts as_many stay n is now new before after put added so_far =
      added
      ∙ ap (λ ns. ns ++ (if stay then n ∷ [] else [])) so_far
      ∙ by stay
      ∙ ap (mapped (count_beside old counts)) (sym put)
    where
      by : (t : Bool) → ◌≡◌ {A = List ℕ} (mapped (count_beside old counts) now ++ (if t then n ∷ [] else [])) (mapped (count_beside old counts) (now ++ (if t then key ∷ [] else [])))
      by true =
          ap (λ m. mapped (count_beside old counts) now ++ m ∷ []) (is ∙ sym (beside_found old counts i key rises as_many (slice_get-get_or old i d low)))
          ∙ sym (map_push (count_beside old counts) now key)
      by false = append-nil (mapped (count_beside old counts) now) ∙ ap (mapped (count_beside old counts)) (sym (append-nil now))

-- at the end the others are left
pub last_others : (old others : List Key) (stays : List Bool) (i behind : ℕ) (now new all : List Key) → IsRising key_cmp others → length old ≤ i → new ≡ now ++ drop behind others → now ++ sorted key_cmp (marked (drop i old) (drop i stays) ++ drop behind others) ≡ all → new ≡ all
last_others old others stays i behind now new all rises le put so_far =
    put
    ∙ ap (λ ks. now ++ ks) (sym (sorted_rising key_cmp-total key_cmp-IsAntisymmetric (drop behind others) (rising_from others behind rises)))
    ∙ ap (λ ks. now ++ sorted key_cmp (marked ks (drop i stays) ++ drop behind others)) (sym (drop_all i old le))
    ∙ so_far

-- ---- the old keys that are gone

pub marked-among : (keys : List Key) (marks : List Bool) (q : Key) → has key_cmp q (marked keys marks) ≡ true → has key_cmp q keys ≡ true
marked-among [] marks q h = h
marked-among (k ∷ keys) [] q h = clash h refl
marked-among (k ∷ keys) (true ∷ marks) q h =
    elim (eq_by_cmp key_cmp q k) as (λ b. (b || has key_cmp q (marked keys marks)) ≡ true → (b || has key_cmp q keys) ≡ true) [
      | true ↦ λ _. refl
      | false ↦ marked-among keys marks q
    ] h
marked-among (k ∷ keys) (false ∷ marks) q h =
    elim (eq_by_cmp key_cmp q k) as (λ b. (b || has key_cmp q keys) ≡ true) [
      | true ↦ refl
      | false ↦ marked-among keys marks q h
    ]

pub length-marked : (keys : List Key) (marks : List Bool) → length (marked keys marks) ≤ length keys
length-marked [] marks = omega arith
length-marked (k ∷ keys) [] = omega arith
length-marked (k ∷ keys) (true ∷ marks) = omega (arith, length-marked keys marks)
length-marked (k ∷ keys) (false ∷ marks) = omega (arith, length-marked keys marks)

-- the others of the old keys are all that may be among no new ones
pub difference-gone : (old : List Key) (stays : List Bool) (new : List Key) → length stays ≡ length old → ((q : Key) → has key_cmp q (marked old stays) ≡ true → has key_cmp q new ≡ true) → difference key_cmp (marked old (mapped not stays)) new ≡ difference key_cmp old new
difference-gone [] stays new long all = refl
difference-gone (k ∷ old) [] new long all = absurd (omega (arith, long))
difference-gone (k ∷ old) (true ∷ stays) new long all =
    difference-gone old stays new (omega (arith, long)) (λ q h. all q (ap (λ b. eq_by_cmp key_cmp q k || b) h ∙ or_true_right (eq_by_cmp key_cmp q k)))
    ∙ sym (ap (λ b. cond (not b) (k ∷ difference key_cmp old new) (difference key_cmp old new)) (all k (has_itself key_cmp-total k (marked old stays))))
  where
    or_true_right : (b : Bool) → (b || true) ≡ true
    or_true_right true = refl
    or_true_right false = refl
difference-gone (k ∷ old) (false ∷ stays) new long all =
    ap (λ ks. cond (not (has key_cmp k new)) (k ∷ ks) ks) (difference-gone old stays new (omega (arith, long)) all)
