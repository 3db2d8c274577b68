-- How many keys blocks and groups of blocks have, and how many stand before a position, and between two.
use Rattle.std.proofs.Common.{◌≡◌, ℕ, zero, suc, ◌+◌, ◌-◌, ◌<◌, ◌≤◌, Bool, true, false, cond, List, [], ◌∷◌, ◌++◌, length, get_or, take, drop, Ordering, Less, Equal, refl, sym, ◌∙◌, ap, subst, append-nil, append_assoc, length-append, arith, add-one}
use Rattle.std.specs.Cmp.{IsTotalOrder}
use Rattle.std.specs.Ordering.{is_le}
use Rattle.std.proofs.lemmas.List.{length-take-le}
use Rattle.std.proofs.Math.Seq.{drop-append_seam, drop-cons, take-add, take-suc}
use Rattle.sorted_sets.specs.Counting.{one_if}
use Rattle.sorted_sets.specs.Rising.{Above, IsRising}
use Rattle.sorted_sets.proofs.Rising.{turned}
use Rattle.block_index.specs.Blocks.{keys_of, keys_between}
use Rattle.block_index.specs.Groups.{index_of, IsInside}
use Rattle.block_index.specs.Search.{keys_before, keys_from, Below, Begins, Stands}
use Rattle.block_index.specs.Taking.{up_to}
use Rattle.block_index.proofs.Located.{before_is, keys_parted}
use Rattle.block_index.proofs.Parts.{at_position, keys_of-append}
use Rattle.block_index.proofs.Ranges.{above_tied, range_is}
use Rattle.block_index.proofs.Standing.{tail_rising}

-- ---- blocks

module _ {K : Type 0} where
  -- the keys of one more block
  pub keys_more : (bs : List (List K)) (i : ℕ) → i < length bs → length (keys_of (take i bs)) + length (get_or bs i []) ≡ length (keys_of (take (i + 1) bs))
  keys_more bs i l =
      let one = get_or bs i [] in
      let next = ap (λ n. take n bs) (add-one i) ∙ take-suc bs i [] l in
      let more = ap length (ap keys_of next ∙ keys_of-append (take i bs) (one ∷ [])) in
      omega (arith, more, length-append (keys_of (take i bs)) (one ++ []), length-append one [])

  -- as many keys stand before a position
  pub keys_before_long : (bs : List (List K)) (i at : ℕ) → at ≤ length (get_or bs i []) → length (keys_before bs i at) ≡ length (keys_of (take i bs)) + at
  keys_before_long bs i at few =
      let own : length (take at (get_or bs i [])) ≡ at = length-take-le at (get_or bs i []) few in
      omega (arith, length-append (keys_of (take i bs)) (take at (get_or bs i [])), own)

  -- those of the blocks so far are no more than all
  pub keys_fit : (bs : List (List K)) (i : ℕ) → i < length bs → length (keys_of (take i bs)) + length (get_or bs i []) ≤ length (keys_of bs)
  keys_fit bs i l =
      let all = ap length (at_position bs i (length (get_or bs i []))) in
      let front = keys_before_long bs i (length (get_or bs i [])) (omega arith) in
      omega (arith, all, front, length-append (keys_before bs i (length (get_or bs i []))) (keys_from bs i (length (get_or bs i []))))

  -- and no more than there are
  pub keys_before_fit : (bs : List (List K)) (i at : ℕ) → length (keys_before bs i at) ≤ length (keys_of bs)
  keys_before_fit bs i at = omega (arith, ap length (at_position bs i at), length-append (keys_before bs i at) (keys_from bs i at))

  -- ---- groups

  -- the keys of one group more
  pub grouped_more : (gs : List (List (List K))) (g : ℕ) → g < length gs → length (keys_of (keys_of (take g gs))) + length (keys_of (get_or gs g [])) ≡ length (keys_of (keys_of (take (g + 1) gs)))
  grouped_more gs g l =
      let one = get_or gs g [] in
      let front = take g gs in
      let next = ap (λ n. take n gs) (add-one g) ∙ take-suc gs g [] l in
      let more = ap (λ hs. length (keys_of (keys_of hs))) next ∙ ap (λ bs. length (keys_of bs)) (keys_of-append front (one ∷ []) ∙ ap (λ bs. keys_of front ++ bs) (append-nil one)) ∙ ap length (keys_of-append (keys_of front) one) in
      omega (arith, more, length-append (keys_of (keys_of front)) (keys_of one))

  pub grouped_fit : (gs : List (List (List K))) (g : ℕ) → g < length gs → length (keys_of (keys_of (take g gs))) + length (keys_of (get_or gs g [])) ≤ length (keys_of (keys_of gs))
  grouped_fit gs g l =
      let all = ap length (keys_parted gs g l) in
      let rest = keys_of (keys_of (drop (suc g) gs)) in
      omega (arith, all, length-append (keys_of (keys_of (take g gs))) (keys_of (get_or gs g []) ++ rest), length-append (keys_of (get_or gs g [])) rest)

  -- the keys of the groups before one are those before an earlier one, and those from that on
  pub grouped_parts : (gs : List (List (List K))) (g h : ℕ) → g ≤ h → length (keys_of (keys_of (take h gs))) ≡ length (keys_of (keys_of (take g gs))) + length (keys_of (keys_of (take (h - g) (drop g gs))))
  grouped_parts gs g h low =
      let front = take g gs in
      let mid = take (h - g) (drop g gs) in
      let sum : g + (h - g) ≡ h = omega arith in
      let cut = ap (λ n. take n gs) (sym sum) ∙ take-add g (h - g) gs in
      let all = ap (λ hs. length (keys_of (keys_of hs))) cut ∙ ap (λ bs. length (keys_of bs)) (keys_of-append front mid) ∙ ap length (keys_of-append (keys_of front) (keys_of mid)) in
      omega (arith, all, length-append (keys_of (keys_of front)) (keys_of (keys_of mid)))

  -- as many keys stand before a position in a group
  pub before_long : (gs : List (List (List K))) (g b at : ℕ) → IsInside gs g b → length (keys_before (keys_of gs) (index_of gs g b) at) ≡ length (keys_of (keys_of (take g gs))) + length (keys_before (get_or gs g []) b at)
  before_long gs g b at inside = omega (arith, ap length (before_is gs g b at inside.0 inside.1), length-append (keys_of (keys_of (take g gs))) (keys_before (get_or gs g []) b at))

  -- none from a position on and before one in an earlier group
  pub none_between : (gs : List (List (List K))) (g b at h c to : ℕ) → IsInside gs g b → IsInside gs h c → h < g
      → 0 ≡ length (keys_before (keys_of gs) (index_of gs h c) to) - length (keys_before (keys_of gs) (index_of gs g b) at)
  none_between gs g b at h c to low high earlier =
      let own = keys_before_fit (get_or gs h []) c to in
      let next = grouped_more gs h high.0 in
      let parts = grouped_parts gs (h + 1) g (omega arith) in
      omega (arith, before_long gs g b at low, before_long gs h c to high, own, next, parts)

  -- those of the groups from the first on and before the last, and those before the last position, but for those before the first
  pub some_between : (gs : List (List (List K))) (g b at h c to between last first : ℕ) → IsInside gs g b → IsInside gs h c → g ≤ h → between ≡ length (keys_of (keys_of (take (h - g) (drop g gs)))) →
      last ≡ length (keys_before (get_or gs h []) c to) → first ≡ length (keys_before (get_or gs g []) b at)
      → between + last - first ≡ length (keys_before (keys_of gs) (index_of gs h c) to) - length (keys_before (keys_of gs) (index_of gs g b) at)
  some_between gs g b at h c to between last first low high later mid is was =
      omega (arith, before_long gs g b at low, before_long gs h c to high, grouped_parts gs g h later)

  -- they are no more than all
  pub between_fit : (gs : List (List (List K))) (g h c to between last : ℕ) → IsInside gs h c → g ≤ h → between ≡ length (keys_of (keys_of (take (h - g) (drop g gs)))) → last ≡ length (keys_before (get_or gs h []) c to) → between + last ≤ length (keys_of (keys_of gs))
  between_fit gs g h c to between last high later mid is = omega (arith, grouped_parts gs g h later, keys_before_fit (get_or gs h []) c to, grouped_fit gs h high.0)

-- ---- a range

module _ {K : Type 0} {R : K → K → Ordering} (o : IsTotalOrder R) (to : K) where
  -- no key is above the end
  abbrev pub AllUpTo : List K → Type 0
  AllUpTo [] = Unit {0}
  AllUpTo (x ∷ xs) = (is_le (R x to) ≡ true) × AllUpTo xs

  up_to_none : (xs : List K) → Above R to xs → up_to R to xs ≡ []
  up_to_none [] h = refl
  up_to_none (x ∷ xs) h = ap (λ r. cond (is_le r) (x ∷ up_to R to xs) []) (turned o to x Less h.0)

  -- of keys that end behind the end, those from an index on are as many as stand there before the end
  up_to_long : (n : ℕ) (before after : List K) → AllUpTo before → Above R to after → length (up_to R to (drop n (before ++ after))) ≡ length before - n
  up_to_long zero [] after low high = ap length (up_to_none after high)
  up_to_long zero (x ∷ before) after low high =
      let rest = up_to_long zero before after low.1 high in
      let this = ap (λ b. length (cond b (x ∷ up_to R to (before ++ after)) [])) low.0 in
      omega (arith, rest, this)
  up_to_long (suc n) [] after low high = ap length (up_to_none (drop (suc n) after) (Above-drop (suc n) after high)) ∙ omega arith
    where
      Above-drop : (n : ℕ) (xs : List K) → Above R to xs → Above R to (drop n xs)
      Above-drop zero xs h = h
      Above-drop (suc n) [] h = tt
      Above-drop (suc n) (x ∷ xs) h = Above-drop n xs h.1
  up_to_long (suc n) (x ∷ before) after low high = omega (arith, up_to_long n before after low.1 high)

  below_up_to : (xs : List K) → Below R to xs → AllUpTo xs
  below_up_to [] h = tt
  below_up_to (x ∷ xs) h = (ap is_le h.0, below_up_to xs h.1)

  AllUpTo-append : (xs ys : List K) → AllUpTo xs → AllUpTo ys → AllUpTo (xs ++ ys)
  AllUpTo-append [] ys hx hy = hy
  AllUpTo-append (x ∷ xs) ys hx hy = (hx.0, AllUpTo-append xs ys hx.1 hy)

  -- the position behind the end parts the keys: no key before it is above the end, and all from it on are
  pub record PartsAt (before after : List K) : Type 0 where
    pub low : AllUpTo before
    pub high : Above R to after

  parted : (bs : List (List K)) (i at : ℕ) (found : Bool) → Stands R to bs i at found → IsRising R (keys_of bs) → PartsAt (keys_before bs i (at + one_if found)) (keys_from bs i (at + one_if found))
  parted bs i at false s rising =
      let same : at ≡ at + 0 = omega arith in
      subst (λ n. PartsAt (keys_before bs i n) (keys_from bs i n)) same (record { low = below_up_to (keys_before bs i at) s.below; high = s.begins })
  parted bs i at true s rising =
      let b = get_or bs i [] in
      let here = (s.here refl).1 in
      let x = get_or b at to in
      let rest = keys_of (drop (suc i) bs) in
      let cut = drop-cons b at to here in
      let tied : R to x ≡ Equal = subst (λ ks. Begins R to true (ks ++ rest)) cut s.begins in
      let from = subst (λ ks. IsRising R (ks ++ rest)) cut (tail_rising o (keys_before bs i at) (keys_from bs i at) (subst (IsRising R) (at_position bs i at) rising)) in
      let one_more = ap (λ ks. keys_of (take i bs) ++ ks) (take-suc b at to here) ∙ sym (append_assoc (keys_of (take i bs)) (take at b) (x ∷ [])) in
      let split : PartsAt (keys_before bs i (suc at)) (keys_from bs i (suc at)) = record {
        low = subst AllUpTo (sym one_more) (AllUpTo-append (keys_before bs i at) (x ∷ []) (below_up_to (keys_before bs i at) s.below) (ap is_le (turned o to x Equal tied), tt));
        high = above_tied o to to x (drop (suc at) b ++ rest) tied from.0;
      } in
      subst (λ n. PartsAt (keys_before bs i n) (keys_from bs i n)) (sym (add-one at)) split

  -- the keys from one to another are as many as stand from the first one's position on and before the position behind the other
  pub range_long : (from : K) (bs : List (List K)) (i at j end : ℕ) (found there : Bool) → Stands R from bs i at found → Stands R to bs j end there → IsRising R (keys_of bs)
      → length (keys_before bs j (end + one_if there)) - length (keys_before bs i at) ≡ length (keys_between R from to (keys_of bs))
  range_long from bs i at j end found there s t rising =
      let n = length (keys_before bs i at) in
      let last = end + one_if there in
      let split = parted bs j end there t rising in
      sym (ap length (range_is o from to bs i at found s rising
      ∙ ap (up_to R to) (sym (drop-append_seam (keys_before bs i at) (keys_from bs i at)) ∙ ap (drop n) (sym (at_position bs i at) ∙ at_position bs j last)))
      ∙ up_to_long n (keys_before bs j last) (keys_from bs j last) split.low split.high)
