-- Where a search of the groups and then of one of them ends, among all blocks.
use Rattle.std.proofs.Common.{◌≡◌, ℕ, zero, suc, ◌+◌, ◌-◌, ◌*◌, ◌<◌, ◌≤◌, Bool, true, false, List, [], ◌∷◌, ◌++◌, length, map, get_or, take, drop, Ordering, Less, Equal, Greater, refl, sym, ◌∙◌, ap, subst, append_assoc, length-append, arith}
use Rattle.std.specs.Cmp.{IsTotalOrder}
use Rattle.std.proofs.lemmas.List.{get_or_read, get_or-map, get_or-drop, length-drop}
use Rattle.std.proofs.Math.Seq.{drop-cons}
use Rattle.sorted_sets.specs.Rising.{Above, IsRising}
use Rattle.sorted_sets.proofs.Rising.{turned}
use Rattle.block_index.specs.Blocks.{keys_of, AreFilled}
use Rattle.block_index.specs.Groups.{AreSized, index_of}
use Rattle.block_index.specs.Search.{first_at, keys_before, keys_from, Below, Begins, IsAfterBlock, IsBeforeBlock, Stands}
use Rattle.block_index.proofs.Grouped.{AreFilled-back, there, blocks_parted, take_blocks, drop_blocks, block_at, index_within, filled_group}
use Rattle.block_index.proofs.Parts.{keys_of-append, AreFilled-drop, blocks_few, filled_at}
use Rattle.block_index.proofs.Standing.{tail_rising, below_less, Below-append, above_blocks, found_at, before_all}

module _ {K : Type 0} where
  -- the first key of a group
  pub first_key : (bs : List (List K)) → AreFilled bs → 0 < length bs → (d : K) → get_or (keys_of bs) 0 d ≡ first_at bs 0 d
  first_key [] f l d = absurd (omega arith)
  first_key ([] ∷ bs) f l d = let some : 0 < length {A = K} [] = f.0.0 in absurd (omega arith)
  first_key ((z ∷ zs) ∷ bs) f l d = refl

  pub long_map : (gs : List (List (List K))) → length (map keys_of gs) ≡ length gs
  long_map [] = refl
  long_map (g ∷ gs) = ap suc (long_map gs)

  -- the keys of a group that is there
  keys_at : (gs : List (List (List K))) (g : ℕ) → g < length gs → get_or (map keys_of gs) g [] ≡ keys_of (get_or gs g [])
  keys_at gs g l = get_or-map keys_of gs g [] [] l

  pub first_of_group : (gs : List (List (List K))) (g : ℕ) → g < length gs → AreFilled {K = List K} gs → AreFilled (keys_of gs) → (d : K) → first_at (map keys_of gs) g d ≡ first_at (get_or gs g []) 0 d
  first_of_group gs g l some filled d = ap (λ ks. get_or ks 0 d) (keys_at gs g l) ∙ first_key (get_or gs g []) (filled_group gs g filled) (filled_at gs g l some).0 d

  -- the first key of all is that of the first group
  first_of_all : (gs : List (List (List K))) → AreFilled {K = List K} gs → AreFilled (keys_of gs) → 0 < length gs → (d : K) → first_at (keys_of gs) 0 d ≡ first_at (map keys_of gs) 0 d
  first_of_all [] some f l d = absurd (omega arith)
  first_of_all ([] ∷ gs) some f l d = let n : 0 < length {A = List K} [] = some.0.0 in absurd (omega arith)
  first_of_all (([] ∷ bs) ∷ gs) some f l d = let n : 0 < length {A = K} [] = f.0.0 in absurd (omega arith)
  first_of_all (((z ∷ zs) ∷ bs) ∷ gs) some f l d = refl

  -- the first key of the groups from one on
  first_from : (gs : List (List (List K))) (n : ℕ) → n < length gs → (d : K) → first_at (map keys_of (drop n gs)) 0 d ≡ first_at (map keys_of gs) n d
  first_from gs n l d =
      let some : 0 < length (drop n gs) = omega (arith, length-drop n gs) in
      let same : n + 0 ≡ n = omega arith in
      ap (λ ks. get_or ks 0 d) (keys_at (drop n gs) 0 some ∙ ap keys_of (get_or-drop n gs 0 [] ∙ ap (λ i. get_or gs i []) same) ∙ sym (keys_at gs n l))

  -- the keys of all, in three parts
  pub keys_parted : (gs : List (List (List K))) (g : ℕ) → g < length gs → keys_of (keys_of gs) ≡ keys_of (keys_of (take g gs)) ++ (keys_of (get_or gs g []) ++ keys_of (keys_of (drop (suc g) gs)))
  keys_parted gs g l =
      ap keys_of (blocks_parted gs g l)
      ∙ keys_of-append (keys_of (take g gs)) (get_or gs g [] ++ keys_of (drop (suc g) gs))
      ∙ ap (λ ks. keys_of (keys_of (take g gs)) ++ ks) (keys_of-append (get_or gs g []) (keys_of (drop (suc g) gs)))

  -- the keys before and from a position in a group
  pub before_is : (gs : List (List (List K))) (g b at : ℕ) → g < length gs → b < length (get_or gs g []) → keys_before (keys_of gs) (index_of gs g b) at ≡ keys_of (keys_of (take g gs)) ++ keys_before (get_or gs g []) b at
  before_is gs g b at l m =
      ap (λ x. keys_of (take (index_of gs g b) (keys_of gs)) ++ take at x) (block_at gs g b l m)
      ∙ ap (λ bs. keys_of bs ++ take at (get_or (get_or gs g []) b [])) (take_blocks gs g b l (omega arith))
      ∙ ap (λ ks. ks ++ take at (get_or (get_or gs g []) b [])) (keys_of-append (keys_of (take g gs)) (take b (get_or gs g [])))
      ∙ append_assoc (keys_of (keys_of (take g gs))) (keys_of (take b (get_or gs g []))) (take at (get_or (get_or gs g []) b []))

  pub from_is : (gs : List (List (List K))) (g b at : ℕ) → g < length gs → b < length (get_or gs g []) → keys_from (keys_of gs) (index_of gs g b) at ≡ keys_from (get_or gs g []) b at ++ keys_of (keys_of (drop (suc g) gs))
  from_is gs g b at l m =
      let rest = drop at (get_or (get_or gs g []) b []) in
      ap (λ x. drop at x ++ keys_of (drop (suc (index_of gs g b)) (keys_of gs))) (block_at gs g b l m)
      ∙ ap (λ bs. rest ++ keys_of bs) (drop_blocks gs g b l m)
      ∙ ap (λ ks. rest ++ ks) (keys_of-append (drop (suc b) (get_or gs g [])) (keys_of (drop (suc g) gs)))
      ∙ sym (append_assoc rest (keys_of (drop (suc b) (get_or gs g []))) (keys_of (keys_of (drop (suc g) gs))))

  pub keys_mapped : (gs : List (List (List K))) → keys_of (map keys_of gs) ≡ keys_of (keys_of gs)
  keys_mapped [] = refl
  keys_mapped (g ∷ gs) = ap (λ ks. keys_of g ++ ks) (keys_mapped gs) ∙ sym (keys_of-append g (keys_of gs))

  -- ---- numbers

  pub half_full : (gs : List (List (List K))) → AreSized 64 gs → 64 * length gs ≤ length (keys_of gs)
  half_full [] h = omega arith
  half_full (g ∷ gs) h = let some = h.0.0 in omega (arith, length-append g (keys_of gs), half_full gs h.1)

  pub group_within : (gs : List (List (List K))) (g : ℕ) → g < length gs → length (get_or gs g []) ≤ length (keys_of gs)
  group_within gs g l =
      let all = ap length (blocks_parted gs g l) in
      omega (arith, all, length-append (keys_of (take g gs)) (get_or gs g [] ++ keys_of (drop (suc g) gs)), length-append (get_or gs g []) (keys_of (drop (suc g) gs)))

module _ {K : Type 0} (R : K → K → Ordering) (k : K) where
  -- the first key of a group that was read
  read_first : (gs : List (List (List K))) (m : ℕ) (was : List (List K)) (x : K) → m < length gs → AreFilled {K = List K} gs → AreFilled (keys_of gs) → was ≡ get_or gs m was → ((d : K) → x ≡ first_at was 0 d) → (d : K) → x ≡ first_at (map keys_of gs) m d
  read_first gs m was x l some filled read first d =
      first d ∙ ap (λ bs. first_at bs 0 d) (get_or_read gs m was l read []) ∙ sym (first_of_group gs m l some filled d)

  pub before_group : (gs : List (List (List K))) (m : ℕ) (was : List (List K)) (x : K) → m < length gs → AreFilled {K = List K} gs → AreFilled (keys_of gs) → was ≡ get_or gs m was → ((d : K) → x ≡ first_at was 0 d) → R k x ≡ Less → IsBeforeBlock R k (map keys_of gs) m
  before_group gs m was x l some filled read first e d within = ap (R k) (sym (read_first gs m was x l some filled read first d)) ∙ e

  pub after_group : (gs : List (List (List K))) (m : ℕ) (was : List (List K)) (x : K) → m < length gs → AreFilled {K = List K} gs → AreFilled (keys_of gs) → was ≡ get_or gs m was → ((d : K) → x ≡ first_at was 0 d) → R k x ≡ Greater → IsAfterBlock R k (map keys_of gs) (m + 1)
  after_group gs m was x l some filled read first e d positive =
      let same : m + 1 - 1 ≡ m = omega arith in
      ap (λ i. R k (first_at (map keys_of gs) i d)) same ∙ ap (R k) (sym (read_first gs m was x l some filled read first d)) ∙ e

  pub tied_group : (gs : List (List (List K))) (m : ℕ) (was : List (List K)) (x : K) → m < length gs → AreFilled {K = List K} gs → AreFilled (keys_of gs) → was ≡ get_or gs m was → ((d : K) → x ≡ first_at was 0 d) → R k x ≡ Equal → (d : K) → R k (first_at (map keys_of gs) m d) ≡ Equal
  tied_group gs m was x l some filled read first e d = ap (R k) (sym (read_first gs m was x l some filled read first d)) ∙ e

  -- the first key of a group is below k, where the search of the groups says so of what is before `next`
  pub above_first_key : (gs : List (List (List K))) (g next : ℕ) (was : List (List K)) → g < length gs → next ≡ g + 1 → AreFilled {K = List K} gs → AreFilled (keys_of gs) → was ≡ get_or gs g [] → IsAfterBlock R k (map keys_of gs) next → IsAfterBlock R k was 1
  above_first_key gs g next was l up some filled is after d positive =
      let same : next - 1 ≡ g = omega arith in
      let zeroth : 1 - 1 ≡ 0 = omega arith in
      ap (λ i. R k (first_at was i d)) zeroth
      ∙ ap (λ bs. R k (first_at bs 0 d)) is
      ∙ ap (R k) (sym (first_of_group gs g l some filled d))
      ∙ ap (λ i. R k (first_at (map keys_of gs) i d)) (sym same)
      ∙ after d (omega arith)

  Above-append : (xs ys : List K) → Above R k xs → Above R k ys → Above R k (xs ++ ys)
  Above-append [] ys hx hy = hy
  Above-append (x ∷ xs) ys hx hy = (hx.0, Above-append xs ys hx.1 hy)

  begins_more : (found : Bool) (xs ys : List K) → Begins R k found xs → Above R k ys → Begins R k found (xs ++ ys)
  begins_more true [] ys h above = absurd h
  begins_more true (x ∷ xs) ys h above = h
  begins_more false xs ys h above = Above-append xs ys h above

  Above-front : (x : K) (xs ys : List K) → Above R x (xs ++ ys) → Above R x xs
  Above-front x [] ys h = tt
  Above-front x (z ∷ xs) ys h = (h.0, Above-front x xs ys h.1)

  front_rising : (xs ys : List K) → IsRising R (xs ++ ys) → IsRising R xs
  front_rising [] ys h = tt
  front_rising (x ∷ xs) ys h = (Above-front x xs ys h.0, front_rising xs ys h.1)

module _ {K : Type 0} {R : K → K → Ordering} (o : IsTotalOrder R) where
  -- the keys of a group rise
  pub group_rising : (k : K) (gs : List (List (List K))) (g : ℕ) (was : List (List K)) → g < length gs → was ≡ get_or gs g [] → IsRising R (keys_of (keys_of gs)) → IsRising R (keys_of was)
  group_rising k gs g was l is rising =
      subst (λ bs. IsRising R (keys_of bs)) (sym is)
      (front_rising R k (keys_of (get_or gs g [])) (keys_of (keys_of (drop (suc g) gs)))
      (tail_rising o (keys_of (keys_of (take g gs))) _ (subst (IsRising R) (keys_parted gs g l) rising)))

  -- a position in a group whose first key is below k, and behind which the next one begins above k
  pub in_group : (k : K) (gs : List (List (List K))) (g b at next : ℕ) (found : Bool) (was : List (List K)) → AreFilled {K = List K} gs → AreFilled (keys_of gs) → IsRising R (keys_of (keys_of gs)) → g < length gs → next ≡ g + 1 → was ≡ get_or gs g [] → IsAfterBlock R k was 1 → IsBeforeBlock R k (map keys_of gs) next → Stands R k was b at found → Stands R k (keys_of gs) (index_of gs g b) at found
  in_group k gs g b at next found was some filled rising l up is after before stood =
      let one = get_or gs g [] in
      let s = subst (λ bs. Stands R k bs b at found) is stood in
      let m : b < length one = s.inside (filled_at gs g l some).0 in
      let i = index_of gs g b in
      let y = first_at one 0 k in
      let cut = keys_parted gs g l in
      let few = blocks_few one (filled_group gs g filled) in
      let nonempty = (filled_at gs g l some).0 in
      let headed : keys_of one ≡ y ∷ drop 1 (keys_of one) =
      drop-cons (keys_of one) 0 k (omega arith) ∙ ap (λ x. x ∷ drop 1 (keys_of one)) (first_key one (filled_group gs g filled) nonempty k) in
      let low : R k y ≡ Greater = ap (λ bs. R k (first_at bs 0 k)) (sym is) ∙ after k (omega arith) in
      let ahead = below_less o k y (keys_of (keys_of (take g gs))) (drop 1 (keys_of one) ++ keys_of (keys_of (drop (suc g) gs)))
      (subst (λ ks. IsRising R (keys_of (keys_of (take g gs)) ++ (ks ++ keys_of (keys_of (drop (suc g) gs))))) headed (subst (IsRising R) cut rising)) (turned o k y Greater low) in
      let here = block_at gs g b l m in
      let within = index_within gs g b l m in
      record {
        start = omega arith;
        inside = λ _. within;
        within = subst (λ x. at ≤ length x) (sym here) s.within;
        here = λ t. (within, subst (λ x. at < length x) (sym here) (s.here t).1);
        below = subst (Below R k) (sym (before_is gs g b at l m)) (Below-append o k (keys_of (keys_of (take g gs))) (keys_before one b at) ahead s.below);
        begins = subst (Begins R k found) (sym (from_is gs g b at l m)) (begins_more R k found (keys_from one b at) (keys_of (keys_of (drop (suc g) gs))) s.begins (beyond rising));
      }
    where
      beyond : IsRising R (keys_of (keys_of gs)) → Above R k (keys_of (keys_of (drop (suc g) gs)))
      beyond rising =
          above_blocks o k (keys_of (drop (suc g) gs))
          (filled_drop (suc g) gs filled)
          (tail_rising o (keys_of (get_or gs g [])) _ (tail_rising o (keys_of (keys_of (take g gs))) _ (subst (IsRising R) (keys_parted gs g l) rising)))
          (λ h.
          let n = there gs (suc g) h in
          let same : next ≡ suc g = omega arith in
          ap (R k) (first_of_all (drop (suc g) gs) (AreFilled-drop (suc g) gs some) (filled_drop (suc g) gs filled) (omega (arith, length-drop (suc g) gs)) k ∙ first_from gs (suc g) n k)
          ∙ ap (λ j. R k (first_at (map keys_of gs) j k)) (sym same)
          ∙ before k (omega (arith, long_map gs)))
        where
          filled_drop : (n : ℕ) (hs : List (List (List K))) → AreFilled (keys_of hs) → AreFilled (keys_of (drop n hs))
          filled_drop zero hs h = h
          filled_drop (suc n) [] h = tt
          filled_drop (suc n) (x ∷ hs) h = filled_drop n hs (AreFilled-back x (keys_of hs) h)

  -- a group whose first key ties with k
  pub at_group : (k : K) (gs : List (List (List K))) (g : ℕ) → AreFilled {K = List K} gs → AreFilled (keys_of gs) → IsRising R (keys_of (keys_of gs)) → g < length (map keys_of gs) → ((d : K) → R k (first_at (map keys_of gs) g d) ≡ Equal) → Stands R k (keys_of gs) (index_of gs g 0) 0 true
  at_group k gs g some filled rising m tied =
      let l : g < length gs = omega (arith, long_map gs) in
      let nonempty = (filled_at gs g l some).0 in
      let here = block_at gs g 0 l nonempty in
      let one = (filled_at (get_or gs g []) 0 nonempty (filled_group gs g filled)).0 in
      found_at o k (keys_of gs) (index_of gs g 0) 0 rising (index_within gs g 0 l nonempty)
      (subst (λ x. 0 < length x) (sym here) one)
      (ap (λ x. R k (get_or x 0 k)) here ∙ ap (R k) (sym (first_of_group gs g l some filled k)) ∙ tied k)

  -- no group, or the first one begins above k
  pub before_groups : (k : K) (gs : List (List (List K))) (next : ℕ) → AreFilled {K = List K} gs → AreFilled (keys_of gs) → IsRising R (keys_of (keys_of gs)) → next ≡ 0 → IsBeforeBlock R k (map keys_of gs) next → Stands R k (keys_of gs) (index_of gs 0 0) 0 false
  before_groups k gs next some filled rising none before =
      before_all o k (keys_of gs) filled rising
      (λ h.
      let n = there gs 0 h in
      ap (R k) (first_of_all gs some filled n k)
      ∙ ap (λ j. R k (first_at (map keys_of gs) j k)) (sym none)
      ∙ before k (omega (arith, long_map gs)))

-- a position in equal groups
pub stands_same : {K : Type 0} (R : K → K → Ordering) (k : K) (gs hs : List (List (List K))) (g b at : ℕ) (found is : Bool) → gs ≡ hs → found ≡ is → Stands R k (keys_of gs) (index_of gs g b) at found → Stands R k (keys_of hs) (index_of hs g b) at is
stands_same R k gs hs g b at found is e f s = subst (λ l. Stands R k (keys_of l) (index_of l g b) at is) e (subst (λ x. Stands R k (keys_of gs) (index_of gs g b) at x) f s)
