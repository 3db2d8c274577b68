-- A full group in two, and a short one evened out with a neighbour: all blocks stay as they are.
use Rattle.std.proofs.Common.{◌≡◌, ℕ, zero, suc, ◌+◌, ◌-◌, ◌<◌, ◌≤◌, ◌⊎◌, inl, inr, Bool, true, false, if◌then◌else◌, min, List, [], ◌∷◌, ◌++◌, length, get_or, set, take, drop, refl, sym, ◌∙◌, ap, subst, append_assoc, length-append, append-nil, arith, add-one, ⊎_elim}
use Rattle.std.specs.List.{insert, remove}
use Rattle.std.proofs.lemmas.Bool.{cases_lt, false≢true}
use Rattle.std.proofs.lemmas.List.{get_or_read, get_or-take, get_or-drop, length-take-le, length-drop}
use Rattle.std.proofs.Math.Seq.{get_or-append_seam, take-append_seam}
use Rattle.block_index.specs.Blocks.{keys_of}
use Rattle.block_index.specs.Groups.{least, IsSized, AreSized, AreGroups, AreEvened, index_of, IsInside, HasRoomAt, IsShortAt}
use Rattle.block_index.proofs.Parts.{keys_of-append}
use Rattle.block_index.proofs.Grouped.{least_several, least_bounds, AreSized-weaken, AreSized-append, AreSized-take, AreSized-drop, blocks_parted}

module _ {K : Type 0} where
  -- the list of groups with two in the place of one
  two_in : (gs : List (List (List K))) (g : ℕ) (low high : List (List K)) → g < length gs → insert (set gs g low) (suc g) high ≡ take g gs ++ (low ∷ high ∷ drop (suc g) gs)
  two_in [] g low high l = absurd (omega arith)
  two_in (x ∷ gs) zero low high l = refl
  two_in (x ∷ gs) (suc g) low high l = ap (λ rest. x ∷ rest) (two_in gs g low high (omega arith))

  pub split_is : (gs put : List (List (List K))) (g : ℕ) (low high : List (List K)) → g < length gs → put ≡ insert (set gs g low) (g + 1) high → put ≡ take g gs ++ (low ∷ high ∷ drop (suc g) gs)
  split_is gs put g low high l is = is ∙ ap (λ n. insert (set gs g low) n high) (add-one g) ∙ two_in gs g low high l

  pub blocks_split : (gs put : List (List (List K))) (g : ℕ) (was low high : List (List K)) → g < length gs → was ≡ get_or gs g was → low ++ high ≡ was → put ≡ insert (set gs g low) (g + 1) high → keys_of put ≡ keys_of gs
  blocks_split gs put g was low high l read are is =
      ap keys_of (split_is gs put g low high l is)
      ∙ keys_of-append (take g gs) (low ∷ high ∷ drop (suc g) gs)
      ∙ ap (λ bs. keys_of (take g gs) ++ bs) (sym (append_assoc low high (keys_of (drop (suc g) gs))) ∙ ap (λ bs. bs ++ keys_of (drop (suc g) gs)) (are ∙ get_or_read gs g was l read []))
      ∙ sym (blocks_parted gs g l)

  -- the groups beside one of several are of half the most at least
  beside : (gs : List (List (List K))) (g : ℕ) → g < length gs → AreGroups gs → AreSized 64 (take g gs) × AreSized 64 (drop (suc g) gs)
  beside [] g l h = absurd (omega arith)
  beside (x ∷ []) zero l h = (tt, tt)
  beside (x ∷ []) (suc g) l h = absurd (omega arith)
  beside (x ∷ y ∷ gs) g l h =
      let several : AreSized 64 (x ∷ y ∷ gs) = subst (λ n. AreSized n (x ∷ y ∷ gs)) (least_several (length (x ∷ y ∷ gs)) (omega arith)) h in
      (AreSized-take 64 g (x ∷ y ∷ gs) several, AreSized-drop 64 (suc g) (x ∷ y ∷ gs) several)

  any_groups : (gs : List (List (List K))) → AreSized 64 gs → AreGroups gs
  any_groups gs h = AreSized-weaken (least (length gs)) 64 gs (least_bounds (length gs)).1 h

  pub groups_split : (gs put : List (List (List K))) (g : ℕ) (low high : List (List K)) → AreGroups gs → g < length gs → length low ≡ 64 → length high ≡ 64 → put ≡ insert (set gs g low) (g + 1) high → AreGroups put
  groups_split gs put g low high groups l few many is =
      let others = beside gs g l groups in
      any_groups put (subst (AreSized 64) (sym (split_is gs put g low high l is))
      (AreSized-append 64 (take g gs) (low ∷ high ∷ drop (suc g) gs) others.0 ((omega arith, omega arith), ((omega arith, omega arith), others.1))))

  -- the group behind some others
  seam : (xs ys : List (List (List K))) (h : List (List K)) (g b : ℕ) → length xs ≡ g → b < length h → length h < 128 → HasRoomAt (xs ++ h ∷ ys) g b (length (keys_of xs) + b)
  seam xs ys h g b long l small =
      let at : get_or (xs ++ h ∷ ys) g [] ≡ h = ap (λ n. get_or (xs ++ h ∷ ys) n []) (sym long) ∙ get_or-append_seam xs h ys [] in
      let front : take g (xs ++ h ∷ ys) ≡ xs = ap (λ n. take n (xs ++ h ∷ ys)) (sym long) ∙ take-append_seam xs (h ∷ ys) in
      record {
        inside = (omega (arith, length-append xs (h ∷ ys)), subst (λ x. b < length x) (sym at) l);
        room = subst (λ x. length x < 128) (sym at) small;
        is = ap (λ bs. length (keys_of bs) + b) front;
      }

  pub place_low : (gs put : List (List (List K))) (g b : ℕ) (low high : List (List K)) → g < length gs → length low ≡ 64 → b < 64 → put ≡ insert (set gs g low) (g + 1) high → HasRoomAt put g b (index_of gs g b)
  place_low gs put g b low high l few small is =
      subst (λ hs. HasRoomAt hs g b (index_of gs g b)) (sym (split_is gs put g low high l is))
      (seam (take g gs) (high ∷ drop (suc g) gs) low g b (length-take-le g gs (omega arith)) (omega arith) (omega arith))

  pub place_high : (gs put : List (List (List K))) (g b : ℕ) (was low high : List (List K)) → IsInside gs g b → was ≡ get_or gs g was → length was ≡ 128 → length low ≡ 64 → length high ≡ 64 → 64 ≤ b → put ≡ insert (set gs g low) (g + 1) high → HasRoomAt put (g + 1) (b - 64) (index_of gs g b)
  place_high gs put g b was low high h read full few many large is =
      let was_is = ap length (get_or_read gs g was h.0 read []) in
      let within = h.1 in
      let front = take g gs in
      let long = length-take-le g gs (omega (arith, h.0)) in
      let one = ap (λ bs. length (keys_of front) + length bs) (append-nil low) in
      let before = ap length (keys_of-append front (low ∷ [])) in
      let same : length (keys_of (front ++ low ∷ [])) + (b - 64) ≡ index_of gs g b = omega (arith, before, one, length-append (keys_of front) (low ++ [])) in
      subst (λ hs. HasRoomAt hs (g + 1) (b - 64) (index_of gs g b)) (sym (split_is gs put g low high h.0 is ∙ sym (append_assoc front (low ∷ []) (high ∷ drop (suc g) gs))))
      (subst (λ n. HasRoomAt ((front ++ low ∷ []) ++ high ∷ drop (suc g) gs) (g + 1) (b - 64) n) same
      (seam (front ++ low ∷ []) (drop (suc g) gs) high (g + 1) (b - 64) (omega (arith, length-append front (low ∷ []), long)) (omega arith) (omega arith)))

  -- ---- a short group

  -- a list by its elements
  sized_all : (few : ℕ) (xs : List (List (List K))) → ((j : ℕ) → j < length xs → IsSized few (get_or xs j [])) → AreSized few xs
  sized_all few [] h = tt
  sized_all few (x ∷ xs) h = (h 0 (omega arith), sized_all few xs (λ j l. h (suc j) (omega arith)))

  -- two neighbours, and what stands around them
  two_parted : (gs : List (List (List K))) (low : ℕ) → suc low < length gs → gs ≡ take low gs ++ (get_or gs low [] ∷ get_or gs (suc low) [] ∷ drop (suc (suc low)) gs)
  two_parted [] low l = absurd (omega arith)
  two_parted (x ∷ []) low l = absurd (omega arith)
  two_parted (x ∷ y ∷ gs) zero l = refl
  two_parted (x ∷ y ∷ gs) (suc low) l = ap (λ rest. x ∷ rest) (two_parted (y ∷ gs) low (omega arith))

  one_in : (gs : List (List (List K))) (low : ℕ) (h : List (List K)) → suc low < length gs → set (remove gs (suc low)) low h ≡ take low gs ++ (h ∷ drop (suc (suc low)) gs)
  one_in [] low h l = absurd (omega arith)
  one_in (x ∷ []) low h l = absurd (omega arith)
  one_in (x ∷ y ∷ gs) zero h l = refl
  one_in (x ∷ y ∷ gs) (suc low) h l = ap (λ rest. x ∷ rest) (one_in (y ∷ gs) low h (omega arith))

  both_in : (gs : List (List (List K))) (low : ℕ) (h i : List (List K)) → suc low < length gs → insert (set (remove gs (suc low)) low h) (suc low) i ≡ take low gs ++ (h ∷ i ∷ drop (suc (suc low)) gs)
  both_in [] low h i l = absurd (omega arith)
  both_in (x ∷ []) low h i l = absurd (omega arith)
  both_in (x ∷ y ∷ gs) zero h i l = refl
  both_in (x ∷ y ∷ gs) (suc low) h i l = ap (λ rest. x ∷ rest) (both_in (y ∷ gs) low h i (omega arith))

  low_stays : (gs : List (List (List K))) (low : ℕ) → suc low < length gs → get_or (remove gs (suc low)) low [] ≡ get_or gs low []
  low_stays [] low l = absurd (omega arith)
  low_stays (x ∷ []) low l = absurd (omega arith)
  low_stays (x ∷ y ∷ gs) zero l = refl
  low_stays (x ∷ y ∷ gs) (suc low) l = low_stays (y ∷ gs) low (omega arith)

  one_for_two : (gs : List (List (List K))) (low : ℕ) (h : List (List K)) → low + 1 < length gs → set (remove gs (low + 1)) low h ≡ take low gs ++ (h ∷ drop (low + 2) gs)
  one_for_two gs low h l =
      let two : suc (suc low) ≡ low + 2 = omega arith in
      ap (λ n. set (remove gs n) low h) (add-one low) ∙ one_in gs low h (omega arith) ∙ ap (λ n. take low gs ++ (h ∷ drop n gs)) two

  two_for_two : (gs : List (List (List K))) (low : ℕ) (h i : List (List K)) → low + 1 < length gs → insert (set (remove gs (low + 1)) low h) (low + 1) i ≡ take low gs ++ (h ∷ i ∷ drop (low + 2) gs)
  two_for_two gs low h i l =
      let two : suc (suc low) ≡ low + 2 = omega arith in
      ap (λ n. insert (set (remove gs n) low h) n i) (add-one low) ∙ both_in gs low h i (omega arith) ∙ ap (λ n. take low gs ++ (h ∷ i ∷ drop n gs)) two

  pub blocks_of_two : (gs : List (List (List K))) (low : ℕ) → low + 1 < length gs → keys_of gs ≡ keys_of (take low gs) ++ ((get_or gs low [] ++ get_or gs (low + 1) []) ++ keys_of (drop (low + 2) gs))
  blocks_of_two gs low l =
      let two : suc (suc low) ≡ low + 2 = omega arith in
      ap keys_of (two_parted gs low (omega arith) ∙ ap (λ n. take low gs ++ (get_or gs low [] ∷ get_or gs n [] ∷ drop (suc (suc low)) gs)) (sym (add-one low)) ∙ ap (λ n. take low gs ++ (get_or gs low [] ∷ get_or gs (low + 1) [] ∷ drop n gs)) two)
      ∙ keys_of-append (take low gs) (get_or gs low [] ∷ get_or gs (low + 1) [] ∷ drop (low + 2) gs)
      ∙ ap (λ bs. keys_of (take low gs) ++ bs) (sym (append_assoc (get_or gs low []) (get_or gs (low + 1) []) (keys_of (drop (low + 2) gs))))

  -- a short group is one of two neighbours
  pub record IsPair (gs : List (List (List K))) (low : ℕ) : Type 0 where
    pub inside : low + 1 < length gs
    pub before : AreSized 64 (take low gs)
    pub after : AreSized 64 (drop (low + 2) gs)
    pub low_near : 63 ≤ length (get_or gs low [])
    pub high_near : 63 ≤ length (get_or gs (low + 1) [])
    pub few : length (get_or gs low []) + length (get_or gs (low + 1) []) ≤ 191
    pub many : 127 ≤ length (get_or gs low []) + length (get_or gs (low + 1) [])

  pub pair_low : (gs : List (List (List K))) (g : ℕ) → IsShortAt gs g → g + 1 < length gs → IsPair gs g
  pair_low gs g h l =
      let n = least_several (length gs) (omega arith) in
      let sized : (j : ℕ) → j < length gs → (j < g) ⊎ (g < j) → IsSized 64 (get_or gs j []) = λ j m side. subst (λ few. IsSized few (get_or gs j [])) n (h.others j m side) in
      let next = sized (g + 1) l (inr (omega arith)) in
      let few = next.0 in
      let most = next.1 in
      let near = subst (λ m. m ≤ length (get_or gs g []) + 1) n h.few in
      let short = h.short in
      record {
        inside = l;
        before = sized_all 64 (take g gs) (λ j m. let r = length-take-le g gs (omega arith) in subst (IsSized 64) (sym (get_or-take g gs j [] (omega arith))) (sized j (omega arith) (inl (omega arith))));
        after = sized_all 64 (drop (g + 2) gs) (λ j m. let r = length-drop (g + 2) gs in subst (IsSized 64) (sym (get_or-drop (g + 2) gs j [])) (sized (g + 2 + j) (omega arith) (inr (omega arith))));
        low_near = omega arith;
        high_near = omega arith;
        few = omega arith;
        many = omega arith;
      }

  pub pair_high : (gs : List (List (List K))) (low : ℕ) → IsShortAt gs (low + 1) → IsPair gs low
  pair_high gs low h =
      let l = h.inside in
      let n = least_several (length gs) (omega arith) in
      let sized : (j : ℕ) → j < length gs → (j < low + 1) ⊎ (low + 1 < j) → IsSized 64 (get_or gs j []) = λ j m side. subst (λ few. IsSized few (get_or gs j [])) n (h.others j m side) in
      let next = sized low (omega arith) (inl (omega arith)) in
      let few = next.0 in
      let most = next.1 in
      let near = subst (λ m. m ≤ length (get_or gs (low + 1) []) + 1) n h.few in
      let short = h.short in
      record {
        inside = l;
        before = sized_all 64 (take low gs) (λ j m. let r = length-take-le low gs (omega arith) in subst (IsSized 64) (sym (get_or-take low gs j [] (omega arith))) (sized j (omega arith) (inl (omega arith))));
        after = sized_all 64 (drop (low + 2) gs) (λ j m. let r = length-drop (low + 2) gs in subst (IsSized 64) (sym (get_or-drop (low + 2) gs j [])) (sized (low + 2 + j) (omega arith) (inr (omega arith))));
        low_near = omega arith;
        high_near = omega arith;
        few = omega arith;
        many = omega arith;
      }

  -- the pair evened out: both are put back, or the first alone
  pub both_blocks : (gs put : List (List (List K))) (low : ℕ) (h i : List (List K)) → low + 1 < length gs → AreEvened (get_or gs low []) (get_or gs (low + 1) []) h i → put ≡ insert (set (remove gs (low + 1)) low h) (low + 1) i → keys_of put ≡ keys_of gs
  both_blocks gs put low h i l e is =
      ap keys_of (is ∙ two_for_two gs low h i l)
      ∙ keys_of-append (take low gs) (h ∷ i ∷ drop (low + 2) gs)
      ∙ ap (λ bs. keys_of (take low gs) ++ bs) (sym (append_assoc h i (keys_of (drop (low + 2) gs))) ∙ ap (λ bs. bs ++ keys_of (drop (low + 2) gs)) e.same)
      ∙ sym (blocks_of_two gs low l)

  pub both_groups : (gs put : List (List (List K))) (low : ℕ) (h i : List (List K)) → IsPair gs low → AreEvened (get_or gs low []) (get_or gs (low + 1) []) h i → 0 < length i → put ≡ insert (set (remove gs (low + 1)) low h) (low + 1) i → AreGroups put
  both_groups gs put low h i p e some is =
      any_groups put (subst (AreSized 64) (sym (is ∙ two_for_two gs low h i p.inside))
      (AreSized-append 64 (take low gs) (h ∷ i ∷ drop (low + 2) gs) p.before (e.sized, (high e.rest, p.after))))
    where
      high : (i ≡ []) ⊎ IsSized 64 i → IsSized 64 i
      high (inl none) = let n = ap length none in absurd (omega arith)
      high (inr sized) = sized

  pub one_blocks : (gs put : List (List (List K))) (low : ℕ) (h i : List (List K)) → low + 1 < length gs → AreEvened (get_or gs low []) (get_or gs (low + 1) []) h i → length i ≤ 0 → put ≡ set (remove gs (low + 1)) low h → keys_of put ≡ keys_of gs
  one_blocks gs put low h i l e none is =
      ap keys_of (is ∙ one_for_two gs low h l)
      ∙ keys_of-append (take low gs) (h ∷ drop (low + 2) gs)
      ∙ ap (λ bs. keys_of (take low gs) ++ (bs ++ keys_of (drop (low + 2) gs))) (sym (append-nil h) ∙ ap (λ bs. h ++ bs) (sym (empty i none)) ∙ e.same)
      ∙ sym (blocks_of_two gs low l)
    where
      empty : (bs : List (List K)) → length bs ≤ 0 → bs ≡ []
      empty [] l = refl
      empty (b ∷ bs) l = absurd (omega arith)

  pub one_groups : (gs put : List (List (List K))) (low : ℕ) (h i : List (List K)) → IsPair gs low → AreEvened (get_or gs low []) (get_or gs (low + 1) []) h i → put ≡ set (remove gs (low + 1)) low h → AreGroups put
  one_groups gs put low h i p e is =
      any_groups put (subst (AreSized 64) (sym (is ∙ one_for_two gs low h p.inside))
      (AreSized-append 64 (take low gs) (h ∷ drop (low + 2) gs) p.before (e.sized, p.after)))

  -- the only group, short and empty, or not
  pub lone : (gs : List (List (List K))) (was : List (List K)) → length gs ≡ 1 → was ≡ get_or gs 0 was → 0 < length was → length was ≤ 128 → AreGroups gs
  lone [] was n read some most = absurd (omega arith)
  lone (g ∷ []) was n read some most = (subst (IsSized 1) read (omega arith, most), tt)
  lone (g ∷ h ∷ gs) was n read some most = absurd (omega arith)

  pub lone_empty : (gs : List (List (List K))) (was : List (List K)) → length gs ≡ 1 → was ≡ get_or gs 0 was → length was ≡ 0 → ◌≡◌ {A = List (List K)} [] (keys_of gs)
  lone_empty [] was n read none = refl
  lone_empty (g ∷ []) was n read none = empty was none ∙ read ∙ sym (append-nil g)
    where
      empty : (bs : List (List K)) → length bs ≡ 0 → [] ≡ bs
      empty [] l = refl
      empty (b ∷ bs) l = absurd (omega arith)
  lone_empty (g ∷ h ∷ gs) was n read none = absurd (omega arith)

  pub get_or_removed : (gs : List (List (List K))) (low : ℕ) → low + 1 < length gs → get_or (remove gs (low + 1)) low [] ≡ get_or gs low []
  get_or_removed gs low l = ap (λ n. get_or (remove gs n) low []) (add-one low) ∙ low_stays gs low (omega arith)

  -- the pair of a short group among several: it and the next one, or the one before it and it
  pub pair_of : (gs : List (List (List K))) (g low : ℕ) → IsShortAt gs g → 1 < length gs → low ≡ min g (length gs - 2) → IsPair gs low
  pair_of gs g low h several is = ⊎_elim
      (λ next. let same : low ≡ g = omega arith in subst (IsPair gs) (sym same) (pair_low gs g h next))
      (λ last.
      let l = h.inside in
      let same : low + 1 ≡ g = omega arith in
      pair_high gs low (subst (IsShortAt gs) (sym same) h))
      (cases_lt (g + 1) (length gs))

  pub evened_same : (low high is_low is_high h i : List (List K)) → low ≡ is_low → high ≡ is_high → AreEvened low high h i → AreEvened is_low is_high h i
  evened_same low high is_low is_high h i e f s = subst (λ l. AreEvened l is_high h i) e (subst (λ l. AreEvened low l h i) f s)

pub when_true : {A : Type 0} (b : Bool) (x y z : A) → b ≡ true → z ≡ (if b then x else y) → z ≡ x
when_true true x y z e is = is
when_true false x y z e is = absurd (false≢true e)
