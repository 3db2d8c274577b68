-- Groups of blocks in parts, and what a change in one group leaves of all blocks.
use Rattle.std.proofs.Common.{◌≡◌, ℕ, zero, suc, ◌+◌, ◌-◌, ◌<◌, ◌≤◌, ◌⊎◌, inl, inr, List, [], ◌∷◌, ◌++◌, length, get_or, set, take, drop, refl, sym, ◌∙◌, ap, subst, append_assoc, length-append, arith, add-one, ⊎_elim}
use Rattle.std.specs.List.{insert, remove}
use Rattle.std.proofs.lemmas.Bool.{cases_lt, lt-ltb, le-ltb}
use Rattle.std.proofs.lemmas.List.{take-append-drop, take-append-le, drop-append-le, get_or-append-add, get_or-set_same, get_or-set_other, get_or_read, length-drop, length-set, set_split}
use Rattle.std.proofs.Math.ListN.{get_or-append}
use Rattle.std.proofs.Math.Seq.{drop-cons, take-append-add, drop-append-add, take-suc}
use Rattle.block_index.specs.Blocks.{keys_of, AreFilled}
use Rattle.block_index.specs.Edit.{Edits}
use Rattle.block_index.specs.Groups.{least, IsSized, AreSized, AreGroups, blocks_before, index_of, IsInside, HasRoomAt, IsShortAt}
use Rattle.block_index.proofs.Parts.{keys_of-append}

-- the least size of several groups, and of one
pub least_several : (n : ℕ) → 1 < n → least n ≡ 64
least_several n h = rw (lt-ltb 1 n h) refl

pub least_one : (n : ℕ) → n ≤ 1 → least n ≡ 1
least_one n h = rw (le-ltb 1 n h) refl

pub least_bounds : (n : ℕ) → (1 ≤ least n) × (least n ≤ 64)
least_bounds n = ⊎_elim
    (λ several. let e = least_several n several in (omega arith, omega arith))
    (λ one. let e = least_one n one in (omega arith, omega arith))
    (cases_lt 1 n)

module _ {K : Type 0} where
  pub AreSized-weaken : (few more : ℕ) (gs : List (List (List K))) → few ≤ more → AreSized more gs → AreSized few gs
  AreSized-weaken few more [] l h = tt
  AreSized-weaken few more (g ∷ gs) l h = let some = h.0.0 in ((omega arith, h.0.1), AreSized-weaken few more gs l h.1)

  pub AreSized-append : (few : ℕ) (xs ys : List (List (List K))) → AreSized few xs → AreSized few ys → AreSized few (xs ++ ys)
  AreSized-append few [] ys hx hy = hy
  AreSized-append few (x ∷ xs) ys hx hy = (hx.0, AreSized-append few xs ys hx.1 hy)

  pub AreSized-take : (few n : ℕ) (xs : List (List (List K))) → AreSized few xs → AreSized few (take n xs)
  AreSized-take few zero xs h = tt
  AreSized-take few (suc n) [] h = tt
  AreSized-take few (suc n) (x ∷ xs) h = (h.0, AreSized-take few n xs h.1)

  pub AreSized-drop : (few n : ℕ) (xs : List (List (List K))) → AreSized few xs → AreSized few (drop n xs)
  AreSized-drop few zero xs h = h
  AreSized-drop few (suc n) [] h = tt
  AreSized-drop few (suc n) (x ∷ xs) h = AreSized-drop few n xs h.1

  pub sized_at : (few : ℕ) (gs : List (List (List K))) (g : ℕ) → g < length gs → AreSized few gs → IsSized few (get_or gs g [])
  sized_at few [] g l h = absurd (omega arith)
  sized_at few (x ∷ gs) zero l h = h.0
  sized_at few (x ∷ gs) (suc g) l h = sized_at few gs g (omega arith) h.1

  -- groups are filled with blocks
  pub filled_groups : (few : ℕ) (gs : List (List (List K))) → 1 ≤ few → AreSized few gs → AreFilled {K = List K} gs
  filled_groups few [] l h = tt
  filled_groups few (g ∷ gs) l h = let some = h.0.0 in ((omega arith, h.0.1), filled_groups few gs l h.1)

  pub groups_filled : (gs : List (List (List K))) → AreGroups gs → AreFilled {K = List K} gs
  groups_filled gs h = filled_groups (least (length gs)) gs (least_bounds (length gs)).0 h

  -- the groups, and their blocks, in three parts
  pub parted : (gs : List (List (List K))) (g : ℕ) → g < length gs → gs ≡ take g gs ++ (get_or gs g [] ∷ drop (suc g) gs)
  parted gs g l = sym (take-append-drop g gs) ∙ ap (λ rest. take g gs ++ rest) (drop-cons gs g [] l)

  pub blocks_parted : (gs : List (List (List K))) (g : ℕ) → g < length gs → keys_of gs ≡ keys_of (take g gs) ++ (get_or gs g [] ++ keys_of (drop (suc g) gs))
  blocks_parted gs g l = ap keys_of (parted gs g l) ∙ keys_of-append (take g gs) (get_or gs g [] ∷ drop (suc g) gs)

  pub taken_in : (xs ys zs : List (List K)) (b : ℕ) → b ≤ length ys → take (length xs + b) (xs ++ (ys ++ zs)) ≡ xs ++ take b ys
  taken_in xs ys zs b l = take-append-add xs (ys ++ zs) b ∙ ap (λ t. xs ++ t) (take-append-le b ys zs l)

  pub dropped_in : (xs ys zs : List (List K)) (b : ℕ) → b ≤ length ys → drop (length xs + b) (xs ++ (ys ++ zs)) ≡ drop b ys ++ zs
  dropped_in xs ys zs b l = drop-append-add xs (ys ++ zs) b ∙ drop-append-le b ys zs l

  -- the blocks before one of a group, that one, and those after it
  pub take_blocks : (gs : List (List (List K))) (g b : ℕ) → g < length gs → b ≤ length (get_or gs g []) → take (index_of gs g b) (keys_of gs) ≡ keys_of (take g gs) ++ take b (get_or gs g [])
  take_blocks gs g b l m = ap (take (index_of gs g b)) (blocks_parted gs g l) ∙ taken_in (keys_of (take g gs)) (get_or gs g []) (keys_of (drop (suc g) gs)) b m

  pub drop_blocks : (gs : List (List (List K))) (g b : ℕ) → g < length gs → b < length (get_or gs g []) → drop (suc (index_of gs g b)) (keys_of gs) ≡ drop (suc b) (get_or gs g []) ++ keys_of (drop (suc g) gs)
  drop_blocks gs g b l m =
      let same : suc (index_of gs g b) ≡ blocks_before gs g + suc b = omega arith in
      ap (λ n. drop n (keys_of gs)) same
      ∙ ap (drop (blocks_before gs g + suc b)) (blocks_parted gs g l)
      ∙ dropped_in (keys_of (take g gs)) (get_or gs g []) (keys_of (drop (suc g) gs)) (suc b) (omega arith)

  pub block_at : (gs : List (List (List K))) (g b : ℕ) → g < length gs → b < length (get_or gs g []) → get_or (keys_of gs) (index_of gs g b) [] ≡ get_or (get_or gs g []) b []
  block_at gs g b l m =
      ap (λ bs. get_or bs (index_of gs g b) []) (blocks_parted gs g l)
      ∙ get_or-append-add (keys_of (take g gs)) (get_or gs g [] ++ keys_of (drop (suc g) gs)) b []
      ∙ get_or-append (get_or gs g []) (keys_of (drop (suc g) gs)) [] b m

  pub index_within : (gs : List (List (List K))) (g b : ℕ) → g < length gs → b < length (get_or gs g []) → index_of gs g b < length (keys_of gs)
  index_within gs g b l m =
      let all = ap length (blocks_parted gs g l) in
      omega (arith, all, length-append (keys_of (take g gs)) (get_or gs g [] ++ keys_of (drop (suc g) gs)), length-append (get_or gs g []) (keys_of (drop (suc g) gs)))

  -- the blocks with another group in the place of one
  pub blocks_set : (gs : List (List (List K))) (g : ℕ) (h : List (List K)) → g < length gs → keys_of (set gs g h) ≡ keys_of (take g gs) ++ (h ++ keys_of (drop (suc g) gs))
  blocks_set gs g h l = ap keys_of (set_split gs g h l) ∙ keys_of-append (take g gs) (h ∷ drop (suc g) gs)

  -- an edit in a group is one of all blocks
  pub lifted : (gs : List (List (List K))) (g b : ℕ) (was new : List (List K)) (keys : List K) → g < length gs → was ≡ get_or gs g [] → b < length was → Edits was new b keys → Edits (keys_of gs) (keys_of (set gs g new)) (index_of gs g b) keys
  lifted gs g b was new keys l is m e =
      let one = get_or gs g [] in
      let inside : b < length one = subst (λ h. b < length h) is m in
      let edited = e.new_is in
      record {
        mid = e.mid;
        few = e.few;
        new_is =
            blocks_set gs g new l
            ∙ ap (λ h. keys_of (take g gs) ++ (h ++ keys_of (drop (suc g) gs))) (edited ∙ ap (λ h. take b h ++ (e.mid ++ drop (suc b) h)) is)
            ∙ regrouped (keys_of (take g gs)) (take b one) e.mid (drop (suc b) one) (keys_of (drop (suc g) gs))
            ∙ ap (λ front. front ++ (e.mid ++ (drop (suc b) one ++ keys_of (drop (suc g) gs)))) (sym (take_blocks gs g b l (omega arith)))
            ∙ ap (λ rest. take (index_of gs g b) (keys_of gs) ++ (e.mid ++ rest)) (sym (drop_blocks gs g b l inside));
        keys_are = e.keys_are;
        filled = e.filled;
      }
    where
      regrouped : (x a m d y : List (List K)) → x ++ ((a ++ (m ++ d)) ++ y) ≡ (x ++ a) ++ (m ++ (d ++ y))
      regrouped x a m d y =
          ap (λ t. x ++ t) (append_assoc a (m ++ d) y ∙ ap (λ t. a ++ t) (append_assoc m d y))
          ∙ sym (append_assoc x a (m ++ (d ++ y)))

  pub AreSized-set : (few : ℕ) (gs : List (List (List K))) (g : ℕ) (h : List (List K)) → AreSized few gs → IsSized few h → AreSized few (set gs g h)
  AreSized-set few [] g h sized one = tt
  AreSized-set few (x ∷ gs) zero h sized one = (one, sized.1)
  AreSized-set few (x ∷ gs) (suc g) h sized one = (sized.0, AreSized-set few gs g h sized.1 one)

  AreFilled-front : (xs ys : List (List K)) → AreFilled (xs ++ ys) → AreFilled xs
  AreFilled-front [] ys h = tt
  AreFilled-front (x ∷ xs) ys h = (h.0, AreFilled-front xs ys h.1)

  pub AreFilled-back : (xs ys : List (List K)) → AreFilled (xs ++ ys) → AreFilled ys
  AreFilled-back [] ys h = h
  AreFilled-back (x ∷ xs) ys h = AreFilled-back xs ys h.1

  -- the blocks of a group are filled where all are
  pub filled_group : (gs : List (List (List K))) (g : ℕ) → AreFilled (keys_of gs) → AreFilled (get_or gs g [])
  filled_group [] g h = tt
  filled_group (x ∷ gs) zero h = AreFilled-front x (keys_of gs) h
  filled_group (x ∷ gs) (suc g) h = filled_group gs g (AreFilled-back x (keys_of gs) h)

  -- a place that a caller has of a group that was read
  pub inside_read : (gs : List (List (List K))) (g b i : ℕ) (was : List (List K)) → HasRoomAt gs g b i → was ≡ get_or gs g was → (was ≡ get_or gs g []) × (b < length was) × (length was < 128)
  inside_read gs g b i was h read =
      let is = get_or_read gs g was h.inside.0 read [] in
      (is, subst (λ x. b < length x) (sym is) h.inside.1, subst (λ x. length x < 128) (sym is) h.room)

  -- a key comes to a group, and so to all blocks
  pub put_lifted : (all : List (List K)) (gs : List (List (List K))) (g b i at : ℕ) (k : K) (was new : List (List K)) → keys_of gs ≡ all → HasRoomAt gs g b i → was ≡ get_or gs g was → Edits was new b (insert (get_or was b []) at k) → Edits all (keys_of (set gs g new)) i (insert (get_or all i []) at k)
  put_lifted all gs g b i at k was new same h read e =
      let r = inside_read gs g b i was h read in
      let here : get_or was b [] ≡ get_or (keys_of gs) i [] =
      ap (λ x. get_or x b []) r.0 ∙ sym (block_at gs g b h.inside.0 h.inside.1) ∙ ap (λ n. get_or (keys_of gs) n []) h.is in
      subst (λ l. Edits l (keys_of (set gs g new)) i (insert (get_or l i []) at k)) same
      (subst (λ x. Edits (keys_of gs) (keys_of (set gs g new)) i (insert x at k)) here
      (subst (λ n. Edits (keys_of gs) (keys_of (set gs g new)) n (insert (get_or was b []) at k)) h.is
      (lifted gs g b was new _ h.inside.0 r.0 r.1 e)))

  pub groups_put : (gs : List (List (List K))) (g b i : ℕ) (was new : List (List K)) → AreGroups gs → HasRoomAt gs g b i → was ≡ get_or gs g was → length was ≤ length new → length new ≤ length was + 1 → AreGroups (set gs g new)
  groups_put gs g b i was new groups h read grown most =
      let r = inside_read gs g b i was h read in
      let sized = subst (IsSized (least (length gs))) (sym r.0) (sized_at (least (length gs)) gs g h.inside.0 groups) in
      let few = sized.0 in
      let room = r.2 in
      subst (λ n. AreSized (least n) (set gs g new)) (sym (length-set gs g new))
      (AreSized-set (least (length gs)) gs g new groups (omega arith, omega arith))

  -- a key goes from a group
  pub taken_lifted : (gs : List (List (List K))) (g b at : ℕ) (was new : List (List K)) → IsInside gs g b → was ≡ get_or gs g was → Edits was new b (remove (get_or was b []) at) → Edits (keys_of gs) (keys_of (set gs g new)) (index_of gs g b) (remove (get_or (keys_of gs) (index_of gs g b) []) at)
  taken_lifted gs g b at was new h read e =
      let is = get_or_read gs g was h.0 read [] in
      let here : get_or was b [] ≡ get_or (keys_of gs) (index_of gs g b) [] = ap (λ x. get_or x b []) is ∙ sym (block_at gs g b h.0 h.1) in
      subst (λ x. Edits (keys_of gs) (keys_of (set gs g new)) (index_of gs g b) (remove x at)) here
      (lifted gs g b was new _ h.0 is (subst (λ x. b < length x) (sym is) h.1) e)

  pub groups_taken : (gs : List (List (List K))) (g b : ℕ) (was new : List (List K)) → AreGroups gs → IsInside gs g b → was ≡ get_or gs g was → length new ≤ length was → 64 ≤ length new → AreGroups (set gs g new)
  groups_taken gs g b was new groups h read less half =
      let is = get_or_read gs g was h.0 read [] in
      let most = (subst (IsSized (least (length gs))) (sym is) (sized_at (least (length gs)) gs g h.0 groups)).1 in
      let small = (least_bounds (length gs)).1 in
      subst (λ n. AreSized (least n) (set gs g new)) (sym (length-set gs g new))
      (AreSized-set (least (length gs)) gs g new groups (omega arith, omega arith))

  pub short_taken : (gs : List (List (List K))) (g b : ℕ) (was new : List (List K)) → AreGroups gs → IsInside gs g b → was ≡ get_or gs g was → length was ≤ length new + 1 → length new < 64 → IsShortAt (set gs g new) g
  short_taken gs g b was new groups h read near short =
      let is = get_or_read gs g was h.0 read [] in
      let few = (subst (IsSized (least (length gs))) (sym is) (sized_at (least (length gs)) gs g h.0 groups)).0 in
      let n = length-set gs g new in
      let here = get_or-set_same gs g new [] h.0 in
      record {
        inside = omega (arith, n, h.0);
        others = λ j l side. subst (λ m. IsSized (least m) (get_or (set gs g new) j [])) (sym n)
            (subst (IsSized (least (length gs))) (sym (get_or-set_other gs g j new [] (apart j side))) (sized_at (least (length gs)) gs j (omega (arith, n, l)) groups));
        few = subst (λ m. least m ≤ length (get_or (set gs g new) g []) + 1) (sym n) (subst (λ x. least (length gs) ≤ length x + 1) (sym here) (omega arith));
        short = subst (λ x. length x < 64) (sym here) short;
      }
    where
      apart : (j : ℕ) → (j < g) ⊎ (g < j) → (j ≡ g) → ⊥
      apart j (inl l) e = omega arith
      apart j (inr l) e = omega arith

  pub several_sized : (gs : List (List (List K))) → 1 < length gs → AreGroups gs → AreSized 64 gs
  several_sized gs several h = subst (λ n. AreSized n gs) (least_several (length gs) several) h

  -- the block of a group that was read is the one of all blocks
  pub block_read : (gs : List (List (List K))) (g b : ℕ) (was : List (List K)) → IsInside gs g b → was ≡ get_or gs g was → get_or was b [] ≡ get_or (keys_of gs) (index_of gs g b) []
  block_read gs g b was h read = ap (λ x. get_or x b []) (get_or_read gs g was h.0 read []) ∙ sym (block_at gs g b h.0 h.1)

  pub room_read : (all : List (List K)) (gs : List (List (List K))) (g b i at : ℕ) (was : List (List K)) → keys_of gs ≡ all → HasRoomAt gs g b i → was ≡ get_or gs g was → at ≤ length (get_or all i []) → at ≤ length (get_or was b [])
  room_read all gs g b i at was same h read within =
      subst (λ x. at ≤ length x) (sym (block_read gs g b was h.inside read ∙ ap (λ n. get_or (keys_of gs) n []) h.is ∙ ap (λ l. get_or l i []) same)) within

  -- the blocks before the next group
  pub before_next : (gs : List (List (List K))) (g : ℕ) → g < length gs → blocks_before gs g + length (get_or gs g []) ≡ blocks_before gs (g + 1)
  before_next gs g l =
      let front = take g gs in
      let one = get_or gs g [] in
      let next = ap (λ n. take n gs) (add-one g) ∙ take-suc gs g [] l in
      let more = ap length (ap keys_of next ∙ keys_of-append front (one ∷ [])) in
      omega (arith, more, length-append (keys_of front) (one ++ []), length-append one [])

  pub fits_before : (gs : List (List (List K))) (g : ℕ) → g < length gs → blocks_before gs g + length (get_or gs g []) ≤ length (keys_of gs)
  fits_before gs g l =
      let all = ap length (blocks_parted gs g l) in
      omega (arith, all, length-append (keys_of (take g gs)) (get_or gs g [] ++ keys_of (drop (suc g) gs)), length-append (get_or gs g []) (keys_of (drop (suc g) gs)))

  -- groups that have blocks are there
  pub there : (gs : List (List (List K))) (n : ℕ) → 0 < length (keys_of (drop n gs)) → n < length gs
  there gs n h = inner (drop n gs) (length-drop n gs) h
    where
      inner : (hs : List (List (List K))) → length hs ≡ length gs - n → 0 < length (keys_of hs) → n < length gs
      inner [] m h = let none : 0 < length {A = List K} [] = h in absurd (omega arith)
      inner (x ∷ hs) m h = omega arith

  -- a block behind those of a group is in a later one
  pub next_group : (gs : List (List (List K))) (g b i : ℕ) → g < length gs → length (get_or gs g []) ≤ b → index_of gs g b ≡ i → i < length (keys_of gs) → (g + 1 < length gs) × (index_of gs (g + 1) (b - length (get_or gs g [])) ≡ i)
  next_group gs g b i l past is within =
      let all = ap length (blocks_parted gs g l) in
      let two = length-append (keys_of (take g gs)) (get_or gs g [] ++ keys_of (drop (suc g) gs)) in
      let one = length-append (get_or gs g []) (keys_of (drop (suc g) gs)) in
      let later = there gs (suc g) (omega (arith, all, two, one)) in
      (omega arith, omega (arith, before_next gs g l))
