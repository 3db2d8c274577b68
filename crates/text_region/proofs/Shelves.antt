-- The fields of a shelf stay right when a block comes into use, goes out of use or is made.
use Rattle.std.proofs.Common.{◌≡◌, ◌≢◌, ℕ, ◌+◌, ◌*◌, ◌^◌, ◌<◌, ◌≤◌, ◌⊎◌, inl, inr, List, [], ◌∷◌, ◌++◌, length, take, drop, set, get_or, Option, Some, None, arith, refl, sym, ap, subst, ◌∙◌, ⊎_elim}
use Rattle.std.specs.Prelude.{Bool, is_some, count_by, cond, IsSome}
use Rattle.std.specs.Option.{option_map}
use Rattle.std.proofs.Math.Nat.{suc-mul}
use Rattle.std.proofs.lemmas.Bool.{cases_lt, cases_eq}
use Rattle.std.proofs.lemmas.List.{length-append, length-set, length_push, get_or_append_left, get_or_push, get_or-set_same, get_or-set_other, get_or_past}
use Rattle.std.proofs.lemmas.List.Sums.{get_or-le-sum_by, sum_by-set, sum_by_push}
use Rattle.text_region.specs.Blocks.{Blocks, block_at, blocks_in}
use Rattle.text_region.specs.Shelf.{IsShelf}
use Rattle.text_region.proofs.Blocks.{block_at-blocks_in}

-- a place in a list that was put longer by one
below_or_last : {X : Type 0} (xs : List X) (x : X) (k : ℕ) → k < length (xs ++ x ∷ []) → (k < length xs) ⊎ (length xs ≡ k)
below_or_last xs x k h = ⊎_elim (λ l. inl l) (λ ge. inr (omega (arith, length_push xs x))) (cases_lt k (length xs))

-- what lies in a block that is in use
pub record LiesIn (size : ℕ) (bytes : List ℕ) (lengths : List (Option ℕ)) (blocks : Blocks) (number : ℕ) : Type 0 where
  pub len : ℕ
  pub is : get_or lengths number None ≡ Some len
  pub there : number < length lengths
  pub text : block_at blocks number ≡ Some (take len (drop (number * size) bytes))

has_some : {A B : Type 0} (f : A → B) (o : Option A) (p : Option B) → p ≡ option_map f o → IsSome p → (x : A) × (o ≡ Some x) × (p ≡ Some (f x))
has_some f None p e h = absurd (cc)
has_some f (Some x) p e h = (x, refl, e)

some_there : {X : Type 0} (xs : List (Option X)) (k : ℕ) (x : X) → get_or xs k None ≡ Some x → k < length xs
some_there xs k x h = ⊎_elim (λ l. l) (λ ge. absurd (let past = get_or_past xs k None ge in cc)) (cases_lt k (length xs))

pub lies_in : (size : ℕ) (bytes : List ℕ) (lengths : List (Option ℕ)) (blocks : Blocks) (number : ℕ) → blocks_in size bytes lengths ≡ blocks → IsSome (block_at blocks number) → LiesIn size bytes lengths blocks number
lies_in size bytes lengths blocks number same h =
    let f : ℕ → List ℕ = λ len. take len (drop (number * size) bytes) in
    let found = has_some f (get_or lengths number None) (block_at blocks number) (ap (λ b. block_at b number) (sym same) ∙ block_at-blocks_in size bytes lengths number) h in
    record { len = found.0; is = found.1; there = some_there lengths number found.0 found.1; text = found.2 }

-- a block without a length is in no use
pub vacant_in : (size : ℕ) (bytes : List ℕ) (lengths : List (Option ℕ)) (blocks : Blocks) (number : ℕ) → blocks_in size bytes lengths ≡ blocks → get_or lengths number None ≡ None → block_at blocks number ≡ None
vacant_in size bytes lengths blocks number same h =
    ap (λ b. block_at b number) (sym same) ∙ block_at-blocks_in size bytes lengths number ∙ ap (option_map (λ len. take len (drop (number * size) bytes))) h

-- a block counts for one where it is in use
abbrev pub one_used : Bool → ℕ
one_used b = cond b 1 0

pub unused : {X : Type 0} {o : Option X} → o ≡ None → one_used (is_some o) ≡ 0
unused e = ap (λ o. one_used (is_some o)) e

-- numbers that stand once, and one more that isn't among them
pushed_once : (spare : List ℕ) (number : ℕ) → ((k o : ℕ) → k < length spare → o < length spare → (d : ℕ) → get_or spare k d ≡ get_or spare o d → k ≡ o)
    → ((k d : ℕ) → k < length spare → get_or spare k d ≢ number) → (k o : ℕ) → k < length (spare ++ number ∷ []) → o < length (spare ++ number ∷ []) → (d : ℕ)
    → get_or (spare ++ number ∷ []) k d ≡ get_or (spare ++ number ∷ []) o d → k ≡ o
pushed_once spare number once another k o l m d e =
    let left : (j : ℕ) → j < length spare → get_or (spare ++ number ∷ []) j d ≡ get_or spare j d = λ j b. get_or_append_left spare (number ∷ []) d j b in
    let end : (j : ℕ) → length spare ≡ j → get_or (spare ++ number ∷ []) j d ≡ number = λ j b. get_or_push spare number d j b in
    ⊎_elim
    (λ a. ⊎_elim (λ b. once k o a b d (sym (left k a) ∙ e ∙ left o b)) (λ b. absurd (another k d a (sym (left k a) ∙ e ∙ end o b))) (below_or_last spare number o m))
    (λ a. ⊎_elim (λ b. absurd (another o d b (sym (left o b) ∙ sym e ∙ end k a))) (λ b. sym a ∙ b) (below_or_last spare number o m))
    (below_or_last spare number k l)

-- a block in use is one of those
pub in_use_counts : (lengths : List (Option ℕ)) (number len : ℕ) → get_or lengths number None ≡ Some len → number < length lengths → 1 ≤ count_by is_some lengths
in_use_counts lengths number len is there =
    omega (arith, get_or-le-sum_by (λ o. one_used (is_some o)) lengths number None there, ap (λ o. one_used (is_some o)) is)

module _ (size : ℕ) (bytes : List ℕ) (lengths : List (Option ℕ)) where
  -- the last spare block is in no use
  pub record Spare (rest : List ℕ) (number : ℕ) : Type 0 where
    pub there : number < length lengths
    pub vacant : get_or lengths number None ≡ None
    pub once : (k d : ℕ) → k < length rest → get_or rest k d ≢ number

  pub last_spare : (rest : List ℕ) (number capacity : ℕ) → IsShelf size bytes lengths (rest ++ number ∷ []) capacity → Spare rest number
  last_spare rest number capacity h =
      let longer = length_push rest number in
      let last : get_or (rest ++ number ∷ []) (length rest) 0 ≡ number = get_or_push rest number 0 (length rest) refl in
      let free = h.free (length rest) (omega arith) 0 in
      record {
        there = subst (λ n. n < length lengths) last free.0;
        vacant = subst (λ n. get_or lengths n None ≡ None) last free.1;
        once = λ k d l e.
            let here : get_or (rest ++ number ∷ []) k d ≡ number = get_or_append_left rest (number ∷ []) d k l ∙ e in
            let end : get_or (rest ++ number ∷ []) (length rest) d ≡ number = get_or_push rest number d (length rest) refl in
            let same : k ≡ length rest = h.once k (length rest) (omega arith) (omega arith) d (here ∙ sym end) in omega arith;
      }

  pub spare_before : (rest spare : List ℕ) (number capacity : ℕ) → spare ≡ rest ++ number ∷ [] → IsShelf size bytes lengths spare capacity → Spare rest number
  spare_before rest spare number capacity e h = last_spare rest number capacity (subst (λ l. IsShelf size bytes lengths l capacity) e h)

  -- a length that is put in is that of its block alone
  fit_set : (number len m l : ℕ) → number < length lengths → len ≤ size → ((n k : ℕ) → get_or lengths n None ≡ Some k → k ≤ size) → get_or (set lengths number (Some len)) m None ≡ Some l → l ≤ size
  fit_set number len m l there short fits e =
      ⊎_elim (λ same. let at : get_or (set lengths number (Some len)) number None ≡ Some len = get_or-set_same lengths number (Some len) None there in
      let is : Some len ≡ Some l = sym at ∙ ap (λ n. get_or (set lengths number (Some len)) n None) (sym same) ∙ e in
      let eq : len ≡ l = cc in omega arith)
      (λ other. fits m l (sym (get_or-set_other lengths number m (Some len) None other) ∙ e)) (cases_eq m number)

  pub shelf_put : (after : List ℕ) (rest : List ℕ) (number len capacity : ℕ) → IsShelf size bytes lengths (rest ++ number ∷ []) capacity → length after ≡ length bytes → len ≤ size
      → IsShelf size after (set lengths number (Some len)) rest capacity
  shelf_put after rest number len capacity h long short =
      let spare = last_spare rest number capacity h in
      let as_many = length-set lengths number (Some len) in
      record {
        small = h.small;
        whole = long ∙ h.whole ∙ ap (λ n. n * size) (sym as_many);
        fits = λ m l e. fit_set number len m l spare.there short h.fits e;
        free = λ k l d.
            let free = h.free k (omega (arith, length_push rest number)) d in
            let same = get_or_append_left rest (number ∷ []) d k l in
            let there : get_or rest k d < length lengths = subst (λ n. n < length lengths) same free.0 in
            let vacant : get_or lengths (get_or rest k d) None ≡ None = subst (λ n. get_or lengths n None ≡ None) same free.1 in
            (omega (arith, as_many), get_or-set_other lengths number (get_or rest k d) (Some len) None (spare.once k d l) ∙ vacant);
        once = λ k o l m d e. h.once k o (omega (arith, length_push rest number)) (omega (arith, length_push rest number)) d (get_or_append_left rest (number ∷ []) d k l ∙ e ∙ sym (get_or_append_left rest (number ∷ []) d o m));
        counted =
            let step = sum_by-set (λ o. cond (is_some o) 1 0) lengths number (Some len) None spare.there in
            let none = unused spare.vacant in
            omega (arith, step, none, h.counted, length_push rest number, as_many);
        few = omega (arith, h.few, as_many);
        room = omega (arith, h.room, as_many);
      }

  pub shelf_freed : (spare : List ℕ) (number len capacity : ℕ) → IsShelf size bytes lengths spare capacity → get_or lengths number None ≡ Some len → number < length lengths
      → IsShelf size bytes (set lengths number None) (spare ++ number ∷ []) capacity
  shelf_freed spare number len capacity h is there =
      let as_many = length-set lengths number None in
      let another : (k d : ℕ) → k < length spare → get_or spare k d ≢ number = λ k d l e.
      let vacant : get_or lengths number None ≡ None = subst (λ n. get_or lengths n None ≡ None) e (h.free k l d).1 in cc in
      record {
        small = h.small;
        whole = h.whole ∙ ap (λ n. n * size) (sym as_many);
        fits = λ m l e.
            ⊎_elim (λ same. absurd (let at : get_or (set lengths number None) number None ≡ None = get_or-set_same lengths number None None there in
            let is : None ≡ Some l = sym at ∙ ap (λ n. get_or (set lengths number None) n None) (sym same) ∙ e in cc))
            (λ other. h.fits m l (sym (get_or-set_other lengths number m None None other) ∙ e)) (cases_eq m number);
        free = λ k l d.
            ⊎_elim (λ below.
            let same : get_or (spare ++ number ∷ []) k d ≡ get_or spare k d = get_or_append_left spare (number ∷ []) d k below in
            let free = h.free k below d in
            rw same (omega (arith, as_many, free.0), get_or-set_other lengths number (get_or spare k d) None None (another k d below) ∙ free.1))
            (λ end.
            let same : get_or (spare ++ number ∷ []) k d ≡ number = get_or_push spare number d k end in
            rw same (omega (arith, as_many, there), get_or-set_same lengths number None None there))
            (below_or_last spare number k l);
        once = λ k o l m d e. pushed_once spare number h.once another k o l m d e;
        counted =
            let step = sum_by-set (λ o. cond (is_some o) 1 0) lengths number None None there in
            let one = ap (λ o. one_used (is_some o)) is in
            omega (arith, step, one, h.counted, length_push spare number, as_many);
        few = omega (arith, h.few, as_many);
        room = omega (arith, h.room, as_many);
      }

  pub shelf_grown : (more spare : List ℕ) (before capacity : ℕ) → IsShelf size bytes lengths spare before → length more ≡ size → length lengths + 1 ≤ 2 ^ 32 → length lengths + 1 ≤ capacity
      → IsShelf size (bytes ++ more) (lengths ++ None ∷ []) (spare ++ length lengths ∷ []) capacity
  shelf_grown more spare before capacity h long few room =
      let longer = length_push lengths None in
      let another : (k d : ℕ) → k < length spare → get_or spare k d ≢ length lengths = λ k d l e. omega (arith, (h.free k l d).0) in
      record {
        small = h.small;
        whole = omega (arith, length-append bytes more, suc-mul (length lengths) size, h.whole, ap (λ n. n * size) longer);
        fits = λ m l e.
            let there = some_there (lengths ++ None ∷ []) m l e in
            ⊎_elim (λ below. h.fits m l (sym (get_or_append_left lengths (None ∷ []) None m below) ∙ e))
            (λ end. absurd (let last = get_or_push lengths None None m end in cc)) (below_or_last lengths None m there);
        free = λ k l d.
            ⊎_elim (λ below.
            let same : get_or (spare ++ length lengths ∷ []) k d ≡ get_or spare k d = get_or_append_left spare (length lengths ∷ []) d k below in
            let free = h.free k below d in
            rw same (omega (arith, longer, free.0), get_or_append_left lengths (None ∷ []) None (get_or spare k d) free.0 ∙ free.1))
            (λ end.
            let same : get_or (spare ++ length lengths ∷ []) k d ≡ length lengths = get_or_push spare (length lengths) d k end in
            rw same (omega (arith, longer), get_or_push lengths None None (length lengths) refl))
            (below_or_last spare (length lengths) k l);
        once = λ k o l m d e. pushed_once spare (length lengths) h.once another k o l m d e;
        counted = omega (arith, h.counted, length_push spare (length lengths), longer, sum_by_push (λ o. cond (is_some o) 1 0) lengths None);
        few = omega (arith, longer);
        room = omega (arith, longer);
      }
