-- What the lanes of a vector say of the bytes in it, and how far a run goes.
use Rattle.std.proofs.Common.{◌≡◌, ℕ, zero, suc, ◌+◌, ◌%◌, ◌^◌, ◌<◌, ◌≤◌, ltb, Bool, true, false, ◌||◌, cond, List, [], ◌∷◌, map, length, take, drop, replicate, refl, ap, ap₂, ◌∙◌, arith}
use Rattle.std.proofs.lemmas.Simd.{mask_l-mod}
use Rattle.std.proofs.lemmas.List.{length-map}
use Rattle.std.specs.List.{prefix_len}
use lib.Bits.{bit_or}
use lib.Lanes.{zip2, mask_l, top}
use Rattle.json_spell.specs.Reading.{skip}

-- the lane of a test
abbrev pub flag : Bool → ℕ
flag b = cond b 255 0

or-flags : (a b : Bool) → bit_or (flag a) (flag b) ≡ flag (a || b)
or-flags true true = refl
or-flags true false = refl
or-flags false true = refl
or-flags false false = refl

zip-flags : (p q : ℕ → Bool) (v : List ℕ) → zip2 bit_or (map (λ x. flag (p x)) v) (map (λ x. flag (q x)) v) ≡ map (λ x. flag (p x || q x)) v
zip-flags p q [] = refl
zip-flags p q (x ∷ v) = ap₂ (λ y ys. y ∷ ys) (or-flags (p x) (q x)) (zip-flags p q v)

pub either : (p q : ℕ → Bool) (v : List ℕ) {a b : List ℕ} → a ≡ map (λ x. flag (p x)) v → b ≡ map (λ x. flag (q x)) v → zip2 bit_or a b ≡ map (λ x. flag (p x || q x)) v
either p q v e f = ap₂ (zip2 bit_or) e f ∙ zip-flags p q v

above-at : (y : ℕ) (v : List ℕ) → zip2 (λ a b. flag (ltb a b)) (replicate (length v) y) v ≡ map (λ x. flag (ltb y x)) v
above-at y [] = refl
above-at y (x ∷ v) = ap (λ r. flag (ltb y x) ∷ r) (above-at y v)

pub above : (y n : ℕ) (v : List ℕ) → n ≡ length v → zip2 (λ a b. flag (ltb a b)) (replicate n y) v ≡ map (λ x. flag (ltb y x)) v
above y n v long = ap (λ k. zip2 (λ a b. flag (ltb a b)) (replicate k y) v) long ∙ above-at y v

top-flag : (b : Bool) → top 7 (flag b) ≡ b
top-flag true = refl
top-flag false = refl

tops : (p : ℕ → Bool) (v : List ℕ) → map (top 7) (map (λ x. flag (p x)) v) ≡ map p v
tops p [] = refl
tops p (x ∷ v) = ap₂ (λ y ys. y ∷ ys) (top-flag (p x)) (tops p v)

pub masked : (p : ℕ → Bool) (v z : List ℕ) → length v ≤ 64 → z ≡ map (λ x. flag (p x)) v → mask_l (map (top 7) z) % 2 ^ 64 ≡ mask_l (map p v)
masked p v z short e =
    ap (λ l. mask_l (map (top 7) l) % 2 ^ 64) e ∙ ap (λ l. mask_l l % 2 ^ 64) (tops p v) ∙ mask_l-mod (map p v) 64 (omega (arith, length-map v p))

drop-more : (k x : ℕ) (s : List ℕ) → drop (1 + k) (x ∷ s) ≡ drop k s
drop-more k x s = let one : 1 + k ≡ suc k = omega arith in ap (λ n. drop n (x ∷ s)) one

-- past what passes within the first bytes
pub skip-past : (test : ℕ → Bool) (n : ℕ) (s : List ℕ) → skip test (drop (prefix_len test (take n s)) s) ≡ skip test s
skip-past test zero s = refl
skip-past test (suc n) [] = refl
skip-past test (suc n) (x ∷ s) = at (skip-past test n s) (test x) refl
  where
    at : skip test (drop (prefix_len test (take n s)) s) ≡ skip test s → (b : Bool) → test x ≡ b → skip test (drop (cond b (1 + prefix_len test (take n s)) 0) (x ∷ s)) ≡ cond b (skip test s) (x ∷ s)
    at behind true e = ap (skip test) (drop-more (prefix_len test (take n s)) x s) ∙ behind
    at behind false e = rw e refl

-- where one of them stops it
pub skip-within : (test : ℕ → Bool) (n : ℕ) (s : List ℕ) → n ≤ length s → prefix_len test (take n s) < n → drop (prefix_len test (take n s)) s ≡ skip test s
skip-within test zero s l h = absurd (omega arith)
skip-within test (suc n) [] l h = absurd (omega arith)
skip-within test (suc n) (x ∷ s) l h = at (skip-within test n s (omega arith)) (test x) h
  where
    at : (prefix_len test (take n s) < n → drop (prefix_len test (take n s)) s ≡ skip test s) → (b : Bool) → cond b (1 + prefix_len test (take n s)) 0 < suc n → drop (cond b (1 + prefix_len test (take n s)) 0) (x ∷ s) ≡ cond b (skip test s) (x ∷ s)
    at behind true k = drop-more (prefix_len test (take n s)) x s ∙ behind (omega arith)
    at behind false k = refl
