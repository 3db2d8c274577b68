-- What stands before the rest that a skip leaves, and which rest it leaves.
use Rattle.std.proofs.Common.{◌≡◌, ℕ, ◌-◌, ◌≤◌, Bool, true, false, not, cond, List, [], ◌∷◌, ◌++◌, length, refl, ap, arith, length-append}
use Rattle.std.proofs.Math.Seq.{take-append_seam}
use Rattle.json_spell.specs.Number.{EachPasses, IsOptional}
use Rattle.json_spell.specs.Reading.{skip, skip_one, before}
use Rattle.json_spell.proofs.Opened.{Found}

-- no byte that passes the test stands at the front
abbrev pub stops : (ℕ → Bool) → List ℕ → Bool
stops test [] = true
stops test (x ∷ s) = not (test x)

skip-split-at : (test : ℕ → Bool) (x : ℕ) (s : List ℕ) (b : Bool) → test x ≡ b → Found (EachPasses test) s (skip test s) → Found (EachPasses test) (x ∷ s) (cond b (skip test s) (x ∷ s))
skip-split-at test x s true e f = record { text = x ∷ f.text; holds = (e, f.holds); is = ap (λ r. x ∷ r) f.is }
skip-split-at test x s false e f = record { text = []; holds = tt; is = refl }

pub skip-split : (test : ℕ → Bool) (s : List ℕ) → Found (EachPasses test) s (skip test s)
skip-split test [] = record { text = []; holds = tt; is = refl }
skip-split test (x ∷ s) = skip-split-at test x s (test x) refl (skip-split test s)

pub skip-all : (test : ℕ → Bool) (x r : List ℕ) → EachPasses test x → stops test r ≡ true → skip test (x ++ r) ≡ r
skip-all test [] [] h e = refl
skip-all test [] (y ∷ r) h e = skip-none (test y) e
  where
    skip-none : (b : Bool) → not b ≡ true → cond b (skip test r) (y ∷ r) ≡ y ∷ r
    skip-none true e = absurd cc
    skip-none false e = refl
skip-all test (y ∷ x) r h e = rw (h.0) (skip-all test x r h.1 e)

-- what a skip leaves is no longer
pub skip-le : (test : ℕ → Bool) (s : List ℕ) → length (skip test s) ≤ length s
skip-le test s = let f = skip-split test s in let e : length s ≡ length (f.text ++ skip test s) = ap length f.is in omega (arith, length-append f.text (skip test s))

skip-stops-at : (test : ℕ → Bool) (x : ℕ) (s : List ℕ) (b : Bool) → test x ≡ b → stops test (skip test s) ≡ true → stops test (cond b (skip test s) (x ∷ s)) ≡ true
skip-stops-at test x s true e h = h
skip-stops-at test x s false e h = ap not e

pub skip-stops : (test : ℕ → Bool) (s : List ℕ) → stops test (skip test s) ≡ true
skip-stops test [] = refl
skip-stops test (x ∷ s) = skip-stops-at test x s (test x) refl (skip-stops test s)

skip_one-split-at : (test : ℕ → Bool) (x : ℕ) (s : List ℕ) (b : Bool) → test x ≡ b → Found (IsOptional test) (x ∷ s) (cond b s (x ∷ s))
skip_one-split-at test x s true e = record { text = x ∷ []; holds = (e, refl); is = refl }
skip_one-split-at test x s false e = record { text = []; holds = tt; is = refl }

pub skip_one-split : (test : ℕ → Bool) (s : List ℕ) → Found (IsOptional test) s (skip_one test s)
skip_one-split test [] = record { text = []; holds = tt; is = refl }
skip_one-split test (x ∷ s) = skip_one-split-at test x s (test x) refl

skip_one-none : (b : Bool) (s t : List ℕ) → not b ≡ true → cond b s t ≡ t
skip_one-none true s t e = absurd cc
skip_one-none false s t e = refl

pub skip_one-all : (test : ℕ → Bool) (x r : List ℕ) → IsOptional test x → stops test r ≡ true → skip_one test (x ++ r) ≡ r
skip_one-all test [] [] h e = refl
skip_one-all test [] (y ∷ r) h e = skip_one-none (test y) r (y ∷ r) e
skip_one-all test (y ∷ x) r h e = rw (h.0, h.1) refl

-- the bytes before what is left are those that were read
pub before-append : (x r : List ℕ) → before r (x ++ r) ≡ x
before-append x r = let e : length (x ++ r) - length r ≡ length x = omega (arith, length-append x r) in rw e (take-append_seam x r)
