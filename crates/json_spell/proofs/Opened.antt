-- What the result of a step says about the steps that led to it.
use Rattle.std.proofs.Common.{◌≡◌, ℕ, Bool, true, false, cond, List, ◌++◌, Option, Some, None, option_map, ◌⊎◌, inl, inr, refl}
use Rattle.json_spell.specs.Reading.{◌>>=◌}

-- Some is one-to-one
pub some_is : {A : Type 0} {a b : A} → Some a ≡ Some b → a ≡ b
some_is {A} {a} {b} e = cc

-- a bind that gives something
pub bind_some : {A B : Type 0} (o : Option A) (f : A → Option B) {y : B} → (o >>= f) ≡ Some y → (x : A) × ((o ≡ Some x) × (f x ≡ Some y))
bind_some None f e = absurd cc
bind_some (Some x) f e = (x, (refl, e))

-- a map that gives something
pub map_some : {A B : Type 0} (f : A → B) (o : Option A) {y : B} → option_map f o ≡ Some y → (x : A) × ((o ≡ Some x) × (f x ≡ y))
map_some f None e = absurd cc
map_some f (Some x) e = (x, (refl, some_is e))

-- which way a choice went
pub chosen : {A : Type 0} (b : Bool) {x y z : A} → cond b x y ≡ z → ((b ≡ true) × (x ≡ z)) ⊎ ((b ≡ false) × (y ≡ z))
chosen true e = inl (refl, e)
chosen false e = inr (refl, e)

-- a guard that let something through
pub guarded : {A : Type 0} (b : Bool) {o : Option A} {y : A} → cond b o None ≡ Some y → (b ≡ true) × (o ≡ Some y)
guarded true e = (refl, e)
guarded false e = absurd cc

-- a text of a kind at the front, and what is left
pub record Found (P : List ℕ → Type 0) (s rest : List ℕ) : Type 0 where
  pub text : List ℕ
  pub holds : P text
  pub is : s ≡ text ++ rest
