-- A key's number stands for the key, and numbers are ordered as their keys are.
use Rattle.std.proofs.Common.{◌≡◌, ◌∙◌, ℕ, ◌+◌, ◌*◌, ◌/◌, ◌%◌, ◌^◌, ◌<◌, ap, subst, sym, arith}
use Rattle.std.proofs.lemmas.Nat.{div-mul-add, mod-mul-add}
use Rattle.slot_keys.specs.declared.key.Key.{Key}
use Rattle.packed_keys.specs.declared.frame.Frame.{Frame}
use Rattle.packed_keys.specs.Frames.{IsIn, key_at, slot_above}

-- a number below the modulus is its own rest
rest_small : (n : ℕ) → n < 2 ^ 32 → n % 2 ^ 32 ≡ n
rest_small n h = omega arith

-- a slot that is so far above the least one
pub above_least : (least offset slot : ℕ) → least + offset ≡ slot → slot < 2 ^ 32 → slot_above least offset ≡ slot
above_least least offset slot e h =
    let small : offset < 2 ^ 32 = omega arith in
    ap (λ n. (least + n) % 2 ^ 32) (rest_small offset small) ∙ ap (λ n. n % 2 ^ 32) e ∙ rest_small slot h

-- a number of three parts
module _ (f : Frame) (a b c high number : ℕ) (lb : b < 2 ^ f.second) (lc : c < 2 ^ f.third) (eh : high ≡ a * 2 ^ f.second + b) (en : number ≡ high * 2 ^ f.third + c) where
  up : number / 2 ^ f.third ≡ a * 2 ^ f.second + b
  up = ap (λ n. n / 2 ^ f.third) en ∙ div-mul-add high (2 ^ f.third) c lc ∙ eh

  first_part : number / 2 ^ f.third / 2 ^ f.second ≡ a
  first_part = ap (λ n. n / 2 ^ f.second) up ∙ div-mul-add a (2 ^ f.second) b lb

  second_part : number / 2 ^ f.third % 2 ^ f.second ≡ b
  second_part = ap (λ n. n % 2 ^ f.second) up ∙ mod-mul-add a (2 ^ f.second) b lb

  third_part : number % 2 ^ f.third ≡ c
  third_part = ap (λ n. n % 2 ^ f.third) en ∙ mod-mul-add high (2 ^ f.third) c lc

  module _ (key : Key) (ea : f.least.first + a ≡ key.first) (eb : f.least.second + b ≡ key.second) (ec : f.least.third + c ≡ key.third) (ha : key.first < 2 ^ 32) (hb : key.second < 2 ^ 32) (hc : key.third < 2 ^ 32) where
    pub key_back : key_at f number ≡ key
    key_back =
        let first : slot_above f.least.first (number / 2 ^ f.third / 2 ^ f.second) ≡ key.first = ap (slot_above f.least.first) first_part ∙ above_least f.least.first a key.first ea ha in
        let second : slot_above f.least.second (number / 2 ^ f.third % 2 ^ f.second) ≡ key.second = ap (slot_above f.least.second) second_part ∙ above_least f.least.second b key.second eb hb in
        let third : slot_above f.least.third (number % 2 ^ f.third) ≡ key.third = ap (slot_above f.least.third) third_part ∙ above_least f.least.third c key.third ec hc in
        λ i. record { first = first i; second = second i; third = third i }

    pub is_in : IsIn f number
    is_in = (
      subst (λ n. f.least.first + n < 2 ^ 32) (sym first_part) (subst (λ n. n < 2 ^ 32) (sym ea) ha),
      subst (λ n. f.least.second + n < 2 ^ 32) (sym second_part) (subst (λ n. n < 2 ^ 32) (sym eb) hb),
      subst (λ n. f.least.third + n < 2 ^ 32) (sym third_part) (subst (λ n. n < 2 ^ 32) (sym ec) hc),
    )
