-- What changes cost, one after the other.
use Rattle.std.proofs.Common.{◌≡◌, ℕ, zero, suc, ◌+◌, ◌-◌, ◌*◌, ◌^◌, ◌<◌, ◌≤◌, Bool, true, false, cond, Option, Some, None, Ordering, is_some, unwrap_or, refl, ◌∙◌, ap, arith}
use Rattle.std.proofs.Math.Nat.{mul-le-mul_left}
use Rattle.std.specs.Cmp.{IsTotalOrder}
use Rattle.std.specs.FinMap as map
use Rattle.comparison_steps.specs.Steps.{WithinSteps}
use Rattle.slot_keys.specs.{declared.key.Key.Key, Keys.key_cmp-total}
use Rattle.slot_index.specs.Counts.{KeyCounts, count_of, lowered, raised, with_count}
use Rattle.triple_catalog.specs.Costs.{Costs}

-- ---- how many are stored

module _ {K : Type 0} {R : K → K → Ordering} (o : IsTotalOrder R) where
  one_if_new : (b : Bool) (n m : ℕ) → m ≡ cond b n (n + 1) → m ≤ n + 1
  one_if_new true n m e = omega arith
  one_if_new false n m e = omega arith

  none_more : (b : Bool) (n m : ℕ) → m ≡ cond b (n - 1) n → m ≤ n
  none_more true n m e = omega arith
  none_more false n m e = omega arith

  len-with_count : (counts : map.FinMap R ℕ) (k : K) (n : ℕ) → map.len (with_count counts k n) ≤ map.len counts + 1
  len-with_count counts k zero = let less = none_more (map.contains_key counts k) (map.len counts) _ (map.len-remove o counts k) in omega arith
  len-with_count counts k (suc n) = one_if_new (map.contains_key counts k) (map.len counts) _ (map.len-insert o counts k (suc n))

  len-kept : (counts : map.FinMap R ℕ) (k : K) (n : ℕ) → (0 < n → map.contains_key counts k ≡ true) → map.len (with_count counts k n) ≤ map.len counts
  len-kept counts k zero there = none_more (map.contains_key counts k) (map.len counts) _ (map.len-remove o counts k)
  len-kept counts k (suc n) there =
      let same : map.len (map.insert counts k (suc n)) ≡ map.len counts = map.len-insert o counts k (suc n) ∙ ap (λ b. cond b (map.len counts) (map.len counts + 1)) (there (omega arith)) in
      omega arith

  some_count : (v : Option ℕ) → 0 < unwrap_or v 0 - 1 → is_some v ≡ true
  some_count None some = absurd (omega arith)
  some_count (Some n) some = refl

  -- one more is stored at most, and none more
  len-raised : (counts : map.FinMap R ℕ) (k : K) → map.len (raised counts k) ≤ map.len counts + 1
  len-raised counts k = len-with_count counts k (count_of counts k + 1)

  len-lowered : (counts : map.FinMap R ℕ) (k : K) → map.len (lowered counts k) ≤ map.len counts
  len-lowered counts k = len-kept counts k (count_of counts k - 1) (some_count (map.get counts k))

-- ---- one change

-- nothing came, and nothing went
pub no_change : (n before : ℕ) → Costs n n 0 0 before before
no_change n before = record { forward = omega arith; grown = omega arith; within = λ d few. omega arith }

-- none came after all
pub none_came : (n before after : ℕ) → before ≤ after → ((d : ℕ) → n + 1 < 2 ^ d → after ≤ before + 5 * (d + 8)) → Costs n n 1 0 before after
none_came n before after on h = record { forward = on; grown = omega arith; within = λ d few. omega (arith, h d few) }

pub one_came : (counts new : KeyCounts) (key : Key) (before after : ℕ) → new ≡ raised counts key → before ≤ after → ((d : ℕ) → map.len counts + 1 < 2 ^ d → after ≤ before + 5 * (d + 8)) → Costs (map.len counts) (map.len new) 1 0 before after
one_came counts new key before after is on h = record {
  forward = on;
  grown = omega (arith, ap map.len is, len-raised key_cmp-total counts key);
  within = λ d few. omega (arith, h d few);
}

pub one_went : (counts new : KeyCounts) (key : Key) (before after : ℕ) → new ≡ lowered counts key → before ≤ after → ((d : ℕ) → map.len counts < 2 ^ d → after ≤ before + 3 * (d + 8)) → Costs (map.len counts) (map.len new) 0 1 before after
one_went counts new key before after is on h = record {
  forward = on;
  grown = omega (arith, ap map.len is, len-lowered key_cmp-total counts key);
  within = λ d few. omega (arith, h d (omega arith));
}

-- ---- several

-- one after the other
pub both : (n m k a b x y before mid after : ℕ) → Costs n m a x before mid → Costs m k b y mid after → Costs n k (a + b) (x + y) before after
both n m k a b x y before mid after f g =
    let first = f.grown in
    let second = g.grown in
    record {
      forward = omega (arith, f.forward, g.forward);
      grown = omega arith;
      within = λ d few. omega (arith, f.within d (omega arith), g.within d (omega arith));
    }

-- more are allowed
pub at_most : (n m a b x y before after : ℕ) → a ≤ b → x ≤ y → Costs n m a x before after → Costs n m b y before after
at_most n m a b x y before after le go h =
    let first = h.grown in
    record {
      forward = h.forward;
      grown = omega arith;
      within = λ d few. omega (arith, h.within d (omega arith), mul-le-mul_left (d + 8) le, mul-le-mul_left (d + 8) go);
    }

-- nothing changed, whatever is allowed
pub nothing : (n a x before : ℕ) → Costs n n a x before before
nothing n a x before = at_most n n 0 a 0 x before before (omega arith) (omega arith) (no_change n before)

-- a look-up is allowed where one goes
looked_up : (n before after : ℕ) → WithinSteps n 8 before after → Costs n n 0 1 before after
looked_up n before after h = record { forward = h.0; grown = omega arith; within = λ d few. omega (arith, h.1 d (omega arith)) }

pub one_looked_up : (n i before mid after : ℕ) → Costs n n 0 i before mid → WithinSteps n 8 mid after → Costs n n 0 (i + 1) before after
one_looked_up n i before mid after h look = both n n n 0 0 i 1 before mid after h (looked_up n mid after look)
