-- Numbers of a frame are ordered as their keys are.
use Rattle.std.proofs.Common.{◌≡◌, ◌∙◌, ℕ, ◌+◌, ◌*◌, ◌/◌, ◌%◌, ◌^◌, ◌<◌, ◌≤◌, Ordering, Less, Equal, Greater, Result, List, length, map, get_or, nat_cmp, refl, ap, sym, subst, arith, ⊎_elim}
use Rattle.std.specs.{List.All, Ordering.ordering_then}
use Rattle.std.proofs.lemmas.Bool.{cases_order, Decides.nat_tests}
use Rattle.std.proofs.lemmas.List.{length-map}
use Rattle.std.proofs.lemmas.Nat.{mul-add-lt, pow_pos, shr_split}
use Rattle.slot_keys.specs.{declared.key.Key.Key, Keys.key_cmp}
use Rattle.packed_keys.specs.declared.frame.Frame.{Frame}
use Rattle.packed_keys.specs.Frames.{IsIn, key_at, slot_above}
use Rattle.packed_keys.specs.Search.{EndsAt, IsAfter}
use Rattle.packed_keys.proofs.Numbers.{above_least}
use Rattle.packed_keys.proofs.Searching.{AreAlike, cells_after, ends_as_keys}

is_less : (x y : ℕ) → x < y → nat_cmp x y ≡ Less
is_less x y h = grind (arith, nat_tests)

is_equal : (x : ℕ) → nat_cmp x x ≡ Equal
is_equal x = grind (arith, nat_tests)

is_greater : (x y : ℕ) → y < x → nat_cmp x y ≡ Greater
is_greater x y h = grind (arith, nat_tests)

then_assoc : (a b c : Ordering) → ordering_then (ordering_then a b) c ≡ ordering_then a (ordering_then b c)
then_assoc Less b c = refl
then_assoc Equal b c = refl
then_assoc Greater b c = refl

-- two numbers with the same one added
shifted : (k x y : ℕ) → nat_cmp (k + x) (k + y) ≡ nat_cmp x y
shifted k x y = ⊎_elim
    (λ (same : x ≡ y). ap (λ n. nat_cmp (k + x) (k + n)) (sym same) ∙ is_equal (k + x) ∙ sym (is_equal x) ∙ ap (nat_cmp x) same)
    (λ other. ⊎_elim
    (λ (l : x < y). is_less (k + x) (k + y) (omega arith) ∙ sym (is_less x y l))
    (λ (g : y < x). is_greater (k + x) (k + y) (omega arith) ∙ sym (is_greater x y g))
    other)
    (cases_order x y)

-- numbers of two parts are ordered by the high one, then by the low one
two_parts : (p a b c d : ℕ) → b < p → d < p → nat_cmp (a * p + b) (c * p + d) ≡ ordering_then (nat_cmp a c) (nat_cmp b d)
two_parts p a b c d lb ld = ⊎_elim
    (λ (same : a ≡ c).
    ap (λ n. nat_cmp (a * p + b) (n * p + d)) (sym same)
    ∙ shifted (a * p) b d
    ∙ ap (λ o. ordering_then o (nat_cmp b d)) (sym (is_equal a) ∙ ap (nat_cmp a) same))
    (λ other. ⊎_elim
    (λ (l : a < c).
    let row : a * p + b < p * c = mul-add-lt a p b c l lb in
    is_less (a * p + b) (c * p + d) (omega arith) ∙ ap (λ o. ordering_then o (nat_cmp b d)) (sym (is_less a c l)))
    (λ (g : c < a).
    let row : c * p + d < p * a = mul-add-lt c p d a g ld in
    is_greater (a * p + b) (c * p + d) (omega arith) ∙ ap (λ o. ordering_then o (nat_cmp b d)) (sym (is_greater a c g)))
    other)
    (cases_order a c)

rest_below : (x k : ℕ) → x % 2 ^ k < 2 ^ k
rest_below x k = omega (arith, pow_pos k)

by_bits : (k x y : ℕ) → nat_cmp x y ≡ ordering_then (nat_cmp (x / 2 ^ k) (y / 2 ^ k)) (nat_cmp (x % 2 ^ k) (y % 2 ^ k))
by_bits k x y =
    (λ i. nat_cmp (sym (shr_split x k) i) (sym (shr_split y k) i))
    ∙ two_parts (2 ^ k) (x / 2 ^ k) (x % 2 ^ k) (y / 2 ^ k) (y % 2 ^ k) (rest_below x k) (rest_below y k)

-- slots that don't wrap are ordered as their distances
slots : (least a b : ℕ) → least + a < 2 ^ 32 → least + b < 2 ^ 32 → nat_cmp a b ≡ nat_cmp (slot_above least a) (slot_above least b)
slots least a b h k = sym ((λ i. nat_cmp (above_least least a (least + a) refl h i) (above_least least b (least + b) refl k i)) ∙ shifted least a b)

pub ordered : (f : Frame) (m n : ℕ) → IsIn f m → IsIn f n → nat_cmp m n ≡ key_cmp (key_at f m) (key_at f n)
ordered f m n h k =
    let first = slots f.least.first (m / 2 ^ f.third / 2 ^ f.second) (n / 2 ^ f.third / 2 ^ f.second) h.0 k.0 in
    let second = slots f.least.second (m / 2 ^ f.third % 2 ^ f.second) (n / 2 ^ f.third % 2 ^ f.second) h.1 k.1 in
    let third = slots f.least.third (m % 2 ^ f.third) (n % 2 ^ f.third) h.2 k.2 in
    by_bits f.third m n
    ∙ ap (λ o. ordering_then o (nat_cmp (m % 2 ^ f.third) (n % 2 ^ f.third))) (by_bits f.second (m / 2 ^ f.third) (n / 2 ^ f.third))
    ∙ then_assoc (nat_cmp (m / 2 ^ f.third / 2 ^ f.second) (n / 2 ^ f.third / 2 ^ f.second)) (nat_cmp (m / 2 ^ f.third % 2 ^ f.second) (n / 2 ^ f.third % 2 ^ f.second)) (nat_cmp (m % 2 ^ f.third) (n % 2 ^ f.third))
    ∙ (λ i. ordering_then (first i) (ordering_then (second i) (third i)))

-- so a search for a number among cells is one for its key among the keys that they stand for
module _ {C : Type 0} (number_of : C → ℕ) (f : Frame) (n : ℕ) (key : Key) (fits : IsIn f n) (stands : key_at f n ≡ key) (cells run : List C) (keys : List Key)
    (inside : All (λ cell. IsIn f (number_of cell)) cells) (view : map (λ cell. key_at f (number_of cell)) cells ≡ keys) (same : run ≡ cells) where
  alike : AreAlike (λ cell. key_at f (number_of cell)) (λ cell. nat_cmp n (number_of cell)) (key_cmp key) cells
  alike i d l = ordered f n (number_of (get_or cells i d)) fits (inside i d l) ∙ ap (λ k. key_cmp k (key_at f (number_of (get_or cells i d)))) stands

  pub as_long : length run ≡ length keys
  as_long = ap length same ∙ sym (length-map cells (λ cell. key_at f (number_of cell))) ∙ ap length view

  pub above_in_run : (low : ℕ) → low ≤ length keys → IsAfter (key_cmp key) keys low → IsAfter (λ cell. nat_cmp n (number_of cell)) run low
  above_in_run low within h =
      let long = as_long in
      let short = ap length same in
      subst (λ l. IsAfter (λ cell. nat_cmp n (number_of cell)) l low) (sym same)
      (cells_after (λ cell. key_at f (number_of cell)) (λ cell. nat_cmp n (number_of cell)) (key_cmp key) cells low alike (omega arith)
      (subst (λ l. IsAfter (key_cmp key) l low) (sym view) h))

  pub ends_at_key : (low : ℕ) (r : Result ℕ ℕ) → EndsAt (λ cell. nat_cmp n (number_of cell)) run low r → EndsAt (key_cmp key) keys low r
  ends_at_key low r h =
      subst (λ l. EndsAt (key_cmp key) l low r) view
      (ends_as_keys (λ cell. key_at f (number_of cell)) (λ cell. nat_cmp n (number_of cell)) (key_cmp key) cells low r alike
      (subst (λ l. EndsAt (λ cell. nat_cmp n (number_of cell)) l low r) same h))
