-- Triples of slots, their order and their turns.
use Rattle.std.specs.Prelude.{◌^◌, ◌<◌, Bool}
use Rattle.std.specs.declared.cmp.Ordering.{Ordering}
use Rattle.std.specs.Ordering.{nat_cmp, on, then_cmp, eq_by_cmp}
use Rattle.std.specs.Cmp.{IsTotalOrder, nat_cmp_total, on_total, then_total}
use Rattle.std.specs.FinMap.{IsAntisymmetric, nat_cmp-IsAntisymmetric}
use Rattle.sorted_sets.proofs.Bools.{then_first, then_second}
use Rattle.slot_keys.specs.declared.key.Key.{Key}

-- by the first slot, then the second, then the third
abbrev pub key_cmp : Key → Key → Ordering
key_cmp = then_cmp (on (λ key. key.first) nat_cmp) (then_cmp (on (λ key. key.second) nat_cmp) (on (λ key. key.third) nat_cmp))

-- the order is total
pub key_cmp-total : IsTotalOrder key_cmp
key_cmp-total =
    then_total (on_total (λ key. key.first) nat_cmp_total)
    (then_total (on_total (λ key. key.second) nat_cmp_total) (on_total (λ key. key.third) nat_cmp_total))

-- only equal triples tie
pub key_cmp-IsAntisymmetric : IsAntisymmetric key_cmp
key_cmp-IsAntisymmetric a b e =
    let rest = then_second (nat_cmp a.first b.first) _ e in
    let first = nat_cmp-IsAntisymmetric a.first b.first (then_first _ _ e) in
    let second = nat_cmp-IsAntisymmetric a.second b.second (then_first _ _ rest) in
    let third = nat_cmp-IsAntisymmetric a.third b.third (then_second (nat_cmp a.second b.second) _ rest) in
    λ i. record { first = first i; second = second i; third = third i }

abbrev pub same_key : Key → Key → Bool
same_key = eq_by_cmp key_cmp

-- the first slot at the end; three turns give the triple back
abbrev pub turned : Key → Key
turned key = record { first = key.second; second = key.third; third = key.first }

-- slots have 32 bits
abbrev pub FitsSlots : Key → Type 0
FitsSlots key = (key.first < 2 ^ 32) × (key.second < 2 ^ 32) × (key.third < 2 ^ 32)
