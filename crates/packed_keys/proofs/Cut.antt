-- A full block with one key more, in two.
use Rattle.std.proofs.Common.{◌≡◌, ◌∙◌, ℕ, ◌≤◌, List, ◌++◌, length, take, drop, ap, arith}
use Rattle.std.specs.List.{insert}
use Rattle.std.proofs.lemmas.List.{length-drop, length-take-le, take-append-drop}
use Rattle.std.proofs.lemmas.List.Edits.{length-insert}
use Rattle.slot_keys.specs.declared.key.Key.{Key}
use Rattle.packed_keys.specs.Rows.{IsFilled}

pub one_more_than_full : (keys all : List Key) (at : ℕ) (key : Key) → length keys ≡ 128 → at ≤ 128 → all ≡ insert keys at key → length all ≡ 129
one_more_than_full keys all at key full within is =
    let longer = length-insert keys at key (omega arith) in
    let same = ap length is in
    omega arith

pub cut_in_two : (all low high : List Key) → length all ≡ 129 → low ≡ take 64 all → high ≡ drop 64 all → (low ++ high ≡ all) × IsFilled low × IsFilled high
cut_in_two all low high len low_is high_is =
    let short = length-take-le 64 all (omega arith) in
    let low_len = ap length low_is in
    let high_len = ap length high_is in
    let rest = length-drop 64 all in (
      ap (λ l. l ++ high) low_is ∙ ap (λ l. take 64 all ++ l) high_is ∙ take-append-drop 64 all,
      (omega arith, omega arith),
      (omega arith, omega arith),
    )
