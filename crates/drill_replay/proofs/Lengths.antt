-- How many deliveries a drill has.
use Rattle.std.proofs.Common.{◌≡◌, ◌∙◌, refl, ap, ℕ, suc, zero, ◌+◌, ◌*◌, ◌/◌, ◌%◌, Bool, true, false, ◌==◌, cond, List, [], ◌++◌, length, length-append, arith}
use Rattle.std.specs.List.{flat_map, range_with_len}
use Rattle.drill_replay.specs.Drill.{edits, deletion, late_edit, item_deliveries, drill}

-- three for each number up to n, one more for each fifth, and two more for each tenth
abbrev count_to : ℕ → ℕ
count_to n = 3 * n + n / 5 + 2 * (n / 10)

-- how long a list is that is there or not
length_chosen : {A : Type 0} (b : Bool) (xs : List A) → length (cond b xs []) ≡ cond b (length xs) 0
length_chosen true xs = refl
length_chosen false xs = refl

-- one fifth more where 5 divides the next number
fifth : (i : ℕ) (b : Bool) → ((i + 1) % 5 == 0) ≡ b → cond b 1 0 + i / 5 ≡ (i + 1) / 5
fifth i true is = grind arith
fifth i false is = grind arith

-- two more where 10 divides the next number
tenth : (i : ℕ) (b : Bool) → ((i + 1) % 10 == 0) ≡ b → cond b 2 0 + 2 * (i / 10) ≡ 2 * ((i + 1) / 10)
tenth i true is = grind arith
tenth i false is = grind arith

-- how many deliveries the next number has
of_one : (i : ℕ) → length (item_deliveries (i + 1)) + count_to i ≡ count_to (i + 1)
of_one i =
    let joined : length (item_deliveries (i + 1)) ≡ length (edits (i + 1)) + length (deletion (i + 1)) + length (late_edit (i + 1)) =
    length-append (edits (i + 1) ++ deletion (i + 1)) (late_edit (i + 1)) ∙ ap (λ n. n + length (late_edit (i + 1))) (length-append (edits (i + 1)) (deletion (i + 1))) in
    let deleted : length (deletion (i + 1)) ≡ cond ((i + 1) % 5 == 0) 1 0 = length_chosen ((i + 1) % 5 == 0) _ in
    let late : length (late_edit (i + 1)) ≡ cond ((i + 1) % 10 == 0) 2 0 = length_chosen ((i + 1) % 10 == 0) _ in
    let three : length (edits (i + 1)) ≡ 3 = refl in
    omega (arith, joined, deleted, late, three, fifth i _ refl, tenth i _ refl)

-- how many deliveries the n numbers after a have
from : (a n : ℕ) → length (flat_map item_deliveries (range_with_len (a + 1) n)) + count_to a ≡ count_to (a + n)
from a zero =
    let same : a ≡ a + zero = omega arith in
    let ends : count_to a ≡ count_to (a + zero) = ap count_to same in
    omega (arith, ends)
from a (suc n) =
    let joined : length (flat_map item_deliveries (range_with_len (a + 1) (suc n)))
    ≡ length (item_deliveries (a + 1)) + length (flat_map item_deliveries (range_with_len (a + 1 + 1) n)) =
    length-append (item_deliveries (a + 1)) (flat_map item_deliveries (range_with_len (a + 1 + 1) n)) in
    let same : a + 1 + n ≡ a + suc n = omega arith in
    let ends : count_to (a + 1 + n) ≡ count_to (a + suc n) = ap count_to same in
    omega (arith, joined, of_one a, from (a + 1) n, ends)

-- how many deliveries a whole drill has
pub drill_length : (n : ℕ) → length (drill n) ≡ 3 * n + n / 5 + 2 * (n / 10)
drill_length n =
    let same : 0 + n ≡ n = omega arith in
    let ends : count_to (0 + n) ≡ count_to n = ap count_to same in
    omega (arith, from 0 n, ends)
