-- How the numbers of pages follow a page that comes in the place of another.
use Rattle.std.proofs.Common.{◌≡◌, ℕ, ◌+◌, ◌-◌, ◌<◌, ◌≤◌, Bool, true, false, cond, List, [], ◌∷◌, ◌||◌, refl, sym, ◌∙◌, ap, arith}
use Rattle.std.specs.FinMap as map
use Rattle.std.specs.Ordering.{eq_by_cmp}
use Rattle.std.proofs.lemmas.List.Sums.{sum_by-cons}
use Rattle.sorted_sets.specs.{Counting.one_if, Rising.IsRising, Rising.has}
use Rattle.sorted_sets.proofs.{Bools.equal, Rising.has-above, Rising.same_rising}
use Rattle.slot_index.proofs.Mapped.{rising_keys}
use Rattle.entity_model.specs.{declared.id.EntityId.EntityId, EntityId.entity_cmp, EntityId.entity_cmp_total, EntityId.entity_cmp_same}
use Rattle.entity_counts.specs.Naming.{Naming, is_counted, pages_naming, times_in}
use Rattle.lean_holdings.specs.Holding.{counted_by}

-- an entity stands in a rising list once at most
pub times_once : (y : EntityId) (ids : List EntityId) → IsRising entity_cmp ids → times_in y ids ≡ one_if (has entity_cmp y ids)
times_once y [] rises = refl
times_once y (x ∷ ids) rises = sum_by-cons (λ z. cond (eq_by_cmp entity_cmp y z) 1 0) x ids ∙ by (eq_by_cmp entity_cmp y x) refl (times_once y ids rises.1)
  where
    by : (b : Bool) → eq_by_cmp entity_cmp y x ≡ b → times_in y ids ≡ one_if (has entity_cmp y ids) → cond b 1 0 + times_in y ids ≡ one_if (b || has entity_cmp y ids)
    by true is rest =
        let none : has entity_cmp y ids ≡ false = ap (λ z. has entity_cmp z ids) (entity_cmp_same y x (equal _ is)) ∙ has-above entity_cmp x ids rises.0 in
        let zero : times_in y ids ≡ 0 = rest ∙ ap one_if none in
        omega arith
    by false is rest = omega arith

-- the same entities are counted
pub counted_same : (names names2 : Naming) → ((x : EntityId) → is_counted names2 x ≡ is_counted names x) → counted_by names2 ≡ counted_by names
counted_same names names2 same = same_rising entity_cmp_total entity_cmp_same (map.keys names2) (map.keys names)
    (rising_keys entity_cmp (map.entries names2) (map.entries_sorted names2))
    (rising_keys entity_cmp (map.entries names) (map.entries_sorted names))
    (λ y. sym (map.contains_key-keys names2 y) ∙ same y ∙ map.contains_key-keys names y)

at_most_one : (b : Bool) → one_if b ≤ 1
at_most_one true = omega arith
at_most_one false = omega arith

-- one page more can be counted
pub few_more : (names : Naming) (ids : List EntityId) (x : EntityId) → IsRising entity_cmp ids → pages_naming names x < 18446744073709551615 → pages_naming names x + times_in x ids < 18446744073709551616
few_more names ids x rises few =
    let once : times_in x ids ≡ one_if (has entity_cmp x ids) = times_once x ids rises in
    let one : one_if (has entity_cmp x ids) ≤ 1 = at_most_one (has entity_cmp x ids) in
    omega arith

-- the page that goes names an entity no longer, and the one that comes does
pub names_move : (n n1 n2 : ℕ) (gone come : List EntityId) (x : EntityId) → IsRising entity_cmp gone → IsRising entity_cmp come
    → n1 ≡ n + times_in x come → n2 ≡ n1 - times_in x gone → (has entity_cmp x gone ≡ true → 0 < n)
    → n2 + one_if (has entity_cmp x gone) ≡ n + one_if (has entity_cmp x come)
names_move n n1 n2 gone come x gone_rise come_rise more less named =
    by (has entity_cmp x gone) (times_once x gone gone_rise) named
  where
    by : (b : Bool) → times_in x gone ≡ one_if b → (b ≡ true → 0 < n) → n2 + one_if b ≡ n + one_if (has entity_cmp x come)
    by true once some =
        let here : 0 < n = some refl in
        let came : times_in x come ≡ one_if (has entity_cmp x come) = times_once x come come_rise in
        omega arith
    by false once some =
        let came : times_in x come ≡ one_if (has entity_cmp x come) = times_once x come come_rise in
        omega arith
