-- The triples that one list has more often than another, by their rows.
use Rattle.std.proofs.Common.{◌≡◌, ℕ, ◌+◌, ◌<◌, ◌≤◌, Bool, true, false, cond, ◌&&◌, List, [], ◌∷◌, ◌++◌, length, take, get_or, nat_lt, filter, is_eq, refl, sym, ◌∙◌, ap, arith}
use Rattle.std.specs.Prelude.{count_by, map}
use Rattle.std.specs.List.{All}
use Rattle.std.specs.List.Sorted.{IsPermutation}
use Rattle.std.specs.Ordering.{eq_by_cmp}
use Rattle.std.proofs.lemmas.Bool.{le-ltb, lt-ltb, ltb-true}
use Rattle.std.proofs.lemmas.List.{append-nil, take_more}
use Rattle.std.proofs.lemmas.List.Elements.{All-tail, filter-append}
use Rattle.std.proofs.lemmas.List.Sorted.{IsPermutation-map, list_any-IsPermutation}
use Rattle.std.proofs.lemmas.List.Sums.{sum_by-cons}
use Rattle.sorted_sets.specs.Rising.{has}
use Rattle.sorted_sets.proofs.{Bools.or_false_left, Bools.or_false_right, Filtering.has-filter}
use Rattle.rdf_term.specs.{declared.triple.Triple.Triple, Order.triple_cmp}
use Rattle.rdf_term.proofs.Texts.{triple_cmp-IsAntisymmetric}
use Rattle.page_parts.specs.declared.row.Row.{Row}
use Rattle.page_parts.specs.{InOne.has_more, InOne.in_one, InOne.times, Row.IsRanked, Row.row_cmp, Row.row_has_more, Row.row_triple}
use Rattle.page_parts.proofs.Ranking.{rows_ordered}

-- one row more
pub filter_more : {A : Type 0} (p : A → Bool) (xs : List A) (i : ℕ) (d : A) → i < length xs → filter p (take (i + 1) xs) ≡ filter p (take i xs) ++ filter p (get_or xs i d ∷ [])
filter_more p xs i d within = ap (filter p) (take_more xs i d within) ∙ filter-append p (take i xs) (get_or xs i d ∷ [])

pub row_kept : {A : Type 0} (p : A → Bool) (xs : List A) (i : ℕ) (d : A) (found new : List A) → i < length xs → found ≡ filter p (take i xs) → p (get_or xs i d) ≡ true → new ≡ found ++ get_or xs i d ∷ [] → new ≡ filter p (take (i + 1) xs)
row_kept p xs i d found new within so_far passes pushed = pushed ∙ (λ j. so_far j ++ cond (sym passes j) (get_or xs i d ∷ []) []) ∙ sym (filter_more p xs i d within)

pub row_passed : {A : Type 0} (p : A → Bool) (xs : List A) (i : ℕ) (d : A) (found : List A) → i < length xs → found ≡ filter p (take i xs) → p (get_or xs i d) ≡ false → found ≡ filter p (take (i + 1) xs)
row_passed p xs i d found within so_far fails = so_far ∙ sym (append-nil (filter p (take i xs))) ∙ (λ j. filter p (take i xs) ++ cond (sym fails j) (get_or xs i d ∷ []) []) ∙ sym (filter_more p xs i d within)

abbrev number : Bool → ℕ
number b = cond b 1 0

-- 1 for the triple
abbrev one : Triple → Triple → ℕ
one t u = number (eq_by_cmp triple_cmp t u)

abbrev one_row : Row → Row → ℕ
one_row row r = number (eq_by_cmp row_cmp row r)

-- a list has a triple not once where it doesn't have it
pub times_none : (t : Triple) (xs : List Triple) → has triple_cmp t xs ≡ false → times t xs ≡ 0
times_none t [] e = refl
times_none t (x ∷ xs) e =
    let here : one t x ≡ 0 = ap number (or_false_left (eq_by_cmp triple_cmp t x) (has triple_cmp t xs) e) in
    omega (arith, sum_by-cons (one t) x xs, here, times_none t xs (or_false_right (eq_by_cmp triple_cmp t x) (has triple_cmp t xs) e))

-- so it has what it has more often than another list
more_there : (t : Triple) (many few : List Triple) → (has_more many few t && has triple_cmp t many) ≡ has_more many few t
more_there t many few = by (has_more many few t) (has triple_cmp t many) refl refl
  where
    by : (a b : Bool) → has_more many few t ≡ a → has triple_cmp t many ≡ b → (a && b) ≡ a
    by false b e k = refl
    by true true e k = refl
    by true false e k =
        let more : times t few < times t many = ltb-true (times t few) (times t many) e in
        absurd (omega (arith, more, times_none t many k))

module _ (texts : List (List ℕ)) where
  count_lifted : (row : Row) → IsRanked texts row → (rows : List Row) → All (IsRanked texts) rows → count_by (eq_by_cmp row_cmp row) rows ≡ times (row_triple row) (map row_triple rows)
  count_lifted row ranked [] all = refl
  count_lifted row ranked (r ∷ rows) all =
      let same : eq_by_cmp row_cmp row r ≡ eq_by_cmp triple_cmp (row_triple row) (row_triple r) = ap is_eq (rows_ordered texts row r ranked (all 0 r (omega arith))) in
      let here : one_row row r ≡ one (row_triple row) (row_triple r) = ap number same in
      omega (
        arith,
        sum_by-cons (one_row row) r rows,
        sum_by-cons (one (row_triple row)) (row_triple r) (map row_triple rows),
        here,
        count_lifted row ranked rows (All-tail (IsRanked texts) r rows all),
      )

  module _ (all others : List Row) (all_ranked : All (IsRanked texts) all) (others_ranked : All (IsRanked texts) others) where
    more_lifted : (row : Row) → IsRanked texts row → row_has_more all others row ≡ has_more (map row_triple all) (map row_triple others) (row_triple row)
    more_lifted row ranked = λ i. nat_lt (count_lifted row ranked others others_ranked i) (count_lifted row ranked all all_ranked i)

    filter_lifted : (rows : List Row) → All (IsRanked texts) rows → map row_triple (filter (row_has_more all others) rows) ≡ filter (has_more (map row_triple all) (map row_triple others)) (map row_triple rows)
    filter_lifted [] ranked = refl
    filter_lifted (r ∷ rows) ranked =
        let same : row_has_more all others r ≡ has_more (map row_triple all) (map row_triple others) (row_triple r) = more_lifted r (ranked 0 r (omega arith)) in
        let rest = filter_lifted rows (All-tail (IsRanked texts) r rows ranked) in
        by (row_has_more all others r) ∙ (λ i. cond (same i) (row_triple r ∷ rest i) (rest i))
      where
        by : (b : Bool) → map row_triple (cond b (r ∷ filter (row_has_more all others) rows) (filter (row_has_more all others) rows))
            ≡ cond b (row_triple r ∷ map row_triple (filter (row_has_more all others) rows)) (map row_triple (filter (row_has_more all others) rows))
        by true = refl
        by false = refl

    pub more_marked : (rows second : List Row) (many few : List Triple) (t : Triple) → IsPermutation (filter (row_has_more all others) all) rows → second ≡ [] → map row_triple all ≡ many → map row_triple others ≡ few
        → in_one (map row_triple rows) (map row_triple second) t ≡ has_more many few t
    more_marked rows second many few t moved none all_are others_are =
        let found : has triple_cmp t (map row_triple rows) ≡ has_more many few t =
        sym (list_any-IsPermutation (eq_by_cmp triple_cmp t) (map row_triple (filter (row_has_more all others) all)) (map row_triple rows) (IsPermutation-map row_triple (filter (row_has_more all others) all) rows moved))
        ∙ ap (has triple_cmp t) (filter_lifted all all_ranked)
        ∙ (λ i. has triple_cmp t (filter (has_more (all_are i) (others_are i)) (all_are i)))
        ∙ has-filter triple_cmp triple_cmp-IsAntisymmetric (has_more many few) t many
        ∙ more_there t many few in
        ap (λ l. in_one (map row_triple rows) (map row_triple l) t) none ∙ either (has triple_cmp t (map row_triple rows)) ∙ found
      where
        either : (b : Bool) → cond b true false ≡ b
        either true = refl
        either false = refl

-- by the counts
module _ (all others : List Row) (row : Row) (few many : ℕ) (few_are : few ≡ count_by (eq_by_cmp row_cmp row) others) (many_are : many ≡ count_by (eq_by_cmp row_cmp row) all) where
  pub more_now : few < many → row_has_more all others row ≡ true
  more_now l = (λ i. nat_lt (sym few_are i) (sym many_are i)) ∙ lt-ltb few many l

  pub no_more : many ≤ few → row_has_more all others row ≡ false
  no_more l = (λ i. nat_lt (sym few_are i) (sym many_are i)) ∙ le-ltb few many l
