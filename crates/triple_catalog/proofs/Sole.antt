-- Keys with one owner that aren't among others, one key after another.
use Rattle.std.proofs.Common.{◌≡◌, ◌≢◌, ℕ, ◌+◌, ◌<◌, ◌==◌, true, false, not, cond, nat_lt, List, [], ◌∷◌, ◌++◌, take, drop, length, get_or, append-nil, refl, sym, ◌∙◌, ap, arith}
use Rattle.std.specs.Prelude.{filter}
use Rattle.std.proofs.{lemmas.Bool.eqb-true, lemmas.Bool.Decides.Decides-ltb, lemmas.List.Elements.filter-append, lemmas.List.take-append-drop}
use Rattle.sorted_sets.specs.Rising.{has, difference}
use Rattle.slot_keys.specs.{declared.key.Key.Key, Keys.key_cmp, Keys.key_cmp-total}
use Rattle.slot_keys.proofs.Lists.{difference_more, difference_same, never}
use Rattle.slot_index.specs.Counts as keyed
use Rattle.triple_catalog.specs.{declared.catalog.Catalog.Catalog, Lines.sole}

-- those of one list, and then those of another
sole-append : (st : Catalog) (xs ys others : List Key) → sole st (xs ++ ys) others ≡ sole st xs others ++ sole st ys others
sole-append st xs ys others =
    ap (filter (λ k. keyed.count_of st.index k == 1)) (filter-append (λ k. not (has key_cmp k others)) xs ys)
    ∙ filter-append (λ k. keyed.count_of st.index k == 1) (difference key_cmp xs others) (difference key_cmp ys others)

-- one more key: it is among the others, or has one owner, or more
module _ (st : Catalog) (keys others found : List Key) (i : ℕ) (d : Key) (low : i < length keys) (so_far : found ≡ sole st (take i keys) others) where
  abbrev next : Key
  next = get_or keys i d

  pub sole_among_others : has key_cmp next others ≡ true → found ≡ sole st (take (i + 1) keys) others
  sole_among_others there = so_far ∙ ap (filter (λ k. keyed.count_of st.index k == 1)) (sym (difference_same key_cmp-total keys others i d low there))

  sole_next : has key_cmp next others ≡ false → sole st (take (i + 1) keys) others ≡ sole st (take i keys) others ++ cond (keyed.count_of st.index next == 1) (next ∷ []) []
  sole_next out =
      ap (filter (λ k. keyed.count_of st.index k == 1)) (difference_more key_cmp-total keys others i d low out)
      ∙ filter-append (λ k. keyed.count_of st.index k == 1) (difference key_cmp (take i keys) others) (next ∷ [])

  pub sole_one : has key_cmp next others ≡ false → (n : ℕ) → n ≡ keyed.count_of st.index next → n ≡ 1 → (new : List Key) → new ≡ found ++ next ∷ [] → new ≡ sole st (take (i + 1) keys) others
  sole_one out n is one new pushed = pushed ∙ ap (λ ks. ks ++ next ∷ []) so_far ∙ sym (sole_next out ∙ ap (λ b. sole st (take i keys) others ++ cond b (next ∷ []) []) (ap (λ m. m == 1) (sym is ∙ one)))

  pub sole_several : has key_cmp next others ≡ false → (n : ℕ) → n ≡ keyed.count_of st.index next → n ≢ 1 → found ≡ sole st (take (i + 1) keys) others
  sole_several out n is several = so_far ∙ sym (sole_next out ∙ ap (λ b. sole st (take i keys) others ++ cond b (next ∷ []) []) (never (keyed.count_of st.index next == 1) (λ e. several (is ∙ eqb-true _ 1 e))) ∙ append-nil (sole st (take i keys) others))

  -- where none was found before it, one with one owner is the first of all
  pub sole_found : [] ≡ sole st (take i keys) others → has key_cmp next others ≡ false → (n : ℕ) → n ≡ keyed.count_of st.index next → n ≡ 1 → true ≡ nat_lt 0 (length (sole st keys others))
  sole_found none out n is one =
      let first : sole st (take (i + 1) keys) others ≡ next ∷ [] =
      sole_next out ∙ ap (λ b. sole st (take i keys) others ++ cond b (next ∷ []) []) (ap (λ m. m == 1) (sym is ∙ one)) ∙ ap (λ ks. ks ++ next ∷ []) (sym none) in
      sym ((Decides-ltb 0 (length (next ∷ sole st (drop (i + 1) keys) others))).1 (omega arith))
      ∙ ap (λ ks. nat_lt 0 (length (ks ++ sole st (drop (i + 1) keys) others))) (sym first)
      ∙ ap (λ ks. nat_lt 0 (length ks)) (sym (sole-append st (take (i + 1) keys) (drop (i + 1) keys) others))
      ∙ ap (λ ks. nat_lt 0 (length (sole st ks others))) (take-append-drop (i + 1) keys)
