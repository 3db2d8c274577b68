-- How many times keys come, one key after another.
use Rattle.std.proofs.Common.{◌≡◌, ◌≢◌, ℕ, ◌+◌, ◌<◌, true, false, cond, List, length, take, get_or, Some, is_eq, ⊎_elim, sym, ◌∙◌, ap, subst, arith}
use Rattle.std.specs.Prelude.{slice_get, set}
use Rattle.std.proofs.lemmas.Bool.{cases_eq}
use Rattle.std.proofs.lemmas.Cmp.{tied_itself}
use Rattle.std.proofs.lemmas.List.{get_or-set_other, get_or-set_same, length-set}
use Rattle.std.proofs.lemmas.List.Sums.{sum_by_more}
use Rattle.std.proofs.lemmas.Option.{slice_get_within, get_or_from_slice_get}
use Rattle.sorted_sets.specs.Counting.{one_if}
use Rattle.sorted_sets.specs.Rising.{IsRising}
use Rattle.sorted_sets.proofs.Bools.{equal}
use Rattle.slot_keys.specs.declared.key.Key.{Key}
use Rattle.slot_keys.specs.KeyCounts.{AddKeys, MovesKeys, count_beside, key_times}
use Rattle.slot_keys.specs.Keys.{key_cmp, key_cmp-IsAntisymmetric, key_cmp-total, same_key}
use Rattle.slot_keys.proofs.Lists.{never, other_at}

-- ---- the next key of a list, which is at an index of others

module _ (keys : List Key) (rises : IsRising key_cmp keys) (met : List Key) (i : ℕ) (d : Key) (low : i < length met) (place : ℕ) (found : slice_get keys place ≡ Some (get_or met i d)) where
  there : place < length keys
  there = slice_get_within keys place (get_or met i d) found

  is : (other : Key) → get_or keys place other ≡ get_or met i d
  is other = get_or_from_slice_get keys place (get_or met i d) other found

  more : (key : Key) → key_times key (take (i + 1) met) ≡ key_times key (take i met) + one_if (same_key key (get_or met i d))
  more key = sum_by_more (λ k. cond (same_key key k) 1 0) met i d low

  here : (other : Key) → same_key (get_or keys place other) (get_or met i d) ≡ true
  here other = ap (λ k. same_key k (get_or met i d)) (is other) ∙ ap is_eq (tied_itself key_cmp-total (get_or met i d))

  elsewhere : (index : ℕ) (other : Key) → index < length keys → index ≢ place → same_key (get_or keys index other) (get_or met i d) ≡ false
  elsewhere index other within differ = never (same_key (get_or keys index other) (get_or met i d)) (λ e.
      other_at key_cmp-total keys index place other rises within there differ (key_cmp-IsAntisymmetric (get_or keys index other) (get_or met i d) (equal _ e) ∙ sym (is other)))

  pub key_added : (old now : List ℕ) (n : ℕ) → length old ≡ length keys → n ≡ get_or now place 0 + 1 → AddKeys keys old now (take i met) → AddKeys keys old (set now place n) (take (i + 1) met)
  key_added old now n long one h = record {
    as_many = length-set now place n ∙ h.as_many;
    counted = λ index other within. ⊎_elim
        (λ same.
        omega (
          arith,
          ap (λ k. get_or (set now place n) k 0) same,
          get_or-set_same now place n 0 (omega (arith, h.as_many, long, there)),
          one,
          h.counted index other within,
          ap (λ k. get_or now k 0) same,
          more (get_or keys index other),
          ap one_if (subst (λ (k : ℕ). same_key (get_or keys k other) (get_or met i d) ≡ true) (sym same) (here other)),
        ))
        (λ differ.
        omega (arith, get_or-set_other now place index n 0 differ, h.counted index other within, more (get_or keys index other), ap one_if (elsewhere index other within differ)))
        (cases_eq index place);
  }

-- ---- counts that moved with their keys

pub moves_keys : (had : List Key) (left : List ℕ) (keys : List Key) (moved added : List ℕ) (met : List Key) → length moved ≡ length keys → ((index : ℕ) (other : Key) → index < length keys → get_or moved index 0 ≡ count_beside had left (get_or keys index other)) → AddKeys keys moved added met → MovesKeys had left keys added met
moves_keys had left keys moved added met as_many moves more = record {
  as_many = more.as_many ∙ as_many;
  counted = λ index other low. omega (arith, more.counted index other low, moves index other low);
}
