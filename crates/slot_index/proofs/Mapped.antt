-- Entries in the order of their keys, as a map by key.
use Rattle.std.proofs.Common.{◌≡◌, cond, List, [], ◌∷◌, length, Option, Some, is_some, Ordering, refl, sym, ◌∙◌, ap}
use Rattle.std.specs.Cmp.{IsTotalOrder}
use Rattle.std.specs.FinMap as map
use Rattle.std.specs.FinMap.{IsAntisymmetric}
use Rattle.std.specs.List.Sorted.{IsStrictlySortedBy}
use Rattle.std.specs.Map.{lookup, keys_of}
use Rattle.std.specs.Ordering.{eq_by_cmp}
use Rattle.std.proofs.lemmas.Cmp.{eq_by_cmp_equiv}
use Rattle.std.proofs.lemmas.List.{length-map}
use Rattle.std.proofs.lemmas.Map.Made.{is_some-lookup}
use Rattle.sorted_sets.specs.Rising.{has}
pub use Rattle.sorted_sets.proofs.Keys.{and_first, and_second, rising_keys}
use Rattle.sorted_sets.proofs.Rising.{same_rising}
use Rattle.sorted_sets.proofs.Sorting.{IsRising-from_sorted}

module _ {K X : Type 0} (R : K → K → Ordering) where
  find_lookup : (q : K) (es : List (K × X)) → map.find R q es ≡ lookup (eq_by_cmp R q) es
  find_lookup q [] = refl
  find_lookup q (e ∷ es) = ap (λ rest. cond (eq_by_cmp R q e.0) (Some e.1) rest) (find_lookup q es)

module _ {K X : Type 0} {R : K → K → Ordering} (o : IsTotalOrder R) where
  -- the map has what a look-up by key finds
  pub got : (q : K) (es : List (K × X)) → map.get (map.from_entries {R = R} es) q ≡ lookup (eq_by_cmp R q) es
  got q es = map.get-from_entries o es q ∙ find_lookup R q es

  -- and the keys that the entries have
  pub there : (q : K) (es : List (K × X)) → map.contains_key (map.from_entries {R = R} es) q ≡ has R q (keys_of es)
  there q es = ap is_some (got q es) ∙ is_some-lookup (eq_by_cmp R q) es

  -- where a look-up finds something else at one key, the map has it there
  pub changed : (k : K) (w : Option X) (es fs : List (K × X)) → ((q : K) → lookup (eq_by_cmp R q) fs ≡ cond (eq_by_cmp R k q) w (lookup (eq_by_cmp R q) es)) → (q : K) → map.get (map.from_entries {R = R} fs) q ≡ cond (eq_by_cmp R q k) w (map.get (map.from_entries {R = R} es) q)
  changed k w es fs finds q =
      got q fs ∙ finds q ∙ ap (λ b. cond b w (lookup (eq_by_cmp R q) es)) ((eq_by_cmp_equiv o).symm k q)
      ∙ ap (λ v. cond (eq_by_cmp R q k) w v) (sym (got q es))

  -- the keys of the map are those of the entries
  pub keys_ordered : IsAntisymmetric R → (es : List (K × X)) → IsStrictlySortedBy R (keys_of es) → map.keys (map.from_entries {R = R} es) ≡ keys_of es
  keys_ordered same es h =
      let m = map.from_entries {R = R} es in
      same_rising o same (map.keys m) (keys_of es) (rising_keys R (map.entries m) (map.entries_sorted m)) (IsRising-from_sorted R _ h)
      (λ q. sym (map.contains_key-keys m q) ∙ there q es)

  -- the map has as many entries
  pub len_ordered : IsAntisymmetric R → (es : List (K × X)) → IsStrictlySortedBy R (keys_of es) → map.len (map.from_entries {R = R} es) ≡ length es
  len_ordered same es h =
      let m = map.from_entries {R = R} es in
      map.len-entries m ∙ sym (length-map (map.entries m) (λ e. e.0)) ∙ ap length (keys_ordered same es h) ∙ length-map es (λ e. e.0)
