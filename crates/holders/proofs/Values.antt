-- A map with other values at its keys.
use Rattle.std.proofs.Common.{◌≡◌, Bool, true, false, cond, List, [], ◌∷◌, Option, Some, None, is_some, length, refl, sym, ◌∙◌, ap}
use Rattle.std.specs.Prelude.{map as mapped}
use Rattle.std.specs.FinMap as map
use Rattle.std.specs.{FinMap.find, Ordering.eq_by_cmp}
use Rattle.std.proofs.lemmas.List.{length-map}
use Rattle.sorted_sets.proofs.Rising.{same_rising}
use Rattle.slot_index.proofs.Mapped.{rising_keys}
use Rattle.entity_model.specs.{declared.id.EntityId.EntityId, EntityId.entity_cmp, EntityId.entity_cmp_total, EntityId.entity_cmp_same}
use Rattle.holders.specs.Values.{with_values}

module _ {X Y : Type 0} where
  -- the value that comes of one, if there is one
  abbrev pub changed : (X → Y) → Option X → Option Y
  changed f None = None
  changed f (Some v) = Some (f v)

  is_some-changed : (f : X → Y) (found : Option X) → is_some (changed f found) ≡ is_some found
  is_some-changed f None = refl
  is_some-changed f (Some v) = refl

  changed-cond : (f : X → Y) (b : Bool) (v : X) (found : Option X) → changed f (cond b (Some v) found) ≡ cond b (Some (f v)) (changed f found)
  changed-cond f true v found = refl
  changed-cond f false v found = refl

  find-changed : (f : X → Y) (x : EntityId) (es : List (EntityId × X)) → find entity_cmp x (mapped (λ e. (e.0, f e.1)) es) ≡ changed f (find entity_cmp x es)
  find-changed f x [] = refl
  find-changed f x (e ∷ es) =
      ap (cond (eq_by_cmp entity_cmp x e.0) (Some (f e.1))) (find-changed f x es)
      ∙ sym (changed-cond f (eq_by_cmp entity_cmp x e.0) e.1 (find entity_cmp x es))

  pub get-values : (f : X → Y) (m : map.FinMap entity_cmp X) (x : EntityId) → map.get (with_values f m) x ≡ changed f (map.get m x)
  unfolding with_values
  get-values f m x =
      map.get-from_entries entity_cmp_total (mapped (λ e. (e.0, f e.1)) (map.entries m)) x
      ∙ find-changed f x (map.entries m)
      ∙ ap (changed f) (sym (map.get-entries m x))

  pub values-insert : (f : X → Y) (m : map.FinMap entity_cmp X) (x : EntityId) (v : X) → with_values f (map.insert m x v) ≡ map.insert (with_values f m) x (f v)
  values-insert f m x v = map.same_map entity_cmp_total entity_cmp_same _ _ (λ y.
      get-values f (map.insert m x v) y
      ∙ ap (changed f) (map.get-insert entity_cmp_total m x v y)
      ∙ changed-cond f (eq_by_cmp entity_cmp y x) v (map.get m y)
      ∙ ap (cond (eq_by_cmp entity_cmp y x) (Some (f v))) (sym (get-values f m y))
      ∙ sym (map.get-insert entity_cmp_total (with_values f m) x (f v) y))

  pub values_keys : (f : X → Y) (m : map.FinMap entity_cmp X) → map.keys (with_values f m) ≡ map.keys m
  values_keys f m = same_rising entity_cmp_total entity_cmp_same (map.keys (with_values f m)) (map.keys m)
      (rising_keys entity_cmp (map.entries (with_values f m)) (map.entries_sorted (with_values f m)))
      (rising_keys entity_cmp (map.entries m) (map.entries_sorted m))
      (λ y. sym (map.contains_key-keys (with_values f m) y) ∙ ap is_some (get-values f m y) ∙ is_some-changed f (map.get m y) ∙ map.contains_key-keys m y)

  pub values_empty : (f : X → Y) → with_values f map.empty ≡ map.empty
  values_empty f = map.same_map entity_cmp_total entity_cmp_same _ _ (λ y.
      get-values f map.empty y ∙ ap (changed f) (map.get-empty entity_cmp y) ∙ sym (map.get-empty entity_cmp y))

len_keys : {X : Type 0} (m : map.FinMap entity_cmp X) → map.len m ≡ length (map.keys m)
len_keys m = map.len-entries m ∙ sym (length-map (map.entries m) (λ e. e.0))

pub values_len : {X Y : Type 0} (f : X → Y) (m : map.FinMap entity_cmp X) → map.len (with_values f m) ≡ map.len m
values_len f m = len_keys (with_values f m) ∙ ap length (values_keys f m) ∙ sym (len_keys m)
