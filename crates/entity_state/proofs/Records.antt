-- The records in the order of their places, as a map by id.
use Rattle.std.specs.Prelude.{◌≡◌, ◌+◌, Bool, true, false, cond, Option, Some, is_some, Result, Ok, Err, OnOk, IsOk, is_ok, List, [], ◌∷◌, ◌++◌, length, refl, IsSorted}
use Rattle.std.proofs.Common.{sym, ap, ◌∙◌, arith, get_or, true≢false}
use Rattle.std.specs.declared.cmp.Ordering.{Ordering}
use Rattle.std.specs.declared.cmp.Ordering.TheVariants.{Less, Equal, Greater}
use Rattle.std.specs.Ordering.{eq_by_cmp, is_lt, is_eq, ordering_reverse}
use Rattle.std.specs.List.{IsDistinct, AllByRecursion}
use Rattle.std.specs.List.Sorted.{IsPermutation}
use Rattle.std.specs.Map.{lookup, keys_of}
use Rattle.std.specs.FinMap as map
use Rattle.std.proofs.lemmas.Cmp.{eq_by_cmp_equiv}
use Rattle.std.proofs.lemmas.List.Sorted.{list_any-IsPermutation}
use Rattle.std.proofs.lemmas.Map.Keys.{IsDistinct-IsPermutation, IsDistinct-head, IsDistinct-tail, apart_from_distinct, sorted_from_all_adjacent}
use Rattle.std.proofs.lemmas.Map.Made.{is_some-lookup}
use Rattle.sorted_sets.specs.Rising.{has, IsRising}
use Rattle.sorted_sets.proofs.Keys.{rising_keys}
use Rattle.sorted_sets.proofs.Rising.{same_rising}
use Rattle.sorted_sets.proofs.Sorting.{IsRising-from_sorted}
use Rattle.entity_model.specs.declared.id.EntityId.{EntityId}
use Rattle.entity_model.specs.declared.event.Event.{Event}
use Rattle.entity_model.specs.EntityId.{entity_cmp, entity_cmp_total, entity_cmp_same}
use Rattle.entity_state.specs.declared.state.State.{State}
use Rattle.entity_state.specs.declared.record.Record.{Record}
use Rattle.entity_state.specs.Record.{with_state}
use Rattle.entity_state.specs.Tabled.{records_of}
use Rattle.entity_state.specs.Table.{records_setting}

-- whether two ids are equal
abbrev pub same_id : EntityId → EntityId → Bool
same_id = eq_by_cmp entity_cmp

same_id_flips : (x y : EntityId) → same_id x y ≡ same_id y x
same_id_flips = (eq_by_cmp_equiv entity_cmp_total).symm

none_alike : (q : EntityId) (ks : List EntityId) → AllByRecursion (λ k. same_id q k ≡ false) ks → has entity_cmp q ks ≡ false
none_alike q [] apart = refl
none_alike q (k ∷ ks) apart = rw apart.0 (none_alike q ks apart.1)

module _ {H : Type 0} where
  find_lookup : (q : EntityId) (es : List (EntityId × Record H)) → map.find entity_cmp q es ≡ lookup (same_id q) es
  find_lookup q [] = refl
  find_lookup q (e ∷ es) = ap (λ rest. cond (same_id q e.0) (Some e.1) rest) (find_lookup q es)

  -- the map has what a look-up by key finds
  pub got : (q : EntityId) (es : List (EntityId × Record H)) → map.get (records_of es) q ≡ lookup (same_id q) es
  got q es = map.get-from_entries entity_cmp_total es q ∙ find_lookup q es

  -- the map has the ids that stand in the list
  pub there : (q : EntityId) (es : List (EntityId × Record H)) → map.contains_key (records_of es) q ≡ has entity_cmp q (keys_of es)
  there q es = ap is_some (got q es) ∙ is_some-lookup (same_id q) es

  -- where a look-up finds one more record, or another one, the map has it inserted
  pub inserted : (id : EntityId) (v : Record H) (es fs : List (EntityId × Record H)) → ((q : EntityId) → lookup (same_id q) fs ≡ cond (same_id id q) (Some v) (lookup (same_id q) es)) → records_of fs ≡ map.insert (records_of es) id v
  inserted id v es fs finds = map.same_map entity_cmp_total entity_cmp_same (records_of fs) (map.insert (records_of es) id v) (λ q.
      got q fs ∙ finds q ∙ ap (λ b. cond b (Some v) (lookup (same_id q) es)) (same_id_flips id q)
      ∙ ap (λ o. cond (same_id q id) (Some v) o) (sym (got q es)) ∙ sym (map.get-insert entity_cmp_total (records_of es) id v q))

  -- the map has as many records as the list, where no two ids are equal
  pub counted : (es : List (EntityId × Record H)) → IsDistinct same_id (keys_of es) → map.len (records_of es) ≡ length es
  counted [] distinct = map.len-empty entity_cmp (Record H)
  counted (e ∷ es) distinct =
      let new = there e.0 es ∙ none_alike e.0 (keys_of es) (IsDistinct-head same_id e.0 (keys_of es) distinct) in
      map.len-insert entity_cmp_total (records_of es) e.0 e.1
      ∙ ap (λ b. cond b (map.len (records_of es)) (map.len (records_of es) + 1)) new
      ∙ ap (λ n. n + 1) (counted es (IsDistinct-tail same_id e.0 (keys_of es) distinct)) ∙ omega arith

  -- a new id goes last
  pub keys_pushed : (es : List (EntityId × Record H)) (id : EntityId) (v : Record H) → keys_of (es ++ (id, v) ∷ []) ≡ keys_of es ++ id ∷ []
  keys_pushed [] id v = refl
  keys_pushed (e ∷ es) id v = ap (λ ks. e.0 ∷ ks) (keys_pushed es id v)

  -- where another state is set in the record that is there
  pub state_set : (id : EntityId) (s : State) (reconciled : Option Event) (r v : Record H) (es fs : List (EntityId × Record H)) → lookup (same_id id) es ≡ Some r → v ≡ with_state r s reconciled → ((q : EntityId) → lookup (same_id q) fs ≡ cond (same_id id q) (Some v) (lookup (same_id q) es)) → records_of fs ≡ records_setting (records_of es) (map.get (records_of es) id) id s reconciled
  state_set id s reconciled r v es fs is set finds =
      inserted id v es fs finds ∙ ap (λ x. map.insert (records_of es) id x) set
      ∙ ap (λ o. records_setting (records_of es) o id s reconciled) (sym (got id es ∙ is))

-- what is said of an Ok
pub at_ok : {A E P : Type 0} (r : Result A E) → IsOk r → OnOk r P → P
at_ok (Ok x) ok says = says
at_ok {A} {E} {P} (Err e) ok says = let not_ok : is_ok {T = A} {E = E} (Err e) ≡ true = ok in absurd (true≢false (sym not_ok))

-- an order that doesn't put y before x, where the two are not equal, puts x before y
before : (x y : EntityId) → is_lt (entity_cmp y x) ≡ false → same_id x y ≡ false → entity_cmp x y ≡ Less
before x y not_after apart = by (entity_cmp x y) refl
  where
    by : (r : Ordering) → entity_cmp x y ≡ r → r ≡ Less
    by Less is = refl
    by Equal is = absurd (true≢false (sym (ap is_eq is) ∙ apart))
    by Greater is = absurd (true≢false (sym (ap (λ o. is_lt (ordering_reverse o)) is) ∙ sym (ap is_lt (entity_cmp_total.antisymm y x)) ∙ not_after))

-- different ids in order rise
rising_ids : (ids : List EntityId) → IsDistinct same_id ids → IsSorted entity_cmp ids → IsRising entity_cmp ids
rising_ids [] distinct in_order = tt
rising_ids (x ∷ xs) distinct in_order =
    IsRising-from_sorted entity_cmp (x ∷ xs) (sorted_from_all_adjacent entity_cmp_total (x ∷ xs) x (λ k below.
    before (get_or (x ∷ xs) k x) (get_or (x ∷ xs) (k + 1) x) (in_order k x (omega arith) below) (apart_from_distinct same_id (x ∷ xs) k (k + 1) x distinct (omega arith) below)))

-- the sorted ids of a list without equal ids are those of its map
pub sorted_ids : {H : Type 0} (es : List (EntityId × Record H)) (ids sorted : List EntityId) → IsDistinct same_id (keys_of es) → ids ≡ keys_of es → IsPermutation ids sorted → IsSorted entity_cmp sorted → sorted ≡ map.keys (records_of es)
sorted_ids es ids sorted distinct is moved in_order =
    let apart = IsDistinct-IsPermutation same_id same_id_flips ids sorted moved (rw is distinct) in
    same_rising entity_cmp_total entity_cmp_same sorted (map.keys (records_of es)) (rising_ids sorted apart in_order) (rising_keys entity_cmp (map.entries (records_of es)) (map.entries_sorted (records_of es))) (λ q.
    sym (list_any-IsPermutation (same_id q) ids sorted moved) ∙ ap (has entity_cmp q) is ∙ sym (there q es) ∙ map.contains_key-keys (records_of es) q)
