-- Which ids are there, and which have room.
use Rattle.std.specs.Prelude.{◌≡◌, ◌<◌, Bool, true, false, cond, ◌||◌, List, [], ◌∷◌, ◌++◌, length, Option, is_some, refl}
use Rattle.std.proofs.Common.{ap, sym, ◌∙◌, arith, true≢false}
use Rattle.std.specs.List.{list_any}
use Rattle.std.specs.Map.{lookup}
use Rattle.std.specs.FinMap as map
use Rattle.std.specs.BTreeSet.{insert_key}
use Rattle.std.specs.Set.{remove_key}
use Rattle.entity_model.specs.declared.id.EntityId.{EntityId}
use Rattle.std.specs.Ordering.{is_eq}
use Rattle.std.proofs.lemmas.Cmp.{tied_itself}
use Rattle.sorted_sets.specs.Rising.{has}
use Rattle.sorted_sets.proofs.Rising.{has-insert_key}
use Rattle.entity_model.specs.EntityId.{entity_cmp, entity_cmp_total}
use Rattle.entity_state.specs.declared.record.Record.{Record}
use Rattle.entity_state.specs.Tabled.{Tabled, records_of}
use Rattle.entity_state.specs.Table.{is_there, has_room, with_room, after_putting}
use Rattle.entity_state.proofs.Records.{got, same_id}

any_some : {A : Type 0} (p : A → Bool) (xs : List A) → list_any p xs ≡ true → 0 < length xs
any_some p [] h = absurd (true≢false (sym h))
any_some p (x ∷ xs) h = omega arith

other : (a b : Bool) → (a || b) ≡ true → a ≡ false → b ≡ true
other true b h not = absurd (true≢false not)
other false b h not = h

module _ {H : Type 0} where
  -- an id that the look-up finds is there, and one that it doesn't find isn't
  pub found : (id : EntityId) (r : Option (Record H)) (es : List (EntityId × Record H)) → r ≡ lookup (same_id id) es → map.contains_key (records_of es) id ≡ is_some r
  found id r es is = ap is_some (got id es ∙ sym is)

  -- an id that isn't there and has room is among those that only have room
  pub among_room : (es : List (EntityId × Record H)) (room : List EntityId) (id : EntityId) → (map.contains_key (records_of es) id || list_any (same_id id) room) ≡ true → map.contains_key (records_of es) id ≡ false → list_any (same_id id) room ≡ true
  among_room es room id fits absent = other _ _ fits absent

  -- and so there are some of these
  pub some_room : (es : List (EntityId × Record H)) (room : List EntityId) (id : EntityId) → (map.contains_key (records_of es) id || list_any (same_id id) room) ≡ true → map.contains_key (records_of es) id ≡ false → 0 < length room
  some_room es room id fits absent = any_some (same_id id) room (among_room es room id fits absent)

  -- an id that is given room has room
  given_room : (t : Tabled H) (id : EntityId) → has_room (with_room t id) id ≡ true
  given_room t id = by (is_there t id)
    where
      by : (there : Bool) → (there || list_any (same_id id) (cond there t.room (insert_key entity_cmp t.room id))) ≡ true
      by true = refl
      by false = has-insert_key entity_cmp_total id id t.room ∙ ap (λ o. is_eq o || has entity_cmp id t.room) (tied_itself entity_cmp_total id)

  pub has_given_room : (t u : Tabled H) (id : EntityId) → t ≡ with_room u id → has_room t id ≡ true
  has_given_room t u id is = ap (λ x. has_room x id) is ∙ given_room u id

  -- what the calls make of a table, by whether the id is there
  pub with_room_there : (t : Tabled H) (id : EntityId) → is_there t id ≡ true → t ≡ with_room t id
  with_room_there t id there = ap (λ b. record t { room = cond b t.room (insert_key entity_cmp t.room id) }) (sym there)

  pub with_room_new : (t : Tabled H) (id : EntityId) → is_there t id ≡ false → record t { room = insert_key entity_cmp t.room id } ≡ with_room t id
  with_room_new t id new = ap (λ b. record t { room = cond b t.room (insert_key entity_cmp t.room id) }) (sym new)

  pub after_putting_there : (t : Tabled H) (id : EntityId) (r : Record H) → is_there t id ≡ true → record t { records = map.insert t.records id r } ≡ after_putting t id r
  after_putting_there t id r there = ap (λ b. record { records = map.insert t.records id r; places = cond b t.places (t.places ++ id ∷ []); room = cond b t.room (remove_key (same_id id) t.room) }) (sym there)

  pub after_putting_new : (t : Tabled H) (id : EntityId) (r : Record H) → is_there t id ≡ false → record { records = map.insert t.records id r; places = t.places ++ id ∷ []; room = remove_key (same_id id) t.room } ≡ after_putting t id r
  after_putting_new t id r new = ap (λ b. record { records = map.insert t.records id r; places = cond b t.places (t.places ++ id ∷ []); room = cond b t.room (remove_key (same_id id) t.room) }) (sym new)
