-- How much room a step needs where no entity is counted but those that pages name.
use Rattle.std.proofs.Common.{◌≡◌, ℕ, ◌<◌, ◌≤◌, true, List, [], Option, Some, None, is_some, nat_lt, unwrap_or, refl, sym, ◌∙◌, ap, ⊎_elim}
use Rattle.std.proofs.Common.{true≢false, lt-ltb, arith}
use Rattle.std.specs.FinMap as map
use Rattle.sorted_sets.specs.Rising.{has}
use Rattle.sorted_sets.proofs.{Bools.or_true, Rising.has-append}
use Rattle.rdf_term.specs.declared.triple.Triple.{Triple}
use Rattle.entity_model.specs.{declared.id.EntityId.EntityId, EntityId.entity_cmp, EntityId.entity_cmp_total}
use Rattle.entity_state.specs.declared.record.Held.{Held}
use Rattle.slot_keys.proofs.Lists.{one_of, or_left}
use Rattle.replay_model.specs.{Records.Bytes, Records.Records, Union.Meaning, Union.owners}
use Rattle.replay_model.proofs.Owners.{has-union}
use Rattle.shared_triples.specs.Lean.{stored_of, strangers}
use Rattle.holders.specs.Roomed.{HasRoom, room_with}
use Rattle.entity_counts.specs.Naming.{Naming, pages_naming}
use Rattle.lean_holdings.specs.{Changing.counted_with, Changing.named_by, Changing.needs_of, Changing.needs_where, Changing.shared_by}
use Rattle.lean_holdings.specs.Holding.{counted_by, strangers_on}
use Rattle.lean_holdings.proofs.Needing.{needs_more, room_more}

-- an entity that a page names is counted
pub some_counted : (names : Naming) (y : EntityId) → nat_lt 0 (pages_naming names y) ≡ true → has entity_cmp y (counted_by names) ≡ true
some_counted names y some = sym (map.contains_key-keys names y) ∙ by (map.get names y) some
  where
    by : (found : Option ℕ) → nat_lt 0 (unwrap_or found 0) ≡ true → is_some found ≡ true
    by None lt = absurd (true≢false (sym lt))
    by (Some n) lt = refl

module _ (m : Meaning Triple) (names : Naming) (records : Records)
    (named : (y : EntityId) → pages_naming names y ≡ owners entity_cmp (strangers_on m) records y) where
  is_named : (y : EntityId) → has entity_cmp y (named_by m records) ≡ nat_lt 0 (pages_naming names y)
  is_named y = has-union entity_cmp_total (strangers_on m) records y ∙ ap (nat_lt 0) (sym (named y))

  pub named_counted : (y : EntityId) → has entity_cmp y (named_by m records) ≡ true → has entity_cmp y (counted_by names) ≡ true
  named_counted y there = some_counted names y (sym (is_named y) ∙ there)

  -- what two pages may share is stored
  pub named_least : room_with (shared_by m records) records [] ≤ room_with (stored_of (counted_by names) m) records []
  named_least = room_more (named_by m records) (counted_by names) m records named_counted

  pub named_room : (limit : ℕ) → HasRoom (stored_of (counted_by names) m) limit records → HasRoom (shared_by m records) limit records
  named_room limit room =
      let held : room_with (stored_of (counted_by names) m) records [] ≤ limit = room in
      let least : room_with (shared_by m records) records [] ≤ room_with (stored_of (counted_by names) m) records [] = named_least in
      omega arith

  -- where those alone are counted that a page names
  pub counted_named : (counted : List EntityId) → ((y : EntityId) → has entity_cmp y counted ≡ true → 0 < pages_naming names y)
      → (y : EntityId) → has entity_cmp y counted ≡ true → has entity_cmp y (named_by m records) ≡ true
  counted_named counted only y there = is_named y ∙ lt-ltb 0 (pages_naming names y) (only y there)

module _ (m n : Meaning Triple) (names : Naming) (records : Records)
    (named : (y : EntityId) → pages_naming names y ≡ owners entity_cmp (strangers_on m) records y)
    (x : EntityId) (held : Option (Held Bytes)) (limit : ℕ) where
  -- where there is room beside all that is counted there is room beside what is named
  pub named_within : needs_where (counted_by names) m n records x held ≤ limit → needs_of m n records x held ≤ limit
  named_within few =
      let least : needs_of m n records x held ≤ needs_where (counted_by names) m n records x held =
      needs_more (named_by m records) (counted_by names) m n records x held (named_counted m names records named) in
      omega arith

  -- and where there is none, and nothing is counted but what is named, there is none beside that
  pub named_full : (counted : List EntityId) → ((y : EntityId) → has entity_cmp y counted ≡ true → 0 < pages_naming names y)
      → limit < needs_where counted m n records x held → limit < needs_of m n records x held
  named_full counted only full =
      let most : needs_where counted m n records x held ≤ needs_of m n records x held =
      needs_more counted (named_by m records) m n records x held (counted_named m names records named counted only) in
      omega arith

-- what was counted with the names of a page, with them again
pub counted_again : (c d : List EntityId) (x : EntityId) (triples : List Triple)
    → ((y : EntityId) → has entity_cmp y c ≡ true → has entity_cmp y (counted_with d x triples) ≡ true)
    → (y : EntityId) → has entity_cmp y (counted_with c x triples) ≡ true → has entity_cmp y (counted_with d x triples) ≡ true
counted_again c d x triples more y there = ⊎_elim
    (λ own. has-append entity_cmp y (strangers x triples) d ∙ or_left (has entity_cmp y (strangers x triples)) _ own)
    (λ other. more y other)
    (one_of (has entity_cmp y (strangers x triples)) (has entity_cmp y c) (sym (has-append entity_cmp y (strangers x triples) c) ∙ there))

-- the entities that are counted are among those, or those that a page names
pub counted_still : (c d : List EntityId) (x : EntityId) (triples : List Triple)
    → ((y : EntityId) → has entity_cmp y c ≡ true → has entity_cmp y d ≡ true)
    → (y : EntityId) → has entity_cmp y c ≡ true → has entity_cmp y (counted_with d x triples) ≡ true
counted_still c d x triples fewer y there =
    has-append entity_cmp y (strangers x triples) d ∙ or_true (has entity_cmp y (strangers x triples)) _ (fewer y there)
