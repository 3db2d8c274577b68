-- Pages that come one after the other, and the entities that are counted because of them.
use Rattle.std.specs.Prelude.{◌≡◌, ℕ, ◌+◌, ◌-◌, List, [], ◌∷◌, None, fold}
use Rattle.std.specs.FinMap as map
use Rattle.std.specs.FinMap.{find}
use Rattle.sorted_sets.specs.Counting.{one_if}
use Rattle.sorted_sets.specs.Rising.{has}
use Rattle.rdf_term.specs.declared.triple.Triple.{Triple}
use Rattle.rdf_term.specs.Order.{triple_cmp}
use Rattle.entity_model.specs.declared.id.EntityId.{EntityId}
use Rattle.entity_model.specs.EntityId.{entity_cmp}
use Rattle.entity_state.specs.declared.record.Record.{Record}
use Rattle.replay_model.specs.Records.{Bytes, Records}
use Rattle.replay_model.specs.Union.{Meaning, triples_at}
use Rattle.shared_triples.specs.Lean.{own_of, stored_of, strangers, triples_of}

-- the records, with the entities that are counted and the count of each triple
pub record LeanState : Type 0 where
  pub counted : List EntityId
  pub count : Triple → ℕ
  pub records : Records

abbrev pub nothing_held : LeanState
nothing_held = record { counted = []; count = λ t. 0; records = map.empty }

-- no entity has two of the entries
abbrev pub HasKeysOnce : List (EntityId × Record Bytes) → Type 0
HasKeysOnce [] = Unit {0}
HasKeysOnce (entry ∷ entries) = (find entity_cmp entry.0 entries ≡ None) × HasKeysOnce entries

module _ (meaning : Meaning Triple) where
  -- x is counted: the triples that stood in its page alone have one owner
  abbrev pub counted_in : LeanState → EntityId → LeanState
  counted_in s x = record {
    counted = x ∷ s.counted;
    count = λ t. s.count t + one_if (has triple_cmp t (triples_of (own_of s.counted meaning) s.records x));
    records = s.records;
  }

  -- the record of an entity is put in: what is stored of its page comes in the place of what was
  abbrev pub put_in : LeanState → (EntityId × Record Bytes) → LeanState
  put_in s entry = record {
    counted = s.counted;
    count = λ t.
        s.count t + one_if (has triple_cmp t (triples_at (stored_of s.counted meaning) entry))
        - one_if (has triple_cmp t (triples_of (stored_of s.counted meaning) s.records entry.0));
    records = map.insert s.records entry.0 entry.1;
  }

  -- the other entities that triples of its page belong to are counted in
  abbrev pub ready_for : LeanState → (EntityId × Record Bytes) → LeanState
  ready_for s entry = fold counted_in s (strangers entry.0 (triples_at meaning entry))

  -- first that, and then the record is put in
  abbrev pub loaded_one : LeanState → (EntityId × Record Bytes) → LeanState
  loaded_one s entry = put_in (ready_for s entry) entry

  -- the records of these entries are put in, one after the other
  abbrev pub loaded_from : LeanState → List (EntityId × Record Bytes) → LeanState
  loaded_from s entries = fold loaded_one s entries

  -- the same from the start
  abbrev pub loaded : List (EntityId × Record Bytes) → LeanState
  loaded entries = loaded_from nothing_held entries
