-- How many distinct terms there may be, and how many a page needs.
use Rattle.std.specs.Prelude.{ℕ, ◌≤◌, Bool, true, false, Option}
use Rattle.rdf_term.specs.declared.triple.Triple.{Triple}
use Rattle.entity_model.specs.declared.id.EntityId.{EntityId}
use Rattle.entity_state.specs.declared.record.Held.{Held}
use Rattle.replay_model.specs.{Records.Bytes, Records.Records, Union.Meaning, Union.triples_held}
use Rattle.holders.specs.Roomed.{HasRoom, room_with}
use Rattle.lean_holdings.specs.Changing.{needs_of, shared_by}

-- how many distinct terms the stored triples may have; and which triples are stored: in a lean world those that two pages may share, otherwise all
pub record Limit : Type 0 where
  pub terms : ℕ
  pub lean : Bool

-- so many terms of all triples
abbrev pub whole : ℕ → Limit
whole terms = record { terms = terms; lean = false }

-- what is stored of each page where these records are held
abbrev pub stored_by : Bool → Meaning Triple → Records → Meaning Triple
stored_by false m records = m
stored_by true m records = shared_by m records

-- what is stored has no more distinct terms than there may be
abbrev pub HasRoomBy : Limit → Meaning Triple → Records → Type 0
HasRoomBy limit m records = HasRoom (stored_by limit.lean m records) limit.terms records

-- how many distinct terms the stored triples have together with those that are stored of what x is to hold; pages that are held mean the first,
-- and what x is to hold means the second
abbrev pub needs : Bool → Meaning Triple → Meaning Triple → Records → EntityId → Option (Held Bytes) → ℕ
needs false m n records x held = room_with m records (triples_held n x held)
needs true m n records x held = needs_of m n records x held
