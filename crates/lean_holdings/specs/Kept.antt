-- What is kept of each entity, and the records that this is with the packed pages.
use Rattle.std.specs.Prelude.{Bool, List, [], Option, None, Some, is_some, unwrap_or}
use Rattle.std.specs.FinMap as map
use Rattle.entity_model.specs.{declared.id.EntityId.EntityId, EntityId.entity_cmp}
use Rattle.entity_state.specs.{declared.record.Held.Held, declared.record.Record.Record, Record.blank}
use Rattle.text_region.specs.{declared.piece.Piece.Piece, Region.Texts, Region.bytes_of}
use Rattle.slot_keys.specs.{declared.key.Key.Key, declared.keys.Keys.Keys}
use Rattle.replay_model.specs.Records.{Bytes, Records}
use Rattle.holders.specs.{Pieces.PieceTexts, Values.with_values}
use Rattle.lean_holdings.specs.declared.kept.LeanPage.{LeanPage}

-- the records of the entities, each with what is kept of the page that its entity holds
abbrev pub KeptRecords : Type 0
KeptRecords = map.FinMap entity_cmp (Record LeanPage)

-- the record of an entity, blank where there is none
abbrev pub kept_of : KeptRecords → EntityId → Record LeanPage
kept_of kept x = unwrap_or (map.get kept x) blank

-- whether an entity holds a page
abbrev pub holds_in : KeptRecords → EntityId → Bool
holds_in kept x = is_some (kept_of kept x).held

-- what is held, with the text of its piece
abbrev pub held_with : PieceTexts → Option (Held LeanPage) → Option (Held Bytes)
held_with text None = None
held_with text (Some h) = Some (record { revision = h.revision; content = unwrap_or (text h.content.piece) [] })

abbrev pub record_with : PieceTexts → Record LeanPage → Record Bytes
record_with text r = record { state = r.state; held = held_with text r.held; reconciled = r.reconciled }

abbrev pub records_with : PieceTexts → KeptRecords → Records
records_with text kept = with_values (record_with text) kept

-- the records, each with the page that its entity holds
abbrev pub seen : Texts → KeptRecords → Records
seen pages kept = records_with (bytes_of pages) kept

-- the piece of what is held
abbrev pub piece_held : Option (Held LeanPage) → Option Piece
piece_held None = None
piece_held (Some h) = Some h.content.piece

-- the keys of the stored triples of what is held
abbrev pub keys_held : Option (Held LeanPage) → List Key
keys_held None = []
keys_held (Some h) = h.content.keys.rising.items

-- the piece of what an entity holds
abbrev pub piece_at : KeptRecords → EntityId → Option Piece
piece_at kept x = piece_held (kept_of kept x).held

-- what is held, with other keys
abbrev pub held_keys : Option (Held LeanPage) → Keys → Option (Held LeanPage)
held_keys None keys = None
held_keys (Some h) keys = Some (record { revision = h.revision; content = record { piece = h.content.piece; keys = keys } })

abbrev pub with_keys : Record LeanPage → Keys → Record LeanPage
with_keys r keys = record { state = r.state; held = held_keys r.held keys; reconciled = r.reconciled }
