-- What is kept of each entity, and the records that this is with the texts of the store.
use Rattle.std.specs.Prelude.{◌≡◌, Bool, List, [], Option, None, Some, is_some, unwrap_or}
use Rattle.std.specs.FinMap as map
use Rattle.entity_model.specs.{declared.id.EntityId.EntityId, EntityId.entity_cmp}
use Rattle.entity_state.specs.{declared.record.Held.Held, declared.record.Record.Record, Record.blank}
use Rattle.text_region.specs.declared.piece.Piece.{Piece}
use Rattle.slot_keys.specs.{declared.key.Key.Key, declared.keys.Keys.Keys}
use Rattle.triple_store.specs.{StoreState.StoreState, StoreState.beside, Stored.Changes}
use Rattle.replay_model.specs.Records.{Bytes, Records}
use Rattle.holders.specs.{Pieces.PieceTexts, Values.with_values}
use Rattle.holdings.specs.declared.kept.KeptPage.{KeptPage}

-- the records of the entities, each with what is kept of the page that its entity holds
abbrev pub KeptRecords : Type 0
KeptRecords = map.FinMap entity_cmp (Record KeptPage)

-- the record of an entity, blank where there is none
abbrev pub kept_of : KeptRecords → EntityId → Record KeptPage
kept_of kept x = unwrap_or (map.get kept x) blank

-- whether an entity holds a page
abbrev pub holds_in : KeptRecords → EntityId → Bool
holds_in kept x = is_some (kept_of kept x).held

-- what is held, with the text of its piece
abbrev pub held_with : PieceTexts → Option (Held KeptPage) → Option (Held Bytes)
held_with text None = None
held_with text (Some h) = Some (record { revision = h.revision; content = unwrap_or (text h.content.piece) [] })

abbrev pub record_with : PieceTexts → Record KeptPage → Record Bytes
record_with text r = record { state = r.state; held = held_with text r.held; reconciled = r.reconciled }

abbrev pub records_with : PieceTexts → KeptRecords → Records
records_with text kept = with_values (record_with text) kept

-- the records, each with the bytes that its entity holds
abbrev pub seen : StoreState → KeptRecords → Records
seen store kept = records_with (beside store) kept

-- the piece of what is held
abbrev pub piece_held : Option (Held KeptPage) → Option Piece
piece_held None = None
piece_held (Some h) = Some h.content.piece

-- the keys of the triples of what is held
abbrev pub keys_held : Option (Held KeptPage) → List Key
keys_held None = []
keys_held (Some h) = h.content.keys.rising.items

-- what is held, with other keys, of whose triples it isn't known how often they come
abbrev pub held_keys : Option (Held KeptPage) → Keys → Option (Held KeptPage)
held_keys None keys = None
held_keys (Some h) keys = Some (record { revision = h.revision; content = record { piece = h.content.piece; keys = keys; times = None } })

abbrev pub with_keys : Record KeptPage → Keys → Record KeptPage
with_keys r keys = record { state = r.state; held = held_keys r.held keys; reconciled = r.reconciled }

-- the piece of what an entity holds
abbrev pub piece_at : KeptRecords → EntityId → Option Piece
piece_at kept x = piece_held (kept_of kept x).held

-- the piece, if there is one, is freed; all others are as they were
abbrev pub FreesPiece : Option Piece → PieceTexts → PieceTexts → Type 0
FreesPiece None old new = (piece : Piece) → new piece ≡ old piece
FreesPiece (Some gone) old new = Changes old new gone (old gone) None
