-- What lies in the region: the texts of the terms of all that is held, each once, and the held pages, and nothing else.
use Rattle.std.specs.Prelude.{◌≡◌, ℕ, true, List, Option, Some, is_some, ◌⊎◌}
use Rattle.std.specs.List.{flat_map}
use Rattle.sorted_sets.specs.Rising.{has}
use Rattle.rdf_term.specs.{declared.term.Term.Term, declared.triple.Triple.Triple, Order.term_cmp, Order.triple_cmp, Text.term_text}
use Rattle.entity_model.specs.declared.id.EntityId.{EntityId}
use Rattle.entity_state.specs.declared.record.Held.{Held}
use Rattle.text_region.specs.{declared.piece.Piece.Piece, Region.Texts, Region.bytes_of}
use Rattle.triple_store.specs.Room.{terms_of}
use Rattle.replay_model.specs.{Records.Bytes, Records.Records, Records.record_of, Union.Meaning, Union.union}

-- the terms of the triples of all that is held
abbrev pub terms_in : Meaning Triple → Records → List Term
terms_in held records = flat_map terms_of (union triple_cmp held records)

-- each of these terms has one slot, which has a piece of the region with its text; each held page has a piece with its
-- bytes; no two have the same piece, and no other piece is live
pub record IsLaid (held : Meaning Triple) (region : Texts) (records : Records) : Type 0 where
  pub term : ℕ → Option Term
  pub text : ℕ → Option Piece
  pub page : EntityId → Option Piece
  pub stored : (slot : ℕ) (t : Term) → term slot ≡ Some t → has term_cmp t (terms_in held records) ≡ true
  pub each : (t : Term) → has term_cmp t (terms_in held records) ≡ true → (slot : ℕ) × (term slot ≡ Some t)
  pub once : (a b : ℕ) (t : Term) → term a ≡ Some t → term b ≡ Some t → a ≡ b
  pub texts : (slot : ℕ) (t : Term) → term slot ≡ Some t → (piece : Piece) × (text slot ≡ Some piece) × (bytes_of region piece ≡ Some (term_text t))
  pub pages : (x : EntityId) (h : Held Bytes) → (record_of records x).held ≡ Some h → (piece : Piece) × (page x ≡ Some piece) × (bytes_of region piece ≡ Some h.content)
  pub only : (piece : Piece) → is_some (bytes_of region piece) ≡ true
      → ((slot : ℕ) × (t : Term) × (term slot ≡ Some t) × (text slot ≡ Some piece)) ⊎ ((x : EntityId) × (h : Held Bytes) × ((record_of records x).held ≡ Some h) × (page x ≡ Some piece))
  pub own_texts : (a b : ℕ) (piece : Piece) → text a ≡ Some piece → text b ≡ Some piece → a ≡ b
  pub own_pages : (x y : EntityId) (piece : Piece) → page x ≡ Some piece → page y ≡ Some piece → x ≡ y
  pub apart : (slot : ℕ) (x : EntityId) (piece : Piece) → text slot ≡ Some piece → page x ≡ Some piece → ⊥
