-- What has to be so where an entity is counted in, or a record is put in, and all stays in step.
use Rattle.std.specs.Prelude.{◌≡◌, ◌≢◌, ℕ, ◌+◌, true, Some}
use Rattle.std.specs.FinMap as map
use Rattle.sorted_sets.specs.{Counting.one_if, Rising.has}
use Rattle.rdf_term.specs.declared.triple.Triple.{Triple}
use Rattle.entity_model.specs.{declared.id.EntityId.EntityId, EntityId.entity_cmp}
use Rattle.entity_state.specs.declared.record.Record.{Record}
use Rattle.text_region.specs.{declared.piece.Piece.Piece, Region.Texts, Region.bytes_of}
use Rattle.triple_catalog.specs.Counts.{Exchanges}
use Rattle.triple_store.specs.StoreState.{AreKeysOf, IsSound, KeepsKeys, StoreState, counts_in}
use Rattle.replay_model.specs.{Records.Bytes, Union.Meaning, Union.triples_held}
use Rattle.shared_triples.specs.Lean.{AreCounted, stored_of, strangers, triples_of}
use Rattle.entity_counts.specs.Naming.{Naming, pages_naming}
use Rattle.lean_holdings.specs.declared.kept.LeanPage.{LeanPage}
use Rattle.holders.specs.Pieces.{IsHeld}
use Rattle.lean_holdings.specs.Holding.{counted_by}
use Rattle.lean_holdings.specs.Kept.{KeptRecords, held_with, kept_of, keys_held, piece_at, seen}

-- x is to be counted: all triples of its page are stored from now on, and its keys are theirs; nothing else is kept otherwise
pub record CountsIn (m : Meaning Triple) (x : EntityId) (s s2 : StoreState) (pages : Texts) (names : Naming) (kept kept2 : KeptRecords) : Type 0 where
  pub alike : seen pages kept2 ≡ seen pages kept
  pub pieces : (y : EntityId) → piece_at kept2 y ≡ piece_at kept y
  pub others : (y : EntityId) → y ≢ x → keys_held (kept_of kept2 y).held ≡ keys_held (kept_of kept y).held
  pub sound : IsSound s2
  pub moves : Exchanges (counts_in s) (counts_in s2) (triples_of (stored_of (counted_by names) m) (seen pages kept) x) (triples_of m (seen pages kept) x)
  pub keeps : KeepsKeys s s2
  pub keyed : AreKeysOf s2 (keys_held (kept_of kept2 x).held) (triples_of m (seen pages kept) x)

-- the record r of x is put in, and from then on m is n, which differs at x alone: its page has a piece, its stored triples came in the place of
-- those that were stored, and one page more or less names each entity that it names now or did; all that it names are counted
pub record PutsIn (m n : Meaning Triple) (x : EntityId) (s s2 : StoreState) (pages pages2 : Texts) (names names2 : Naming) (kept : KeptRecords) (r : Record LeanPage) : Type 0 where
  pub agree : (y : EntityId) → y ≢ x → (rev : ℕ) (bytes : Bytes) → n y rev bytes ≡ m y rev bytes
  pub texts : (y : EntityId) (p : Piece) → y ≢ x → piece_at kept y ≡ Some p → bytes_of pages2 p ≡ bytes_of pages p
  pub pieces : IsHeld (bytes_of pages2) (piece_at (map.insert kept x r))
  pub counted : counted_by names2 ≡ counted_by names
  pub named : (y : EntityId) → pages_naming names2 y + one_if (has entity_cmp y (strangers x (triples_of m (seen pages kept) x)))
      ≡ pages_naming names y + one_if (has entity_cmp y (strangers x (triples_held n x (held_with (bytes_of pages2) r.held))))
  pub known : AreCounted (counted_by names) (strangers x (triples_held n x (held_with (bytes_of pages2) r.held)))
  pub sound : IsSound s2
  pub moves : Exchanges (counts_in s) (counts_in s2) (triples_of (stored_of (counted_by names) m) (seen pages kept) x)
      (triples_held (stored_of (counted_by names) n) x (held_with (bytes_of pages2) r.held))
  pub keeps : KeepsKeys s s2
  pub keyed : AreKeysOf s2 (keys_held r.held) (triples_held (stored_of (counted_by names) n) x (held_with (bytes_of pages2) r.held))

-- x is to be counted no longer, and no page names it: what stands in its page alone isn't stored from now on, and its keys are those of the rest;
-- nothing else is kept otherwise
pub record CountsOut (m : Meaning Triple) (x : EntityId) (s s2 : StoreState) (pages : Texts) (names : Naming) (kept kept2 : KeptRecords) : Type 0 where
  pub counted : has entity_cmp x (counted_by names) ≡ true
  pub unnamed : pages_naming names x ≡ 0
  pub alike : seen pages kept2 ≡ seen pages kept
  pub pieces : (y : EntityId) → piece_at kept2 y ≡ piece_at kept y
  pub others : (y : EntityId) → y ≢ x → keys_held (kept_of kept2 y).held ≡ keys_held (kept_of kept y).held
  pub sound : IsSound s2
  pub moves : Exchanges (counts_in s) (counts_in s2) (triples_of (stored_of (counted_by names) m) (seen pages kept) x)
      (triples_of (stored_of (counted_by (map.remove names x)) m) (seen pages kept) x)
  pub keeps : KeepsKeys s s2
  pub keyed : AreKeysOf s2 (keys_held (kept_of kept2 x).held) (triples_of (stored_of (counted_by (map.remove names x)) m) (seen pages kept) x)
