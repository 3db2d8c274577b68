-- The records that are seen of what is kept.
use Rattle.std.proofs.Common.{◌≡◌, ◌≢◌, ℕ, cond, Option, Some, None, [], unwrap_or, refl, sym, ◌∙◌, ap, ⊎_elim}
use Rattle.std.specs.FinMap as map
use Rattle.std.specs.Ordering.{eq_by_cmp}
use Rattle.entity_model.specs.{declared.id.EntityId.EntityId, EntityId.entity_cmp, EntityId.entity_cmp_total, EntityId.entity_cmp_same}
use Rattle.entity_state.specs.{declared.record.Held.Held, declared.record.Record.Record, Record.blank, Record.held_revision}
use Rattle.entity_state.specs.{declared.standing.Standing.Standing, Standing.standing_of}
use Rattle.text_region.specs.declared.piece.Piece.{Piece}
use Rattle.replay_model.specs.Records.{Bytes, record_of}
use Rattle.shared_triples.proofs.Holding.{id_tells}
use Rattle.lean_holdings.specs.declared.kept.LeanPage.{LeanPage}
use Rattle.holders.specs.Pieces.{PieceTexts}
use Rattle.lean_holdings.specs.Kept.{KeptRecords, held_with, kept_of, piece_at, piece_held, record_with, records_with}
use Rattle.holders.proofs.Values.{changed, get-values, values-insert}

-- the record of an entity among the records that are seen
pub seen_of : (f : PieceTexts) (kept : KeptRecords) (x : EntityId) → record_of (records_with f kept) x ≡ record_with f (kept_of kept x)
seen_of f kept x = ap (λ o. unwrap_or o blank) (get-values (record_with f) kept x) ∙ by (map.get kept x)
  where
    by : (found : Option (Record LeanPage)) → unwrap_or (changed (record_with f) found) blank ≡ record_with f (unwrap_or found blank)
    by None = refl
    by (Some r) = refl

revision_same : (f : PieceTexts) (h : Option (Held LeanPage)) → held_revision (held_with f h) ≡ held_revision h
revision_same f None = refl
revision_same f (Some h) = refl

-- what stands of a record doesn't need the texts
pub standing_is : (f : PieceTexts) (kept : KeptRecords) (x : EntityId) → standing_of (record_of (records_with f kept) x) ≡ standing_of (kept_of kept x)
standing_is f kept x = ap (λ (was : Record Bytes). standing_of was) (seen_of f kept x) ∙ ap standing (revision_same f (kept_of kept x).held)
  where
    standing : Option ℕ → Standing
    standing held = record { state = (kept_of kept x).state; held = held; reconciled = (kept_of kept x).reconciled }

pub held_is : (f : PieceTexts) (kept : KeptRecords) (x : EntityId) → (record_of (records_with f kept) x).held ≡ held_with f (kept_of kept x).held
held_is f kept x = ap (λ (was : Record Bytes). was.held) (seen_of f kept x)

module _ (f k : PieceTexts) where
  held_same : (h : Option (Held LeanPage)) → ((p : Piece) → piece_held h ≡ Some p → k p ≡ f p) → held_with k h ≡ held_with f h
  held_same None texts = refl
  held_same (Some h) texts = ap (λ (o : Option Bytes). Some (record { revision = h.revision; content = unwrap_or o [] })) (texts h.content.piece refl)

  changed_same : (found : Option (Record LeanPage)) → ((p : Piece) → piece_held (unwrap_or found blank).held ≡ Some p → k p ≡ f p) → changed (record_with k) found ≡ changed (record_with f) found
  changed_same None texts = refl
  changed_same (Some r) texts = ap (λ (h : Option (Held Bytes)). Some (record { state = r.state; held = h; reconciled = r.reconciled })) (held_same r.held texts)

  -- where what the others hold has its bytes, the others' records are seen as they were
  pub seen_moved : (kept : KeptRecords) (x : EntityId) (n : Record LeanPage) → ((y : EntityId) (p : Piece) → y ≢ x → piece_at kept y ≡ Some p → k p ≡ f p)
      → records_with k (map.insert kept x n) ≡ map.insert (records_with f kept) x (record_with k n)
  seen_moved kept x n texts =
      values-insert (record_with k) kept x n
      ∙ map.same_map entity_cmp_total entity_cmp_same _ _ (λ y.
      map.get-insert entity_cmp_total (records_with k kept) x (record_with k n) y
      ∙ ⊎_elim
      (λ own. ap (λ b. cond b (Some (record_with k n)) (map.get (records_with k kept) y)) own.0 ∙ ap (λ b. cond b (Some (record_with k n)) (map.get (records_with f kept) y)) (sym own.0))
      (λ other. ap (cond (eq_by_cmp entity_cmp y x) (Some (record_with k n)))
      (get-values (record_with k) kept y ∙ changed_same (map.get kept y) (λ p. texts y p other.1) ∙ sym (get-values (record_with f) kept y)))
      (id_tells y x)
      ∙ sym (map.get-insert entity_cmp_total (records_with f kept) x (record_with k n) y))
