-- How many times each triple of a held page comes is known on while the store changes.
use Rattle.std.proofs.Common.{◌≡◌, ◌≢◌, ℕ, ◌<◌, true, List, [], Option, Some, None, unwrap_or, refl, sym, ◌∙◌, ap, subst, ⊎_elim, arith}
use Rattle.std.specs.Prelude.{IfSome}
use Rattle.std.specs.FinMap as map
use Rattle.sorted_sets.specs.Rising.{has}
use Rattle.rdf_term.specs.{declared.triple.Triple.Triple, Order.triple_cmp}
use Rattle.entity_json.specs.Document.{document_of}
use Rattle.entity_model.specs.{declared.id.EntityId.EntityId, declared.mapping.MappingVersion.MappingVersion}
use Rattle.entity_state.specs.{declared.record.Held.Held, declared.record.Record.Record}
use Rattle.replay_model.specs.{Records.Bytes, Records.record_of, Union.Meaning, Union.owners, Union.triples_held}
use Rattle.replay_model.specs.Versions.{meaning_by, version_at}
use Rattle.slot_keys.specs.{declared.key.Key.Key, declared.keys.Keys.Keys}
use Rattle.text_region.specs.declared.piece.Piece.{Piece}
use Rattle.triple_store.specs.{Counts.count_of, StoreState.KeepsKeys, StoreState.StoreState, StoreState.beside, StoreState.counts_in}
use Rattle.triple_store.proofs.Lasting.{times_last_if_known}
use Rattle.holdings.specs.{declared.kept.KeptPage.KeptPage, declared.kept.PageTimes.PageTimes, InStep.IsKept, InStep.triples_kept}
use Rattle.holders.specs.Pieces.{PieceTexts}
use Rattle.holdings.specs.Keeping.{KeptRecords, held_keys, held_with, kept_of, seen}
use Rattle.holdings.specs.Timed.{AreTimed, IsTimed, IsTimedHeld}
use Rattle.fetched_pages.specs.Meaning.{meaning}
use Rattle.fetched_pages.proofs.Listing.{listed_meant}
use Rattle.holders.proofs.{Records.record_here, Records.record_elsewhere, Owning.has_owner, Records.id_tells}
use Rattle.holdings.proofs.Moving.{held_is, held_same}

-- what is kept of each entity has an owner
pub owned_kept : (m : Meaning Triple) (s : StoreState) (kept : KeptRecords) → IsKept m s kept → (x : EntityId) (t : Triple) → has triple_cmp t (triples_kept m (beside s) kept x) ≡ true → 0 < count_of (counts_in s) t
owned_kept m s kept h x t there =
    let held : triples_held m x (record_of (seen s kept) x).held ≡ triples_kept m (beside s) kept x = ap (triples_held m x) (held_is s kept x) in
    let some : 0 < owners triple_cmp m (seen s kept) t = has_owner m (seen s kept) x t (ap (has triple_cmp t) held ∙ there) in
    let count : count_of (counts_in s) t ≡ owners triple_cmp m (seen s kept) t = h.counted.owned t in
    omega arith

-- what is held means what it means by the version of its entity
pub own_meaning : (by_two : List EntityId) (x : EntityId) (held : Option (Held Bytes)) → triples_held (meaning_by meaning by_two) x held ≡ triples_held (meaning (version_at by_two x)) x held
own_meaning by_two x None = refl
own_meaning by_two x (Some held) = refl

module _ (version : MappingVersion) (s s2 : StoreState) (x : EntityId) (keeps : KeepsKeys s s2) where
  -- the times of a page whose triples are still stored
  pub timed_moved : (rev : ℕ) (bytes : Bytes) (keys : List Key) (known : PageTimes) → ((t : Triple) → has triple_cmp t (meaning version x rev bytes) ≡ true → 0 < count_of (counts_in s2) t)
      → IsTimed version s x rev bytes keys known → IsTimed version s2 x rev bytes keys known
  timed_moved rev bytes keys known owned h = record {
    triples = h.triples;
    listed = h.listed;
    times_are = times_last_if_known s s2 keys known.times.items h.triples h.times_are keeps
        (λ t there. owned t (sym (listed_meant version x rev (document_of x bytes) known.counts h.triples h.listed t) ∙ there));
  }

  pub if_moved : (rev : ℕ) (bytes : Bytes) (keys : List Key) (known : Option PageTimes) → ((t : Triple) → has triple_cmp t (meaning version x rev bytes) ≡ true → 0 < count_of (counts_in s2) t)
      → IfSome known (IsTimed version s x rev bytes keys) → IfSome known (IsTimed version s2 x rev bytes keys)
  if_moved rev bytes keys None owned h = tt
  if_moved rev bytes keys (Some known) owned h = timed_moved rev bytes keys known owned h

  -- and of what is held, where its piece has its text
  pub timed_last : (f k : PieceTexts) (held : Option (Held KeptPage)) → held_with k held ≡ held_with f held
      → ((t : Triple) → has triple_cmp t (triples_held (meaning version) x (held_with f held)) ≡ true → 0 < count_of (counts_in s2) t)
      → IsTimedHeld version s f x held → IsTimedHeld version s2 k x held
  timed_last f k None same owned h = tt
  timed_last f k (Some held) same owned h =
      subst (λ (bytes : Bytes). IfSome held.content.times (IsTimed version s2 x held.revision bytes held.content.keys.rising.items))
      (sym (ap content same)) (if_moved held.revision (unwrap_or (f held.content.piece) []) held.content.keys.rising.items held.content.times owned h)
    where
      content : Option (Held Bytes) → Bytes
      content None = []
      content (Some one) = one.content

-- an entity whose record, version and text stay
pub timed_other : (s s2 : StoreState) (by_two by_two2 : List EntityId) (kept kept2 : KeptRecords) → AreTimed s by_two kept → IsKept (meaning_by meaning by_two2) s2 kept2 → KeepsKeys s s2
    → (y : EntityId) → kept_of kept2 y ≡ kept_of kept y → version_at by_two2 y ≡ version_at by_two y → held_with (beside s2) (kept_of kept y).held ≡ held_with (beside s) (kept_of kept y).held
    → IsTimedHeld (version_at by_two2 y) s2 (beside s2) y (kept_of kept2 y).held
timed_other s s2 by_two by_two2 kept kept2 h now keeps y record_same version_same text_same =
    let held = (kept_of kept y).held in
    let means : triples_kept (meaning_by meaning by_two2) (beside s2) kept2 y ≡ triples_held (meaning (version_at by_two y)) y (held_with (beside s) held) =
    ap (λ (r : Record KeptPage). triples_held (meaning_by meaning by_two2) y (held_with (beside s2) r.held)) record_same
    ∙ ap (triples_held (meaning_by meaning by_two2) y) text_same
    ∙ own_meaning by_two2 y (held_with (beside s) held)
    ∙ ap (λ (v : MappingVersion). triples_held (meaning v) y (held_with (beside s) held)) version_same in
    subst (λ (r : Record KeptPage). IsTimedHeld (version_at by_two2 y) s2 (beside s2) y r.held) (sym record_same)
    (subst (λ (v : MappingVersion). IsTimedHeld v s2 (beside s2) y held) (sym version_same)
    (timed_last (version_at by_two y) s s2 y keeps (beside s) (beside s2) held text_same
    (λ t there. owned_kept (meaning_by meaning by_two2) s2 kept2 now y t (ap (has triple_cmp t) means ∙ there)) (h y)))

-- where all records stay
pub timed_same : (s s2 : StoreState) (by_two : List EntityId) (kept : KeptRecords) → AreTimed s by_two kept → IsKept (meaning_by meaning by_two) s2 kept → KeepsKeys s s2 → ((p : Piece) → beside s2 p ≡ beside s p)
    → AreTimed s2 by_two kept
timed_same s s2 by_two kept h now keeps texts y =
    timed_other s s2 by_two by_two kept kept h now keeps y refl refl (held_same (beside s) (beside s2) (kept_of kept y).held (λ p _. texts p))

-- where the record of one entity is put in
pub timed_put : (s s2 : StoreState) (by_two by_two2 : List EntityId) (kept : KeptRecords) (x : EntityId) (n : Record KeptPage) → AreTimed s by_two kept → IsKept (meaning_by meaning by_two2) s2 (map.insert kept x n) → KeepsKeys s s2
    → ((y : EntityId) → y ≢ x → version_at by_two2 y ≡ version_at by_two y)
    → ((y : EntityId) → y ≢ x → record_of (seen s2 (map.insert kept x n)) y ≡ record_of (seen s kept) y)
    → IsTimedHeld (version_at by_two2 x) s2 (beside s2) x n.held
    → AreTimed s2 by_two2 (map.insert kept x n)
timed_put s s2 by_two by_two2 kept x n h now keeps versions records own y = ⊎_elim
    (λ same.
    subst (λ (z : EntityId). IsTimedHeld (version_at by_two2 z) s2 (beside s2) z (kept_of (map.insert kept x n) z).held) (sym same.1)
    (subst (λ (r : Record KeptPage). IsTimedHeld (version_at by_two2 x) s2 (beside s2) x r.held) (sym (record_here kept x n)) own))
    (λ other.
    timed_other s s2 by_two by_two2 kept (map.insert kept x n) h now keeps y (record_elsewhere kept x n y other.1) (versions y other.1)
    (ap (λ (r : Record KeptPage). held_with (beside s2) r.held) (sym (record_elsewhere kept x n y other.1))
    ∙ sym (held_is s2 (map.insert kept x n) y) ∙ ap (λ (r : Record Bytes). r.held) (records y other.1) ∙ held_is s kept y))
    (id_tells y x)

-- of a page that was mapped anew nothing is known
pub unknown_keys : (version : MappingVersion) (s : StoreState) (f : PieceTexts) (x : EntityId) (held : Option (Held KeptPage)) (keys : Keys) → IsTimedHeld version s f x (held_keys held keys)
unknown_keys version s f x None keys = tt
unknown_keys version s f x (Some held) keys = tt
