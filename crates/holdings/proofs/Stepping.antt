-- Pages, store and region stay in step with the entities that hold by each version.
use Rattle.std.proofs.Common.{◌≡◌, ◌≢◌, ℕ, ◌<◌, true, List, [], Option, Some, None, is_some, unwrap_or, refl, sym, ◌∙◌, ap, subst}
use Rattle.std.specs.Prelude.{IfSome}
use Rattle.std.specs.FinMap as map
use Rattle.sorted_sets.specs.Rising.{has}
use Rattle.rdf_term.specs.{declared.triple.Triple.Triple, Order.triple_cmp}
use Rattle.entity_model.specs.{declared.id.EntityId.EntityId, declared.event.Event.Event, declared.mapping.MappingVersion.MappingVersion}
use Rattle.entity_model.specs.declared.mapping.MappingVersion.TheVariants.{One}
use Rattle.entity_state.specs.{declared.state.State.State, declared.record.Held.Held, declared.record.Record.Record}
use Rattle.text_region.specs.declared.piece.Piece.{Piece}
use Rattle.slot_keys.specs.{declared.key.Key.Key, declared.keys.Keys.Keys}
use Rattle.triple_store.specs.{declared.telling.Telling.Telling, declared.telling.Told.Told, Telling.TellsIf}
use Rattle.triple_store.specs.Counts.{Counts, Exchanges, count_of}
use Rattle.triple_store.specs.StoreState.{AreKeysOf, HasKey, IsSound, KeepsKeys, StoreState, beside, counts_in, limit_of}
use Rattle.triple_store.specs.Stored.{Changes}
use Rattle.replay_model.specs.{Records.Bytes, Records.Records, Records.record_of, Union.Meaning, Union.triples_held, Union.union}
use Rattle.replay_model.specs.Versions.{is_holder, meaning_by, version_at, with_version}
use Rattle.holders.specs.{Changing.Tells, Holders.AreBy, Holders.ByVersion, Roomed.HasRoom, Holding.AreHolders}
use Rattle.holdings.specs.{declared.kept.KeptPage.KeptPage, InStep.AreInStep, InStep.IsKept, Timed.AreTimed, Timed.IsTimed}
use Rattle.holdings.specs.Keeping.{FreesPiece, KeptRecords, held_keys, held_with, holds_in, kept_of, keys_held, piece_at, seen, with_keys}
use Rattle.fetched_pages.specs.Meaning.{meaning}
use Rattle.holdings.proofs.{Anew.anew_kept, Anew.anew_seen, Exchanging.content_of, Moving.seen_of, Rooming.room_held, Rooming.stored_union}
use Rattle.holders.proofs.ByVersion.{by_drop, by_keep, by_put, meaning_other, moved_out, moved_by_two, moved_to, by_two_holds, version_other, version_own}
use Rattle.holders.proofs.{Changing.tells, Keyed.keeps_through, Records.record_elsewhere, Records.record_here}
use Rattle.holdings.proofs.Replacing.{came, came_seen, kept_refused, page_held, placed_freed, stayed, stayed_seen, went, went_seen, with_bytes, with_page}
use Rattle.holdings.proofs.Timing.{if_moved, owned_kept, timed_put, timed_same, unknown_keys}

-- whether the entity of a record that is put in holds a page
own_holds : (kept : KeptRecords) (x : EntityId) (n : Record KeptPage) → holds_in (map.insert kept x n) x ≡ is_some n.held
own_holds kept x n = ap (λ (was : Record KeptPage). is_some was.held) (record_here kept x n)

-- and whether another one does
others_hold : (kept : KeptRecords) (x : EntityId) (n : Record KeptPage) (y : EntityId) → y ≢ x → holds_in (map.insert kept x n) y ≡ holds_in kept y
others_hold kept x n y other = ap (λ (was : Record KeptPage). is_some was.held) (record_elsewhere kept x n y other)

some_keys : (h : Option (Held KeptPage)) (keys : Keys) → is_some h ≡ true → is_some (held_keys h keys) ≡ true
some_keys None keys is = is
some_keys (Some h) keys is = refl

module _ (s : StoreState) (ids : ByVersion) (kept : KeptRecords) (x : EntityId) (h : AreInStep s ids kept) where
  abbrev before : Meaning Triple
  before = meaning_by meaning ids.by_two

  -- the meaning once the entity holds by a version
  abbrev after : MappingVersion → Meaning Triple
  after v = meaning_by meaning (with_version v x ids.by_two)

  agree : (v : MappingVersion) (y : EntityId) → y ≢ x → (rev : ℕ) (bytes : Bytes) → after v y rev bytes ≡ before y rev bytes
  agree v = meaning_other ids.by_two h.by.by_two_rises x meaning v

  own : (v : MappingVersion) → version_at (with_version v x ids.by_two) x ≡ v
  own v = version_own ids.by_two h.by.by_two_rises x v

  own_held : (v : MappingVersion) (held : Option (Held Bytes)) → triples_held (after v) x held ≡ triples_held (meaning v) x held
  own_held v None = refl
  own_held v (Some held) = ap (λ w. meaning w x held.revision held.content) (own v)

  versions : (v : MappingVersion) (y : EntityId) → y ≢ x → version_at (with_version v x ids.by_two) y ≡ version_at ids.by_two y
  versions v = version_other ids.by_two h.by.by_two_rises x v

  stepped : (ids2 : ByVersion) (v : MappingVersion) (s2 : StoreState) (all : KeptRecords) → ids2 ≡ moved_to ids x v → IsKept (after v) s2 all → AreBy (moved_to ids x v) (holds_in all)
      → AreTimed s2 (with_version v x ids.by_two) all → AreInStep s2 ids2 all
  stepped ids2 v s2 all is now by timed =
      subst (λ i. AreInStep s2 i all) (sym is) (record {
        kept = subst (λ (s : List EntityId). IsKept (meaning_by meaning s) s2 all) (sym (moved_by_two ids x v)) now;
        by = by;
        timed = subst (λ (s : List EntityId). AreTimed s2 s all) (sym (moved_by_two ids x v)) timed;
      })

  module _ (s1 s2 s3 : StoreState)
      (state : State) (reconciled : Option Event) (rev : ℕ) (content : KeptPage) (bytes : Bytes) (ts : List Triple) (old : List Key) (v : MappingVersion)
      (placed : Changes (beside s) (beside s1) content.piece None (Some bytes))
      (place_kept : (key : Key) (t : Triple) → HasKey s key t → HasKey s1 key t)
      (place_counts : counts_in s1 ≡ counts_in s)
      (keeps : KeepsKeys s1 s2)
      (texts : (p : Piece) → beside s2 p ≡ beside s1 p)
      (counts : counts_in s3 ≡ counts_in s2)
      (put_kept : (key : Key) (t : Triple) → HasKey s2 key t → HasKey s3 key t)
      (freed : FreesPiece (piece_at kept x) (beside s2) (beside s3)) where
    -- the records after a page came
    pub page_seen : seen s3 (map.insert kept x (with_page state reconciled rev content)) ≡ map.insert (seen s kept) x (with_bytes state reconciled rev bytes)
    page_seen = came_seen before (after v) x (agree v) s s1 s2 s3 kept state reconciled rev content bytes ts old h.kept placed place_kept place_counts keeps texts counts put_kept freed

    -- its times
    page_timed : IsKept (after v) s3 (map.insert kept x (with_page state reconciled rev content)) → IfSome content.times (IsTimed v s2 x rev bytes content.keys.rising.items)
        → AreTimed s3 (with_version v x ids.by_two) (map.insert kept x (with_page state reconciled rev content))
    page_timed now timed =
        let own_text : unwrap_or (beside s3 content.piece) [] ≡ bytes =
        ap content_of (page_held before (after v) x (agree v) s s1 s2 s3 kept state reconciled rev content bytes ts old h.kept placed place_kept place_counts keeps texts counts put_kept freed) in
        let owned : (t : Triple) → has triple_cmp t (meaning v x rev bytes) ≡ true → 0 < count_of (counts_in s3) t = λ t there.
        owned_kept (after v) s3 (map.insert kept x (with_page state reconciled rev content)) now x t
        (ap (λ (r : Record KeptPage). has triple_cmp t (triples_held (after v) x (held_with (beside s3) r.held))) (record_here kept x (with_page state reconciled rev content))
        ∙ ap (λ (b : Bytes). has triple_cmp t (after v x rev b)) own_text
        ∙ ap (λ (w : MappingVersion). has triple_cmp t (meaning w x rev bytes)) (own v) ∙ there) in
        timed_put s s3 ids.by_two (with_version v x ids.by_two) kept x (with_page state reconciled rev content) h.timed now
        (keeps_through s s1 s2 s3 place_kept keeps counts put_kept) (versions v)
        (λ y other. ap (λ (records : Records). record_of records y) page_seen ∙ record_elsewhere (seen s kept) x (with_bytes state reconciled rev bytes) y other)
        (subst (λ (w : MappingVersion). IfSome content.times (IsTimed w s3 x rev (unwrap_or (beside s3 content.piece) []) content.keys.rising.items)) (sym (own v))
        (subst (λ (b : Bytes). IfSome content.times (IsTimed v s3 x rev b content.keys.rising.items)) (sym own_text)
        (if_moved v s2 s3 x (record { kept = λ key t is _. put_kept key t is }) rev bytes content.keys.rising.items content.times owned timed)))

    -- a page came, mapped by the version
    pub page_step : (ids2 : ByVersion) → ids2 ≡ moved_to ids x v
        → IfSome content.times (IsTimed v s2 x rev bytes content.keys.rising.items)
        → IsSound s3
        → old ≡ keys_held (kept_of kept x).held
        → ((gone : List Triple) → AreKeysOf s1 old gone → Exchanges (counts_in s1) (counts_in s2) gone ts)
        → AreKeysOf s2 content.keys.rising.items ts
        → ((t : Triple) → has triple_cmp t ts ≡ has triple_cmp t (meaning v x rev bytes))
        → AreInStep s3 ids2 (map.insert kept x (with_page state reconciled rev content))
    page_step ids2 is timed sound were exchanges keyed meant =
        let now : IsKept (after v) s3 (map.insert kept x (with_page state reconciled rev content)) =
        came before (after v) x (agree v) s s1 s2 s3 kept state reconciled rev content bytes ts old h.kept placed place_kept place_counts keeps texts counts put_kept freed
        sound were exchanges keyed (λ t. meant t ∙ ap (λ w. has triple_cmp t (meaning w x rev bytes)) (sym (own v))) in
        stepped ids2 v s3 (map.insert kept x (with_page state reconciled rev content)) is now
        (by_put ids (holds_in kept) _ x v h.by (others_hold kept x (with_page state reconciled rev content)) (own_holds kept x (with_page state reconciled rev content)))
        (page_timed now timed)

  module _ (s2 s3 : StoreState) (state : State) (reconciled : Option Event)
      (texts : (p : Piece) → beside s2 p ≡ beside s p)
      (freed : FreesPiece (piece_at kept x) (beside s2) (beside s3)) where
    abbrev without : Record KeptPage
    without = record { state = state; held = None; reconciled = reconciled }

    -- the records after the page went
    pub gone_seen : seen s3 (map.insert kept x without) ≡ map.insert (seen s kept) x (record { state = state; held = None; reconciled = reconciled })
    gone_seen = went_seen before (after One) x (agree One) s s2 s3 kept state reconciled h.kept texts freed

    -- the page went
    pub gone_step : (ids2 : ByVersion) (old : List Key) → ids2 ≡ moved_out ids x
        → IsSound s3
        → old ≡ keys_held (kept_of kept x).held
        → ((gone : List Triple) → AreKeysOf s old gone → Exchanges (counts_in s) (counts_in s2) gone [])
        → KeepsKeys s s2
        → counts_in s3 ≡ counts_in s2
        → ((key : Key) (t : Triple) → HasKey s2 key t → HasKey s3 key t)
        → AreInStep s3 ids2 (map.insert kept x without)
    gone_step ids2 old is sound were exchanges keeps counts put_kept =
        let now : IsKept (after One) s3 (map.insert kept x without) =
        went before (after One) x (agree One) s s2 s3 kept state reconciled h.kept texts freed old sound were exchanges keeps counts put_kept in
        subst (λ i. AreInStep s3 i (map.insert kept x without)) (sym is) (record {
          kept = now;
          by = by_drop ids (holds_in kept) _ x h.by (others_hold kept x without) (own_holds kept x without);
          timed = timed_put s s3 ids.by_two (with_version One x ids.by_two) kept x without h.timed now (keeps_through s s s2 s3 (λ _ _ is. is) keeps counts put_kept) (versions One)
              (λ y other. ap (λ (records : Records). record_of records y) gone_seen ∙ record_elsewhere (seen s kept) x (record { state = state; held = None; reconciled = reconciled }) y other)
              tt;
        })

  -- the page stays
  pub stay_step : (state : State) (reconciled : Option Event) → AreInStep s ids (map.insert kept x (record { state = state; held = (kept_of kept x).held; reconciled = reconciled }))
  stay_step state reconciled =
      let same : Record KeptPage = record { state = state; held = (kept_of kept x).held; reconciled = reconciled } in
      record {
        kept = stayed before s kept x state reconciled h.kept;
        by = by_keep ids (holds_in kept) _ x h.by (others_hold kept x same) (own_holds kept x same);
        timed = timed_put s s ids.by_two ids.by_two kept x same h.timed (stayed before s kept x state reconciled h.kept) (record { kept = λ _ _ is _. is }) (λ _ _. refl)
            (λ y other. ap (λ (records : Records). record_of records y) (stayed_seen before s kept x state reconciled h.kept) ∙ record_elsewhere (seen s kept) x (record { state = state; held = (record_of (seen s kept) x).held; reconciled = reconciled }) y other)
            (h.timed x);
      }

  module _ (s2 : StoreState) (keys : Keys) (v : MappingVersion)
      (there : is_some (kept_of kept x).held ≡ true)
      (texts : (p : Piece) → beside s2 p ≡ beside s p) where
    -- what is seen after the page was remapped
    pub again_seen : seen s2 (map.insert kept x (with_keys (kept_of kept x) keys)) ≡ seen s kept
    again_seen = anew_seen before (after v) x (agree v) s s2 kept keys h.kept there texts

    -- the page was remapped by the version
    pub again_step : (ids2 : ByVersion) (old : List Key) (ts : List Triple) → ids2 ≡ moved_to ids x v
        → IsSound s2
        → old ≡ keys_held (kept_of kept x).held
        → ((gone : List Triple) → AreKeysOf s old gone → Exchanges (counts_in s) (counts_in s2) gone ts)
        → KeepsKeys s s2
        → AreKeysOf s2 keys.rising.items ts
        → ((t : Triple) → has triple_cmp t ts ≡ has triple_cmp t (triples_held (meaning v) x (held_with (beside s) (kept_of kept x).held)))
        → AreInStep s2 ids2 (map.insert kept x (with_keys (kept_of kept x) keys))
    again_step ids2 old ts is sound were exchanges keeps keyed meant =
        let now : IsKept (after v) s2 (map.insert kept x (with_keys (kept_of kept x) keys)) =
        anew_kept before (after v) x (agree v) s s2 kept keys h.kept there texts old ts sound were exchanges keeps keyed
        (λ t. meant t ∙ ap (has triple_cmp t) (sym (own_held v (held_with (beside s) (kept_of kept x).held)))) in
        stepped ids2 v s2 (map.insert kept x (with_keys (kept_of kept x) keys)) is now
        (by_put ids (holds_in kept) _ x v h.by (others_hold kept x (with_keys (kept_of kept x) keys)) (own_holds kept x (with_keys (kept_of kept x) keys) ∙ some_keys (kept_of kept x).held keys there))
        (timed_put s s2 ids.by_two (with_version v x ids.by_two) kept x (with_keys (kept_of kept x) keys) h.timed now keeps (versions v)
        (λ y other. ap (λ (records : Records). record_of records y) again_seen)
        (unknown_keys (version_at (with_version v x ids.by_two) x) s2 (beside s2) x (kept_of kept x).held keys))

-- nothing comes
pub refused_step : (s : StoreState) (ids : ByVersion) (kept : KeptRecords) → AreInStep s ids kept → (s2 : StoreState) → IsSound s2 → counts_in s2 ≡ counts_in s → KeepsKeys s s2 → ((p : Piece) → beside s2 p ≡ beside s p)
    → AreInStep s2 ids kept
refused_step s ids kept h s2 sound counts keeps texts =
    let now : IsKept (meaning_by meaning ids.by_two) s2 kept = kept_refused (meaning_by meaning ids.by_two) s s2 kept h.kept sound counts keeps texts in
    record { kept = now; by = h.by; timed = timed_same s s2 ids.by_two kept h.timed now keeps texts }

-- a page can't come, and the piece that was placed for it is freed
pub undone_step : (s : StoreState) (ids : ByVersion) (kept : KeptRecords) → AreInStep s ids kept → (s1 s2 s3 : StoreState) (piece : Piece) (bytes : Bytes)
    → Changes (beside s) (beside s1) piece None (Some bytes)
    → ((key : Key) (t : Triple) → HasKey s key t → HasKey s1 key t)
    → counts_in s1 ≡ counts_in s
    → KeepsKeys s1 s2
    → ((p : Piece) → beside s2 p ≡ beside s1 p)
    → counts_in s2 ≡ counts_in s1
    → IsSound s3
    → counts_in s3 ≡ counts_in s2
    → ((key : Key) (t : Triple) → HasKey s2 key t → HasKey s3 key t)
    → Changes (beside s2) (beside s3) piece (beside s2 piece) None
    → AreInStep s3 ids kept
undone_step s ids kept h s1 s2 s3 piece bytes placed place_kept place_counts keeps texts err sound counts put_kept freed =
    refused_step s ids kept h s3 sound (counts ∙ err ∙ place_counts)
    (keeps_through s s1 s2 s3 place_kept keeps counts put_kept)
    (placed_freed (beside s) (beside s1) (beside s2) (beside s3) piece bytes placed texts freed)

-- the entities that hold, among the records that are seen
pub links : (s : StoreState) (kept : KeptRecords) (x : EntityId) → is_holder (seen s kept) x ≡ is_some (kept_of kept x).held
links s kept x = ap (λ (was : Record Bytes). is_some was.held) (seen_of (beside s) kept x) ∙ by (kept_of kept x).held
  where
    by : (h : Option (Held KeptPage)) → is_some (held_with (beside s) h) ≡ is_some h
    by None = refl
    by (Some h) = refl

-- what is held has room
pub has_room : (s : StoreState) (ids : ByVersion) (kept : KeptRecords) → AreInStep s ids kept → HasRoom (meaning_by meaning ids.by_two) (limit_of s) (seen s kept)
has_room s ids kept h = room_held (meaning_by meaning ids.by_two) s kept h.kept

-- those of version Two hold
pub are_holders : (s : StoreState) (ids : ByVersion) (kept : KeptRecords) → AreInStep s ids kept → AreHolders ids.by_two (seen s kept)
are_holders s ids kept h = by_two_holds ids (holds_in kept) (seen s kept) h.by (links s kept)

-- what the store tells is the change of the union, where it is in step with the records before and after
pub step_tells : (s s2 : StoreState) (ids ids2 : ByVersion) (kept kept2 : KeptRecords) → AreInStep s ids kept → AreInStep s2 ids2 kept2
    → (old new : Counts) → old ≡ counts_in s → new ≡ counts_in s2 → (telling : Telling) (told : Told) → TellsIf telling old new told
    → Tells telling (union triple_cmp (meaning_by meaning ids.by_two) (seen s kept)) (union triple_cmp (meaning_by meaning ids2.by_two) (seen s2 kept2)) told
step_tells s s2 ids ids2 kept kept2 h k old new was is telling told tells_it = tells telling old new _ _
    (ap (λ (counts : Counts). map.keys counts) was ∙ stored_union (meaning_by meaning ids.by_two) s kept h.kept)
    (ap (λ (counts : Counts). map.keys counts) is ∙ stored_union (meaning_by meaning ids2.by_two) s2 kept2 k.kept)
    told tells_it

-- where the store stays as it was, so does the union
pub stored_still : (s : StoreState) (ids ids2 : ByVersion) (kept kept2 : KeptRecords) → AreInStep s ids kept → AreInStep s ids2 kept2
    → union triple_cmp (meaning_by meaning ids2.by_two) (seen s kept2) ≡ union triple_cmp (meaning_by meaning ids.by_two) (seen s kept)
stored_still s ids ids2 kept kept2 h k =
    sym (stored_union (meaning_by meaning ids2.by_two) s kept2 k.kept) ∙ stored_union (meaning_by meaning ids.by_two) s kept h.kept
