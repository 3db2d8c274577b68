-- The parts of a page come in the place of others, all stays in step, and the change is told.
use Rattle.std.proofs.Common.{◌≡◌, ◌≢◌, ℕ, ◌<◌, true, List, Option, Some, None, [], filter, not, is_some, refl, sym, ◌∙◌, ap, subst, ⊎_elim}
use Rattle.std.specs.FinMap as map
use Rattle.sorted_sets.specs.Rising.{difference, has, sorted}
use Rattle.sorted_sets.proofs.Rising.{has-sorted}
use Rattle.rdf_term.specs.{declared.triple.Triple.Triple, Fit.HasFitAndShortTerms, Order.triple_cmp, Order.triple_cmp-total}
use Rattle.entity_model.specs.{declared.id.EntityId.EntityId, declared.event.Event.Event, declared.mapping.MappingVersion.MappingVersion, EntityId.entity_cmp}
use Rattle.entity_model.specs.declared.mapping.MappingVersion.TheVariants.{One}
use Rattle.entity_state.specs.{declared.state.State.State, declared.record.Held.Held, declared.record.Record.Record}
use Rattle.text_region.specs.{declared.piece.Piece.Piece, Region.Texts, Region.Updates, Region.bytes_of}
use Rattle.text_region.proofs.Pieces.{piece_tells}
use Rattle.slot_keys.specs.{declared.key.Key.Key, declared.keys.Keys.Keys}
use Rattle.triple_catalog.specs.{declared.lines.TripleLines.TripleLines, Counts.Counts, Counts.Exchanges, Counts.HaveOwners, Lines.AreLinesOf}
use Rattle.triple_store.specs.StoreState.{AreKeysOf, IsSound, KeepsKeys, StoreState, counts_in}
use Rattle.triple_store.proofs.Laid.{sound_owned}
use Rattle.replay_model.specs.{Records.Bytes, Records.Records, Records.record_of, Union.Meaning, Union.owners, Union.triples_held, Union.union}
use Rattle.replay_model.specs.Versions.{meaning_by, version_at, with_version}
use Rattle.fetched_pages.specs.Meaning.{meaning}
use Rattle.shared_triples.specs.Lean.{AreCounted, AreNew, IsLean, OthersHoldAlike, count_in, is_own, own_of, stored_of, strangers, triples_of}
use Rattle.shared_triples.proofs.{Changing.gained_in_order, Changing.gained_once, Changing.new_keys, Keeping.put_in-alike}
use Rattle.entity_counts.specs.Naming.{Naming}
use Rattle.parts_exchange.specs.{declared.exchanging.PartsChange.PartsChange, declared.exchanging.PartsExchange.PartsExchange}
use Rattle.parts_exchange.specs.{Exchanged.IsPartsChange}
use Rattle.lean_holdings.specs.{declared.kept.LeanPage.LeanPage, Changing.IsChangeOf, Freeing.FreesPiece}
use Rattle.holders.specs.{Holders.AreBy, Holders.ByVersion, Pieces.IsHeld, Pieces.PieceTexts}
use Rattle.lean_holdings.specs.{Holding.IsKept, Holding.counted_by, Holding.strangers_on, InStep.AreInStep}
use Rattle.lean_holdings.specs.{Moving.AreListsOf, Moving.HaveMoved, Moving.MayMove, Moving.PartLists}
use Rattle.lean_holdings.specs.Kept.{KeptRecords, held_keys, holds_in, kept_of, keys_held, piece_at, records_with, seen, with_keys}
use Rattle.holders.proofs.ByVersion.{by_drop, by_put, meaning_other, moved_out, moved_to, version_own}
use Rattle.holders.proofs.Records.{record_here}
use Rattle.lean_holdings.proofs.{CountedIn.still_kept, InStep.others_hold, InStep.own_holds, Putting.gone_seen, Putting.page_comes, Putting.page_goes, Putting.page_seen}
use Rattle.lean_holdings.proofs.{Ordered.AreMergedInOrder, Ordered.merged_in_order, Ordered.union_fit, Staying.page_again, Strange.few_name}
use Rattle.lean_holdings.proofs.{Strange.some_names}

some_keys : (h : Option (Held LeanPage)) (keys : Keys) → is_some h ≡ true → is_some (held_keys h keys) ≡ true
some_keys None keys is = is
some_keys (Some h) keys is = refl

-- ---- what is told

module _ (x : EntityId) (counted : List EntityId) (m n : Meaning Triple) (p q : Counts) (before after : Records)
    (was : IsLean m counted (count_in p) before) (now : IsLean n counted (count_in q) after) (alike : OthersHoldAlike x m before n after)
    (owned_p : HaveOwners p) (owned_q : HaveOwners q) (old new : List Triple)
    (old_is : sorted triple_cmp old ≡ triples_of (own_of counted m) before x) (new_is : sorted triple_cmp new ≡ triples_of (own_of counted n) after x) where
  -- what came
  told_came : (first second : TripleLines) → AreLinesOf first (difference triple_cmp (sorted triple_cmp new) (sorted triple_cmp old))
      → AreLinesOf second (difference triple_cmp (map.keys q) (map.keys p)) →
      ((t : Triple) → has triple_cmp t (union triple_cmp n after) ≡ true → HasFitAndShortTerms t)
      → AreMergedInOrder first second (difference triple_cmp (union triple_cmp n after) (union triple_cmp m before))
  told_came first second first_are second_are fit =
      let came : List Triple = difference triple_cmp (map.keys q) (map.keys p) in
      let fresh : AreNew (count_in p) (count_in q) came = new_keys p q owned_p owned_q in
      merged_in_order first second old new (triples_of (own_of counted m) before x) (triples_of (own_of counted n) after x)
      (union triple_cmp m before) (union triple_cmp n after) p q first_are second_are old_is new_is
      (gained_once x counted m n (count_in p) (count_in q) before after was now alike came fresh)
      (gained_in_order x counted m n (count_in p) (count_in q) before after was now alike came fresh) fit

-- the change of the parts is that of the union
step_change : (x : EntityId) (counted : List EntityId) (m n : Meaning Triple) (p q : Counts) (before after : Records)
    → IsLean m counted (count_in p) before → IsLean n counted (count_in q) after → OthersHoldAlike x m before n after → HaveOwners p → HaveOwners q
    → (old new : List Triple) → sorted triple_cmp old ≡ triples_of (own_of counted m) before x → sorted triple_cmp new ≡ triples_of (own_of counted n) after x
    → (change : PartsChange) → IsPartsChange p q old new change
    → ((t : Triple) → has triple_cmp t (union triple_cmp m before) ≡ true → HasFitAndShortTerms t) →
    ((t : Triple) → has triple_cmp t (union triple_cmp n after) ≡ true → HasFitAndShortTerms t)
    → IsChangeOf (union triple_cmp m before) (union triple_cmp n after) change
step_change x counted m n p q before after was now alike owned_p owned_q old new old_is new_is change told fit_before fit_after =
    let came =
    told_came x counted m n p q before after was now alike owned_p owned_q old new old_is new_is change.own.came change.stored.came
    told.own.came told.stored.came fit_after in
    let gone =
    told_came x counted n m q p after before now was (λ y other. sym (alike y other)) owned_q owned_p new old new_is old_is change.own.gone
    change.stored.gone told.own.gone told.stored.gone fit_before in
    record { came = came.0; gone = gone.0; came_own = came.1; came_stored = came.2; gone_own = gone.1; gone_stored = gone.2 }

-- ---- the version of what is held

-- the parts by the version of an entity are those of what it means
pub parts_by : (counted : List EntityId) (by_two : List EntityId) (x : EntityId) (v : MappingVersion) → version_at by_two x ≡ v
    → (held : Option (Held Bytes)) (p : PartLists) → AreListsOf counted (meaning v) x held p → AreListsOf counted (meaning_by meaning by_two) x held p
parts_by counted by_two x v is None p are = record { own = are.own; stored = are.stored; fit = are.fit; rising = are.rising; names = are.names }
parts_by counted by_two x v is (Some held) p are = record {
  own = are.own ∙ ap (λ w. filter (is_own counted x) (meaning w x held.revision held.content)) (sym is);
  stored = are.stored ∙ ap (λ w. filter (λ t. not (is_own counted x t)) (meaning w x held.revision held.content)) (sym is);
  fit = are.fit;
  rising = are.rising;
  names = λ y. are.names y ∙ ap (λ w. has entity_cmp y (strangers x (meaning w x held.revision held.content))) (sym is);
}

-- what means nothing has the parts of nothing
pub parts_nothing : (counted : List EntityId) (m : Meaning Triple) (x : EntityId) (rev : ℕ) (bytes : Bytes) (p : PartLists) → m x rev bytes ≡ []
    → AreListsOf counted m x None p → AreListsOf counted m x (Some (record { revision = rev; content = bytes })) p
parts_nothing counted m x rev bytes p none are = record {
  own = are.own ∙ ap (filter (is_own counted x)) (sym none);
  stored = are.stored ∙ ap (filter (λ t. not (is_own counted x t))) (sym none);
  fit = are.fit;
  rising = are.rising;
  names = λ y. are.names y ∙ ap (λ ts. has entity_cmp y (strangers x ts)) (sym none);
}

-- ---- other pieces with the same texts

-- where the pieces have the texts that they had the same is seen
pub seen_again : (pages pages2 : Texts) (kept : KeptRecords) → ((p : Piece) → bytes_of pages2 p ≡ bytes_of pages p) → seen pages2 kept ≡ seen pages kept
seen_again pages pages2 kept same i = records_with (λ p. same p i) kept

kept_again : (m : Meaning Triple) (s : StoreState) (pages pages2 : Texts) (names : Naming) (kept : KeptRecords) → ((p : Piece) → bytes_of pages2 p ≡ bytes_of pages p)
    → IsKept m s pages names kept → IsKept m s pages2 names kept
kept_again m s pages pages2 names kept same h =
    let alike : seen pages ≡ seen pages2 = λ i k. records_with (λ p. sym (same p) i) k in
    record {
      sound = h.sound;
      lean = subst (λ (f : KeptRecords → Records). IsLean m (counted_by names) (count_in (counts_in s)) (f kept)) alike h.lean;
      named = λ y. h.named y ∙ ap (λ (f : KeptRecords → Records). owners entity_cmp (strangers_on m) (f kept) y) alike;
      pieces = subst (λ (f : PieceTexts). IsHeld f (piece_at kept)) (λ i p. sym (same p) i) h.pieces;
      keyed = λ y. subst (λ (f : KeptRecords → Records). AreKeysOf s (keys_held (kept_of kept y).held) (triples_of (stored_of (counted_by names) m) (f kept) y)) alike (h.keyed y);
    }

-- a piece that came is gone again
pub back_again : (pages pages2 pages3 : Texts) (piece : Piece) (text : Option Bytes) → bytes_of pages piece ≡ None → Updates pages pages2 piece text → Updates pages2 pages3 piece None
    → (p : Piece) → bytes_of pages3 p ≡ bytes_of pages p
back_again pages pages2 pages3 piece text vacant placed freed p = ⊎_elim
    (λ own. ap (bytes_of pages3) (sym own.1) ∙ freed.changed ∙ sym vacant ∙ ap (bytes_of pages) own.1)
    (λ other. freed.others p (λ e. other.1 (sym e)) ∙ placed.others p (λ e. other.1 (sym e)))
    (piece_tells piece p)

module _ (s : StoreState) (pages : Texts) (names : Naming) (ids : ByVersion) (kept : KeptRecords) (x : EntityId) (h : AreInStep s pages names ids kept) where
  abbrev before : Meaning Triple
  before = meaning_by meaning ids.by_two

  abbrev records : Records
  records = seen pages kept

  abbrev counted : List EntityId
  counted = counted_by names

  -- nothing came
  pub undone_step : (s2 : StoreState) (pages2 : Texts) → IsSound s2 → counts_in s2 ≡ counts_in s → KeepsKeys s s2 → ((p : Piece) → bytes_of pages2 p ≡ bytes_of pages p) → AreInStep s2 pages2 names ids kept
  undone_step s2 pages2 sound counts keeps same = record {
    kept = kept_again before s2 pages pages2 names kept same (still_kept before s s2 pages names kept h.kept sound counts keeps);
    by = h.by;
  }

  -- what a move asks for
  pub may_move : (n : Meaning Triple) (held : Option (Held Bytes)) (gone come : PartLists) → map.len kept < 18446744073709551615
      → AreListsOf counted before x (record_of records x).held gone → AreListsOf counted n x held come → AreCounted counted come.names → MayMove names gone.names come.names
  may_move n held gone come few gone_are come_are known = record {
    gone_rise = gone_are.rising;
    come_rise = come_are.rising;
    counted = known;
    named = λ y there. some_names before s pages names kept h.kept x y (sym (gone_are.names y) ∙ there);
    few = few_name before s pages names kept h.kept _ few;
  }

  -- ---- x holds by a version from now on

  module _ (v : MappingVersion) (ids2 : ByVersion) (by2 : ids2.by_two ≡ with_version v x ids.by_two) where
    abbrev after : Meaning Triple
    after = meaning_by meaning ids2.by_two

    agree : (y : EntityId) → y ≢ x → (rev : ℕ) (bytes : Bytes) → after y rev bytes ≡ before y rev bytes
    agree y other rev bytes = ap (λ (b : List EntityId). meaning_by meaning b y rev bytes) by2 ∙ meaning_other ids.by_two h.by.by_two_rises x meaning v y other rev bytes

    own : version_at ids2.by_two x ≡ v
    own = ap (λ (b : List EntityId). version_at b x) by2 ∙ version_own ids.by_two h.by.by_two_rises x v

    -- the parts are those of what it means then
    come_then : (held : Option (Held Bytes)) (come : PartLists) → AreListsOf counted (meaning v) x held come → AreListsOf counted after x held come
    come_then = parts_by counted ids2.by_two x v own

    module _ (s2 : StoreState) (names2 : Naming) (keys : List Key) (gone come : PartLists) (done : PartsExchange)
        (gone_are : AreListsOf counted before x (record_of records x).held gone)
        (keys_are : keys ≡ keys_held (kept_of kept x).held)
        (moved : HaveMoved s s2 names names2 keys gone come done) where
      counts : (triples : List Triple) → AreKeysOf s (keys_held (kept_of kept x).held) triples → Exchanges (counts_in s) (counts_in s2) triples come.shared
      counts triples are = moved.exchanged.counts triples (subst (λ ks. AreKeysOf s ks triples) (sym keys_are) are)

      -- the change is told
      pub tells_step : (pages2 : Texts) (kept2 : KeptRecords) (r : Record Bytes) → AreInStep s2 pages2 names2 ids2 kept2 → seen pages2 kept2 ≡ map.insert records x r
          → AreListsOf counted (meaning v) x r.held come → IsChangeOf (union triple_cmp before records) (union triple_cmp after (seen pages2 kept2)) done.change
      tells_step pages2 kept2 r k seen2 come_are =
          let come_now : AreListsOf counted after x r.held come = come_then r.held come come_are in
          let put : Records = map.insert records x r in
          let here : record_of put x ≡ r = record_here records x r in
          let own_is : sorted triple_cmp come.own ≡ triples_of (own_of counted after) put x = come_now.own ∙ ap (λ (q : Record Bytes). triples_held (own_of counted after) x q.held) (sym here) in
          let lean : IsLean after counted (count_in (counts_in s2)) put =
          subst (λ (c : List EntityId). IsLean after c (count_in (counts_in s2)) put) moved.counted
          (subst (λ (q : Records). IsLean after (counted_by names2) (count_in (counts_in s2)) q) seen2 k.kept.lean) in
          subst (λ (q : Records). IsChangeOf (union triple_cmp before records) (union triple_cmp after q) done.change) (sym seen2)
          (step_change x counted before after (counts_in s) (counts_in s2) records put h.kept.lean lean (put_in-alike before after x agree records r)
          (sound_owned s h.kept.sound) (sound_owned s2 moved.rest.sound) gone.own come.own gone_are.own own_is done.change
          moved.exchanged.told
          (union_fit ids.by_two records) (union_fit ids2.by_two put))

      -- ---- a page comes

      module _ (pages2 pages3 : Texts) (state : State) (reconciled : Option Event) (rev : ℕ) (piece : Piece) (bytes : Bytes)
          (vacant : bytes_of pages piece ≡ None)
          (placed : Updates pages pages2 piece (Some bytes))
          (freed : FreesPiece (piece_at kept x) pages2 pages3)
          (come_are : AreListsOf counted (meaning v) x (Some (record { revision = rev; content = bytes })) come)
          (known : AreCounted counted come.names) where
        abbrev content : LeanPage
        content = record { piece = piece; keys = done.keys }

        abbrev page : Record LeanPage
        page = record { state = state; held = Some (record { revision = rev; content = content }); reconciled = reconciled }

        come_now : AreListsOf counted after x (Some (record { revision = rev; content = bytes })) come
        come_now = come_then (Some (record { revision = rev; content = bytes })) come come_are

        pub page_step : ids2 ≡ moved_to ids x v → AreInStep s2 pages3 names2 ids2 (map.insert kept x page)
        page_step is = record {
          kept = page_comes before after x agree s s2 pages pages2 pages3 names names2 kept state reconciled gone.names come.names come.shared
              h.kept freed moved.counted moved.named gone_are.names moved.rest.sound moved.rest.keeps counts
              rev content bytes vacant placed come_now.names known moved.exchanged.keys_are come_now.stored;
          by = subst (λ (i : ByVersion). AreBy i (holds_in (map.insert kept x page))) (sym is) (by_put ids (holds_in kept) (holds_in (map.insert kept x page)) x v h.by (others_hold kept x page) (own_holds kept x page));
        }

        pub page_step_seen : seen pages3 (map.insert kept x page) ≡ map.insert records x (record { state = state; held = Some (record { revision = rev; content = bytes }); reconciled = reconciled })
        page_step_seen = page_seen before after x agree s s2 pages pages2 pages3 names names2 kept state reconciled gone.names come.names come.shared
            h.kept freed moved.counted moved.named gone_are.names moved.rest.sound moved.rest.keeps counts
            rev content bytes vacant placed come_now.names known moved.exchanged.keys_are come_now.stored

      -- ---- the same page is mapped by another version

      module _ (there : is_some (kept_of kept x).held ≡ true) (come_are : AreListsOf counted (meaning v) x (record_of records x).held come) (known : AreCounted counted come.names) where
        again_now : AreListsOf counted after x (record_of records x).held come
        again_now = come_then (record_of records x).held come come_are

        pub again_step : ids2 ≡ moved_to ids x v → AreInStep s2 pages names2 ids2 (map.insert kept x (with_keys (kept_of kept x) done.keys))
        again_step is = record {
          kept = page_again kept x done.keys there before after agree s s2 pages names names2 gone.names come.names come.shared
              h.kept moved.counted moved.named gone_are.names again_now.names known moved.rest.sound moved.rest.keeps counts moved.exchanged.keys_are again_now.stored;
          by = subst (λ (i : ByVersion). AreBy i (holds_in (map.insert kept x (with_keys (kept_of kept x) done.keys)))) (sym is)
              (by_put ids (holds_in kept) _ x v h.by (others_hold kept x (with_keys (kept_of kept x) done.keys)) (own_holds kept x (with_keys (kept_of kept x) done.keys) ∙ some_keys (kept_of kept x).held done.keys there));
        }

  -- ---- what was held goes

  module _ (ids2 : ByVersion) (is : ids2 ≡ moved_out ids x) (s2 : StoreState) (names2 : Naming) (keys : List Key) (gone come : PartLists) (done : PartsExchange)
      (gone_are : AreListsOf counted before x (record_of records x).held gone)
      (come_are : (m : Meaning Triple) → AreListsOf counted m x None come)
      (keys_are : keys ≡ keys_held (kept_of kept x).held)
      (moved : HaveMoved s s2 names names2 keys gone come done)
      (pages2 : Texts) (state : State) (reconciled : Option Event) (freed : FreesPiece (piece_at kept x) pages pages2) where
    out2 : ids2.by_two ≡ with_version One x ids.by_two
    out2 = ap (λ (i : ByVersion). i.by_two) is

    abbrev none : Record LeanPage
    none = record { state = state; held = None; reconciled = reconciled }

    none_shared : (t : Triple) → has triple_cmp t come.shared ≡ has triple_cmp t []
    none_shared t = sym (has-sorted triple_cmp-total t come.shared) ∙ ap (has triple_cmp t) (come_are before).stored

    pub gone_step : AreInStep s2 pages2 names2 ids2 (map.insert kept x none)
    gone_step = record {
      kept = page_goes before (after One ids2 out2) x (agree One ids2 out2) s s2 pages pages pages2 names names2 kept state reconciled gone.names come.names come.shared
          h.kept freed moved.counted moved.named gone_are.names moved.rest.sound moved.rest.keeps (counts One ids2 out2 s2 names2 keys gone come done gone_are keys_are moved)
          (λ p. refl) (come_are before).names none_shared;
      by = subst (λ (i : ByVersion). AreBy i (holds_in (map.insert kept x none))) (sym is) (by_drop ids (holds_in kept) (holds_in (map.insert kept x none)) x h.by (others_hold kept x none) (own_holds kept x none));
    }

    pub gone_step_seen : seen pages2 (map.insert kept x none) ≡ map.insert records x (record { state = state; held = None; reconciled = reconciled })
    gone_step_seen = gone_seen before (after One ids2 out2) x (agree One ids2 out2) s s2 pages pages pages2 names names2 kept state reconciled gone.names come.names come.shared
        h.kept freed moved.counted moved.named gone_are.names moved.rest.sound moved.rest.keeps (counts One ids2 out2 s2 names2 keys gone come done gone_are keys_are moved)
        (λ p. refl) (come_are before).names none_shared

    pub gone_tells : IsChangeOf (union triple_cmp before records) (union triple_cmp (meaning_by meaning ids2.by_two) (seen pages2 (map.insert kept x none))) done.change
    gone_tells = tells_step One ids2 out2 s2 names2 keys gone come done gone_are keys_are moved pages2 (map.insert kept x none) (record { state = state; held = None; reconciled = reconciled }) gone_step gone_step_seen (come_are (meaning One))
