-- A replay of the deliveries that go to a part is the part of the replay of all deliveries.
use Rattle.std.proofs.Common.{◌≡◌, ℕ, Bool, true, false, cond, List, [], ◌∷◌, ◌++◌, Option, None, Some, Result, Ok, Err, unwrap_or, refl, sym, ◌∙◌, ap, append-nil}
use Rattle.std.specs.FinMap as map
use Rattle.std.specs.Ordering.{eq_by_cmp}
use Rattle.std.proofs.lemmas.List.Elements.{filter-append}
use Rattle.entity_model.specs.declared.id.EntityId.{EntityId}
use Rattle.entity_model.specs.EntityId.{entity_cmp, entity_cmp_total, entity_cmp_same}
use Rattle.entity_model.specs.declared.event.Event.{Event}
use Rattle.delivery.specs.declared.Delivery.{Delivery}
use Rattle.delivery.specs.declared.Delivery.TheVariants.{Event as Told, Watermark, Ask, Mapping, Match}
use Rattle.entity_state.specs.declared.record.Record.{Record}
use Rattle.entity_state.specs.Record.{blank, held_revision, wants}
use Rattle.entity_state.specs.State.{state_after}
use Rattle.entity_state.specs.declared.entry.Cause.{Cause}
use Rattle.entity_state.specs.declared.entry.Entry.{Entry}
use Rattle.entity_state.specs.declared.entry.Entry.TheVariants.{Late}
use Rattle.entity_state.specs.Entry.{entity_of}
use Rattle.sorted_sets.proofs.Bools.{clash, equal}
use Rattle.sorted_sets.proofs.Pushes.{by_pushes}
use Rattle.replay_model.specs.Acceptance.{is_late}
use Rattle.replay_model.specs.Entries.{is_open_in, is_open_by}
use Rattle.replay_model.specs.Play.{Replies, Played, record_after, entry_of, entries_after, records_after, apply, apply_all, newly_due, happens, play, play_to_end, played}
use Rattle.replay_model.specs.Records.{Bytes, Records, record_of}
use Rattle.replay_model.specs.ReplayState.{following, following_to_end}
use Rattle.replay_model.proofs.Arrivals.{play-push}
use Rattle.replay_parts.specs.Parts.{routed, part_of_events, part_of_side, part_of_records, part_of_played, part_of_state, AgreeOnPart}
use Rattle.replay_parts.proofs.Routed.{nothing_either_way, mark-routed, routed-push, late_alike, newly_due-routed, kept-routed, waiting-routed}

module _ (contains : EntityId → Bool) where
  -- ---- the records of a part

  pub get-part : (records : Records) (x : EntityId) → map.get (part_of_records contains records) x ≡ cond (contains x) (map.get records x) None
  get-part records x = map.get-retain_keys records contains x (λ y tie. ap contains (sym (entity_cmp_same x y tie)))

  unwrapped : (b : Bool) (o : Option (Record Bytes)) → unwrap_or (cond b o None) blank ≡ cond b (unwrap_or o blank) blank
  unwrapped true o = refl
  unwrapped false o = refl

  pub record_of-part : (records : Records) (x : EntityId) → record_of (part_of_records contains records) x ≡ cond (contains x) (record_of records x) blank
  record_of-part records x = ap (λ o. unwrap_or o blank) (get-part records x) ∙ unwrapped (contains x) (map.get records x)

  pub record_of-own : (records : Records) (x : EntityId) → contains x ≡ true → record_of (part_of_records contains records) x ≡ record_of records x
  record_of-own records x is = record_of-part records x ∙ ap (λ b. cond b (record_of records x) blank) is

  -- an entry of the part is open by the part's records where it is by all
  pub is_open-own : (records : Records) (entry : Entry) → contains (entity_of entry) ≡ true → is_open_in (part_of_records contains records) entry ≡ is_open_in records entry
  is_open-own records entry is = ap (λ r. is_open_by r entry) (record_of-own records (entity_of entry) is)

  -- a record that is put in at an entity of the part
  insert-part : (records : Records) (x : EntityId) (r : Record Bytes) → contains x ≡ true → map.insert (part_of_records contains records) x r ≡ part_of_records contains (map.insert records x r)
  insert-part records x r is = map.same_map entity_cmp_total entity_cmp_same _ _ (λ q.
      map.get-insert entity_cmp_total (part_of_records contains records) x r q
      ∙ ap (cond (eq_by_cmp entity_cmp q x) (Some r)) (get-part records q)
      ∙ by q (eq_by_cmp entity_cmp q x) (contains q) refl refl
      ∙ ap (λ o. cond (contains q) o None) (sym (map.get-insert entity_cmp_total records x r q))
      ∙ sym (get-part (map.insert records x r) q))
    where
      by : (q : EntityId) (tie passes : Bool) → eq_by_cmp entity_cmp q x ≡ tie → contains q ≡ passes → cond tie (Some r) (cond passes (map.get records q) None) ≡ cond passes (cond tie (Some r) (map.get records q)) None
      by q true true t p = refl
      by q true false t p = clash is (ap contains (sym (entity_cmp_same q x (equal _ t))) ∙ p)
      by q false true t p = refl
      by q false false t p = refl

  -- a record that is put in at another entity
  insert-elsewhere : (records : Records) (x : EntityId) (r : Record Bytes) → contains x ≡ false → part_of_records contains records ≡ part_of_records contains (map.insert records x r)
  insert-elsewhere records x r is = map.same_map entity_cmp_total entity_cmp_same _ _ (λ q.
      get-part records q
      ∙ by q (eq_by_cmp entity_cmp q x) (contains q) refl refl
      ∙ ap (λ o. cond (contains q) o None) (sym (map.get-insert entity_cmp_total records x r q))
      ∙ sym (get-part (map.insert records x r) q))
    where
      by : (q : EntityId) (tie passes : Bool) → eq_by_cmp entity_cmp q x ≡ tie → contains q ≡ passes → cond passes (map.get records q) None ≡ cond passes (cond tie (Some r) (map.get records q)) None
      by q true true t p = clash (sym (ap contains (entity_cmp_same q x (equal _ t))) ∙ p) is
      by q true false t p = refl
      by q false true t p = refl
      by q false false t p = refl

  -- no records
  part_of-empty : map.empty {X = Record Bytes} {R = entity_cmp} ≡ part_of_records contains map.empty
  part_of-empty = map.same_map entity_cmp_total entity_cmp_same _ _ (λ q.
      map.get-empty entity_cmp q
      ∙ none_either_way (contains q)
      ∙ ap (λ o. cond (contains q) o None) (sym (map.get-empty entity_cmp q))
      ∙ sym (get-part map.empty q))
    where
      none_either_way : (b : Bool) → ◌≡◌ {A = Option (Record Bytes)} None (cond b None None)
      none_either_way true = refl
      none_either_way false = refl

  -- ---- the entries of a part

  -- the entry of a fetch is of the event's entity
  part_of-entry_of : (e : Event) (r : ℕ) (reply : Result Bytes Cause) → part_of_side contains (entry_of e r reply) ≡ cond (contains e.entity) (entry_of e r reply) []
  part_of-entry_of e r (Ok bytes) = sym (nothing_either_way (contains e.entity))
  part_of-entry_of e r (Err cause) = refl

  part_of-entries_after : (replies : Replies) (e : Event) (r : Record Bytes) → part_of_side contains (entries_after replies e r) ≡ cond (contains e.entity) (entries_after replies e r) []
  part_of-entries_after replies e r = by (wants (state_after r.state e) (held_revision r.held))
    where
      by : (b : Bool) → part_of_side contains (cond b (entry_of e (state_after r.state e).rev (replies e (state_after r.state e).rev)) []) ≡ cond (contains e.entity) (cond b (entry_of e (state_after r.state e).rev (replies e (state_after r.state e).rev)) []) []
      by true = part_of-entry_of e (state_after r.state e).rev (replies e (state_after r.state e).rev)
      by false = sym (nothing_either_way (contains e.entity))

  part_of_late : (e : Event) (late : Bool) → part_of_side contains (cond late (Late e ∷ []) []) ≡ cond (contains e.entity) (cond late (Late e ∷ []) []) []
  part_of_late e true = refl
  part_of_late e false = sym (nothing_either_way (contains e.entity))

  module _ (own replies : Replies) (agree : AgreeOnPart contains own replies) where
    -- ---- one event

    record_after-own : (e : Event) (r : Record Bytes) → contains e.entity ≡ true → record_after own e r ≡ record_after replies e r
    record_after-own e r is = λ i. record_after (λ q n. agree_at i) e r
      where
        agree_at : own e (state_after r.state e).rev ≡ replies e (state_after r.state e).rev
        agree_at = agree e (state_after r.state e).rev is

    entries_after-own : (e : Event) (r : Record Bytes) → contains e.entity ≡ true → entries_after own e r ≡ entries_after replies e r
    entries_after-own e r is = λ i. entries_after (λ q n. agree e (state_after r.state e).rev is i) e r

    -- an event of the part
    pub apply-part : (p : Played) (e : Event) → contains e.entity ≡ true → apply own (part_of_played contains p) e ≡ part_of_played contains (apply replies p e)
    apply-part p e is =
        let same : record_of (part_of_records contains p.records) e.entity ≡ record_of p.records e.entity = record_of-own p.records e.entity is in
        let records : records_after own (part_of_records contains p.records) e ≡ part_of_records contains (records_after replies p.records e) =
        ap (map.insert (part_of_records contains p.records) e.entity) (ap (record_after own e) same ∙ record_after-own e (record_of p.records e.entity) is)
        ∙ insert-part p.records e.entity (record_after replies e (record_of p.records e.entity)) is in
        let side : part_of_side contains p.side ++ entries_after own e (record_of (part_of_records contains p.records) e.entity) ≡ part_of_side contains (p.side ++ entries_after replies e (record_of p.records e.entity)) =
        ap (λ l. part_of_side contains p.side ++ l)
        (ap (entries_after own e) same
        ∙ entries_after-own e (record_of p.records e.entity) is
        ∙ sym (part_of-entries_after replies e (record_of p.records e.entity) ∙ ap (λ b. cond b (entries_after replies e (record_of p.records e.entity)) []) is))
        ∙ sym (filter-append (λ entry. contains (entity_of entry)) p.side (entries_after replies e (record_of p.records e.entity))) in
        λ i. record { records = records i; side = side i }

    -- an event of another entity
    pub apply-elsewhere : (p : Played) (e : Event) → contains e.entity ≡ false → part_of_played contains p ≡ part_of_played contains (apply replies p e)
    apply-elsewhere p e is =
        let side : part_of_side contains p.side ≡ part_of_side contains (p.side ++ entries_after replies e (record_of p.records e.entity)) =
        sym (filter-append (λ entry. contains (entity_of entry)) p.side (entries_after replies e (record_of p.records e.entity))
        ∙ ap (λ l. part_of_side contains p.side ++ l) (part_of-entries_after replies e (record_of p.records e.entity) ∙ ap (λ b. cond b (entries_after replies e (record_of p.records e.entity)) []) is)
        ∙ append-nil (part_of_side contains p.side)) in
        λ i. record { records = insert-elsewhere p.records e.entity (record_after replies e (record_of p.records e.entity)) is i; side = side i }

    pub apply_all-part : (es : List Event) (p : Played) → apply_all own (part_of_played contains p) (part_of_events contains es) ≡ part_of_played contains (apply_all replies p es)
    apply_all-part [] p = refl
    apply_all-part (e ∷ es) p = by (apply_all-part es (apply replies p e)) (contains e.entity) refl
      where
        by : apply_all own (part_of_played contains (apply replies p e)) (part_of_events contains es) ≡ part_of_played contains (apply_all replies (apply replies p e) es)
            → (b : Bool) → contains e.entity ≡ b → apply_all own (part_of_played contains p) (cond b (e ∷ part_of_events contains es) (part_of_events contains es)) ≡ part_of_played contains (apply_all replies (apply replies p e) es)
        by rest true is = ap (λ q. apply_all own q (part_of_events contains es)) (apply-part p e is) ∙ rest
        by rest false is = ap (λ q. apply_all own q (part_of_events contains es)) (apply-elsewhere p e is) ∙ rest

    -- ---- one delivery

    told-part : (hz : Option ℕ) (ds : List Delivery) (e : Event) (p : Played) (b : Bool) → contains e.entity ≡ b
        → part_of_side contains p.side ++ cond b (cond (is_late hz (routed contains ds) e) (Late e ∷ []) []) [] ≡ part_of_side contains (p.side ++ cond (is_late hz ds e) (Late e ∷ []) [])
    told-part hz ds e p b is =
        ap (λ l. part_of_side contains p.side ++ l) (by b is ∙ ap (λ b. cond b (cond (is_late hz ds e) (Late e ∷ []) []) []) (sym is) ∙ sym (part_of_late e (is_late hz ds e)))
        ∙ sym (filter-append (λ entry. contains (entity_of entry)) p.side (cond (is_late hz ds e) (Late e ∷ []) []))
      where
        by : (b : Bool) → contains e.entity ≡ b → cond b (cond (is_late hz (routed contains ds) e) (Late e ∷ []) []) [] ≡ cond b (cond (is_late hz ds e) (Late e ∷ []) []) []
        by true is = ap (λ late. cond late (Late e ∷ []) []) (late_alike contains hz ds e is)
        by false is = refl

    play-told : (hz : Option ℕ) (ds : List Delivery) (e : Event) (b : Bool) → contains e.entity ≡ b → play hz own (routed contains ds) ≡ part_of_played contains (play hz replies ds)
        → play hz own (routed contains ds ++ cond b (Told e ∷ []) []) ≡ part_of_played contains (happens hz replies ds (Told e) (play hz replies ds))
    play-told hz ds e true is before =
        play-push hz own (routed contains ds) (Told e)
        ∙ ap (happens hz own (routed contains ds) (Told e)) before
        ∙ (λ i. record { records = part_of_records contains (play hz replies ds).records; side = told-part hz ds e (play hz replies ds) true is i })
    play-told hz ds e false is before =
        ap (play hz own) (append-nil (routed contains ds))
        ∙ before
        ∙ (λ i. record { records = part_of_records contains (play hz replies ds).records; side = (sym (append-nil (part_of_side contains (play hz replies ds).side)) ∙ told-part hz ds e (play hz replies ds) false is) i })

    play-step : (hz : Option ℕ) (ds : List Delivery) (d : Delivery) → play hz own (routed contains ds) ≡ part_of_played contains (play hz replies ds) → play hz own (routed contains (ds ++ d ∷ [])) ≡ part_of_played contains (happens hz replies ds d (play hz replies ds))
    play-step hz ds (Told e) before = ap (play hz own) (routed-push contains ds (Told e)) ∙ play-told hz ds e (contains e.entity) refl before
    play-step hz ds (Watermark w) before =
        ap (play hz own) (routed-push contains ds (Watermark w))
        ∙ play-push hz own (routed contains ds) (Watermark w)
        ∙ (λ i. apply_all own (before i) (newly_due hz (routed contains ds) false (sym (routed-push contains ds (Watermark w)) i)))
        ∙ ap (apply_all own (part_of_played contains (play hz replies ds))) (newly_due-routed contains hz ds false (ds ++ Watermark w ∷ []))
        ∙ apply_all-part (newly_due hz ds false (ds ++ Watermark w ∷ [])) (play hz replies ds)
    play-step hz ds (Ask q) before = ap (play hz own) (routed-push contains ds (Ask q)) ∙ play-push hz own (routed contains ds) (Ask q) ∙ before
    play-step hz ds (Mapping v) before = ap (play hz own) (routed-push contains ds (Mapping v)) ∙ play-push hz own (routed contains ds) (Mapping v) ∙ before
    play-step hz ds (Match q) before = ap (play hz own) (routed-push contains ds (Match q)) ∙ play-push hz own (routed contains ds) (Match q) ∙ before

    pub play-routed : (hz : Option ℕ) (ds : List Delivery) → play hz own (routed contains ds) ≡ part_of_played contains (play hz replies ds)
    play-routed hz = by_pushes (λ ds. play hz own (routed contains ds) ≡ part_of_played contains (play hz replies ds)) nothing
        (λ ds d before. play-step hz ds d before ∙ ap (part_of_played contains) (sym (play-push hz replies ds d)))
      where
        nothing : play hz own [] ≡ part_of_played contains (play hz replies [])
        nothing = λ i. record { records = part_of-empty i; side = [] }

    pub play_to_end-routed : (hz : Option ℕ) (ds : List Delivery) → play_to_end hz own (routed contains ds) ≡ part_of_played contains (play_to_end hz replies ds)
    play_to_end-routed hz ds =
        (λ i. apply_all own (play-routed hz ds i) (newly_due-routed contains hz ds true ds i))
        ∙ apply_all-part (newly_due hz ds true ds) (play hz replies ds)

    pub played-routed : (hz : Option ℕ) (closed : Bool) (ds : List Delivery) → played hz closed own (routed contains ds) ≡ part_of_played contains (played hz closed replies ds)
    played-routed hz false ds = play-routed hz ds
    played-routed hz true ds = play_to_end-routed hz ds

    -- ---- the state

    pub following-routed : (hz : Option ℕ) (ds : List Delivery) → following hz own (routed contains ds) ≡ part_of_state contains (following hz replies ds)
    following-routed hz ds = λ i. record {
      buffer = record { kept = kept-routed contains hz ds i; waiting = waiting-routed contains hz ds i; mark = mark-routed contains ds i; horizon = hz; closed = false };
      played = play-routed hz ds i;
    }

    pub following_to_end-routed : (hz : Option ℕ) (ds : List Delivery) → following_to_end hz own (routed contains ds) ≡ part_of_state contains (following_to_end hz replies ds)
    following_to_end-routed hz ds = λ i. record {
      buffer = record { kept = kept-routed contains hz ds i; waiting = []; mark = mark-routed contains ds i; horizon = hz; closed = true };
      played = play_to_end-routed hz ds i;
    }
