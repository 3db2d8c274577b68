-- As deliveries are played, each document that is held is mapped by the version in force.
use Rattle.std.proofs.Common.{◌≡◌, ℕ, Bool, true, false, not, cond, ◌&&◌, ◌||◌, List, [], ◌∷◌, ◌++◌, Option, None, Result, Ok, Err, fold, is_ok, is_some, refl, sym, ◌∙◌, ap, true≢false}
use Rattle.std.specs.BTreeSet.{insert_key}
use Rattle.std.specs.FinMap as map
use Rattle.std.specs.Ordering.{eq_by_cmp}
use Rattle.std.specs.Set.{remove_key}
use Rattle.std.proofs.lemmas.List.Sums.{fold_push}
use Rattle.sorted_sets.specs.Rising.{IsRising, has}
use Rattle.sorted_sets.proofs.FirstPassing.{IsRising-remove_key}
use Rattle.sorted_sets.proofs.Pushes.{by_pushes}
use Rattle.sorted_sets.proofs.Rising.{IsRising-insert_key, has-insert_key, same_rising}
use Rattle.entity_model.specs.declared.id.EntityId.{EntityId}
use Rattle.entity_model.specs.declared.event.Event.{Event}
use Rattle.delivery.specs.declared.Delivery.{Delivery}
use Rattle.delivery.specs.declared.Delivery.TheVariants.{Event as Told, Watermark, Ask, Mapping, Match}
use Rattle.entity_model.specs.declared.mapping.MappingVersion.{MappingVersion}
use Rattle.entity_model.specs.declared.mapping.MappingVersion.TheVariants.{One, Two}
use Rattle.entity_model.specs.EntityId.{entity_cmp, entity_cmp_same, entity_cmp_total}
use Rattle.entity_state.specs.declared.record.Record.{Record}
use Rattle.entity_state.specs.State.{is_deleted, state_after}
use Rattle.entity_state.specs.Record.{held_revision, wants}
use Rattle.entity_state.specs.declared.entry.Cause.{Cause}
use Rattle.replay_model.specs.Acceptance.{Arrival, arrivals, version_in_force}
use Rattle.replay_model.specs.Play.{Replies, Played, apply, apply_all, happens, held_after_fetch, newly_due, play, played, record_after}
use Rattle.replay_model.specs.PlayedVersions.{by_two_after_event, by_two_after_events, by_two_at, by_two_of_play, by_two_played, by_two_remapped}
use Rattle.replay_model.specs.Records.{Bytes, Records, record_of}
use Rattle.replay_model.specs.Versions.{all_by, holders, is_holder, version_at, with_version}
use Rattle.replay_model.proofs.Arrivals.{arrivals-push, play-push}
use Rattle.replay_model.proofs.InForce.{version-kept, version-mapping}
use Rattle.replay_model.proofs.Versions.{all-drop, all-keep, all-put, has-holders, has-without, holders-rise, version-all}

-- ---- an event

-- an entity's record is put in: where it has a document that was fetched, this is mapped by the version by which all is
put_by : (version : MappingVersion) (records : Records) (x : EntityId) (r : Record Bytes) (fetching deleting : Bool) (rev : ℕ) (reply : Result Bytes Cause)
    → r.held ≡ cond fetching (held_after_fetch rev reply (record_of records x).held) (cond deleting None (record_of records x).held)
    → cond (fetching && is_ok reply) (with_version version x (all_by version records))
    (cond (is_some r.held) (all_by version records) (with_version One x (all_by version records)))
    ≡ all_by version (map.insert records x r)
put_by version records x r fetching deleting rev reply is = by fetching deleting reply is
  where
    gone : is_some r.held ≡ false → cond (is_some r.held) (all_by version records) (with_version One x (all_by version records)) ≡ all_by version (map.insert records x r)
    gone none = ap (λ b. cond b (all_by version records) (with_version One x (all_by version records))) none ∙ sym (all-drop version records x r none)

    left : (b : Bool) → is_some r.held ≡ b → r.held ≡ (record_of records x).held → cond (is_some r.held) (all_by version records) (with_version One x (all_by version records)) ≡ all_by version (map.insert records x r)
    left false none same = gone none
    left true some same = ap (λ b. cond b (all_by version records) (with_version One x (all_by version records))) some ∙ sym (all-keep version records x r (ap is_some same))

    by : (f d : Bool) (o : Result Bytes Cause) → r.held ≡ cond f (held_after_fetch rev o (record_of records x).held) (cond d None (record_of records x).held)
        → cond (f && is_ok o) (with_version version x (all_by version records)) (cond (is_some r.held) (all_by version records) (with_version One x (all_by version records)))
        ≡ all_by version (map.insert records x r)
    by true d (Ok bytes) held = sym (all-put version records x r (ap is_some held))
    by true d (Err cause) held = left (is_some r.held) refl held
    by false true o held = gone (ap is_some held)
    by false false o held = left (is_some r.held) refl held

-- after an event all is mapped by the version by which all was
pub by_two-event : (version : MappingVersion) (replies : Replies) (p : Played) (e : Event)
    → by_two_after_event version replies e (record_of p.records e.entity) (all_by version p.records) ≡ all_by version (apply replies p e).records
by_two-event version replies p e =
    let r = record_of p.records e.entity in
    put_by version p.records e.entity (record_after replies e r) (wants (state_after r.state e) (held_revision r.held)) (is_deleted (state_after r.state e).mode)
    (state_after r.state e).rev (replies e (state_after r.state e).rev) refl

by_two-events : (version : MappingVersion) (replies : Replies) (p : Played) (es : List Event)
    → by_two_after_events version replies p es (all_by version p.records) ≡ all_by version (apply_all replies p es).records
by_two-events version replies p [] = refl
by_two-events version replies p (e ∷ es) =
    ap (by_two_after_events version replies (apply replies p e) es) (by_two-event version replies p e) ∙ by_two-events version replies (apply replies p e) es

-- ---- a change of the mapping

-- entities are put in or taken out, one after the other
rises-put : (xs by_two : List EntityId) → IsRising entity_cmp by_two → IsRising entity_cmp (fold (λ others x. with_version Two x others) by_two xs)
rises-put [] by_two rising = rising
rises-put (x ∷ xs) by_two rising = rises-put xs (insert_key entity_cmp by_two x) (IsRising-insert_key entity_cmp_total x by_two rising)

has-put : (q : EntityId) (xs by_two : List EntityId) → has entity_cmp q (fold (λ others x. with_version Two x others) by_two xs) ≡ (has entity_cmp q xs || has entity_cmp q by_two)
has-put q [] by_two = refl
has-put q (x ∷ xs) by_two =
    has-put q xs (insert_key entity_cmp by_two x)
    ∙ ap (λ b. has entity_cmp q xs || b) (has-insert_key entity_cmp_total q x by_two)
    ∙ by (has entity_cmp q xs) (eq_by_cmp entity_cmp q x)
  where
    by : (a b : Bool) → (a || (b || has entity_cmp q by_two)) ≡ ((b || a) || has entity_cmp q by_two)
    by true true = refl
    by true false = refl
    by false true = refl
    by false false = refl

rises-taken : (xs by_two : List EntityId) → IsRising entity_cmp by_two → IsRising entity_cmp (fold (λ others x. with_version One x others) by_two xs)
rises-taken [] by_two rising = rising
rises-taken (x ∷ xs) by_two rising = rises-taken xs (remove_key (eq_by_cmp entity_cmp x) by_two) (IsRising-remove_key (eq_by_cmp entity_cmp x) entity_cmp by_two rising)

has-taken : (q : EntityId) (xs by_two : List EntityId) → IsRising entity_cmp by_two → has entity_cmp q (fold (λ others x. with_version One x others) by_two xs) ≡ (not (has entity_cmp q xs) && has entity_cmp q by_two)
has-taken q [] by_two rising = refl
has-taken q (x ∷ xs) by_two rising =
    has-taken q xs (remove_key (eq_by_cmp entity_cmp x) by_two) (IsRising-remove_key (eq_by_cmp entity_cmp x) entity_cmp by_two rising)
    ∙ ap (λ b. not (has entity_cmp q xs) && b) (has-without q x by_two rising)
    ∙ by (has entity_cmp q xs) (eq_by_cmp entity_cmp q x)
  where
    by : (a b : Bool) → (not a && (not b && has entity_cmp q by_two)) ≡ (not (b || a) && has entity_cmp q by_two)
    by true true = refl
    by true false = refl
    by false true = refl
    by false false = refl

-- if those that hold by version Two hold a document each, all that hold one do by the version that all are remapped by
pub by_two-remapped : (version : MappingVersion) (records : Records) (by_two : List EntityId) → IsRising entity_cmp by_two
    → ((q : EntityId) → has entity_cmp q by_two ≡ true → is_holder records q ≡ true) → by_two_remapped version records by_two ≡ all_by version records
by_two-remapped One records by_two rising holding =
    same_rising entity_cmp_total entity_cmp_same (by_two_remapped One records by_two) [] (rises-taken (holders records) by_two rising) tt
    (λ q. has-taken q (holders records) by_two rising ∙ ap (λ b. not b && has entity_cmp q by_two) (has-holders records q)
    ∙ by (is_holder records q) (has entity_cmp q by_two) (holding q))
  where
    by : (a b : Bool) → (b ≡ true → a ≡ true) → (not a && b) ≡ false
    by true b h = refl
    by false true h = sym (h refl)
    by false false h = refl
by_two-remapped Two records by_two rising holding =
    same_rising entity_cmp_total entity_cmp_same (by_two_remapped Two records by_two) (holders records) (rises-put (holders records) by_two rising) (holders-rise records)
    (λ q. has-put q (holders records) by_two ∙ ap (λ b. b || has entity_cmp q by_two) (has-holders records q)
    ∙ by (is_holder records q) (has entity_cmp q by_two) (holding q) ∙ sym (has-holders records q))
  where
    by : (a b : Bool) → (b ≡ true → a ≡ true) → (a || b) ≡ a
    by true b h = refl
    by false true h = sym (h refl)
    by false false h = refl

all-rise : (version : MappingVersion) (records : Records) → IsRising entity_cmp (all_by version records)
all-rise One records = tt
all-rise Two records = holders-rise records

all-hold : (version : MappingVersion) (records : Records) (q : EntityId) → has entity_cmp q (all_by version records) ≡ true → is_holder records q ≡ true
all-hold One records q there = absurd (true≢false (sym there))
all-hold Two records q there = sym (has-holders records q) ∙ there

-- ---- the deliveries

module _ (hz : Option ℕ) (replies : Replies) where
  by_two-push : (ds : List Delivery) (d : Delivery) → by_two_of_play hz replies (ds ++ d ∷ []) ≡ by_two_at hz replies ds d (by_two_of_play hz replies ds)
  by_two-push ds d =
      ap (fold (λ by_two (a : Arrival). by_two_at hz replies a.before a.delivery by_two) []) (arrivals-push ds d)
      ∙ fold_push (λ by_two (a : Arrival). by_two_at hz replies a.before a.delivery by_two) [] (arrivals ds) (record { before = ds; delivery = d })

  by_two-delivery : (ds : List Delivery) (d : Delivery)
      → by_two_at hz replies ds d (all_by (version_in_force ds) (play hz replies ds).records) ≡ all_by (version_in_force (ds ++ d ∷ [])) (play hz replies (ds ++ d ∷ [])).records
  by_two-delivery ds d = by d ∙ sym (ap (λ (p : Played). all_by (version_in_force (ds ++ d ∷ [])) p.records) (play-push hz replies ds d))
    where
      by : (d : Delivery) → by_two_at hz replies ds d (all_by (version_in_force ds) (play hz replies ds).records) ≡ all_by (version_in_force (ds ++ d ∷ [])) (happens hz replies ds d (play hz replies ds)).records
      by (Told e) = ap (λ v. all_by v (play hz replies ds).records) (sym (version-kept ds (Told e) refl))
      by (Watermark w) =
          by_two-events (version_in_force ds) replies (play hz replies ds) (newly_due hz ds false (ds ++ Watermark w ∷ []))
          ∙ ap (λ v. all_by v (apply_all replies (play hz replies ds) (newly_due hz ds false (ds ++ Watermark w ∷ []))).records) (sym (version-kept ds (Watermark w) refl))
      by (Ask q) = ap (λ v. all_by v (play hz replies ds).records) (sym (version-kept ds (Ask q) refl))
      by (Mapping v) =
          by_two-remapped v (play hz replies ds).records (all_by (version_in_force ds) (play hz replies ds).records)
          (all-rise (version_in_force ds) (play hz replies ds).records) (all-hold (version_in_force ds) (play hz replies ds).records)
          ∙ ap (λ u. all_by u (play hz replies ds).records) (sym (version-mapping ds v))
      by (Match q) = ap (λ v. all_by v (play hz replies ds).records) (sym (version-kept ds (Match q) refl))

  by_two-play : (ds : List Delivery) → by_two_of_play hz replies ds ≡ all_by (version_in_force ds) (play hz replies ds).records
  by_two-play = by_pushes (λ ds. by_two_of_play hz replies ds ≡ all_by (version_in_force ds) (play hz replies ds).records) refl
      (λ ds d before. by_two-push ds d ∙ ap (by_two_at hz replies ds d) before ∙ by_two-delivery ds d)

-- as deliveries are played, all is mapped by the version in force
pub by_two-played : (hz : Option ℕ) (closed : Bool) (replies : Replies) (ds : List Delivery) → by_two_played hz closed replies ds ≡ all_by (version_in_force ds) (played hz closed replies ds).records
by_two-played hz false replies ds = by_two-play hz replies ds
by_two-played hz true replies ds =
    ap (by_two_after_events (version_in_force ds) replies (play hz replies ds) (newly_due hz ds true ds)) (by_two-play hz replies ds)
    ∙ by_two-events (version_in_force ds) replies (play hz replies ds) (newly_due hz ds true ds)

-- and so each document is
pub version-played : (hz : Option ℕ) (closed : Bool) (replies : Replies) (ds : List Delivery) (x : EntityId)
    → is_holder (played hz closed replies ds).records x ≡ true → version_at (by_two_played hz closed replies ds) x ≡ version_in_force ds
version-played hz closed replies ds x holds =
    ap (λ by_two. version_at by_two x) (by_two-played hz closed replies ds) ∙ version-all (version_in_force ds) (played hz closed replies ds).records x holds
