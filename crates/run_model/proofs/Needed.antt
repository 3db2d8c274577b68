-- For how much room a play needs it, delivery by delivery and event by event, and how there is room for more of it.
use Rattle.std.proofs.Common.{◌≡◌, refl, sym, subst, ◌∙◌, ap, ℕ, ◌≤◌, ℤ, Bool, true, false, cond, is_eq, List, [], ◌∷◌, ◌++◌, append_assoc, append-nil, Option, None, Some, Result, Ok, Err, flat_map}
use Rattle.std.specs.{Ordering.eq_by_cmp, Set.remove_key}
use Rattle.std.proofs.{lemmas.Cmp.tied_itself, lemmas.List.append_cancel_left}
use Rattle.sorted_sets.specs.Rising.{IsRising}
use Rattle.sorted_sets.proofs.FirstPassing.{filter-first, filter-none}
use Rattle.rdf_term.specs.{declared.triple.Triple.Triple, Order.triple_cmp}
use Rattle.shared_triples.specs.Lean.{stored_of}
use Rattle.delivery.specs.{declared.Delivery.Delivery, declared.Delivery.TheVariants.Watermark, declared.Delivery.TheVariants.Mapping}
use Rattle.entity_model.specs.{declared.event.Event.Event, declared.id.EntityId.EntityId, declared.mapping.MappingVersion.MappingVersion}
use Rattle.entity_model.specs.EntityId.{entity_cmp, entity_cmp_total}
use Rattle.entity_state.specs.{declared.record.Held.Held, declared.record.Record.Record, State.is_deleted, State.state_after}
use Rattle.entity_state.specs.{declared.entry.Cause.Cause, declared.entry.Entry.Entry}
use Rattle.entity_state.specs.declared.entry.Entry.TheVariants.{Late, Revision}
use Rattle.revisions.specs.Revisions.{Contents}
use Rattle.reorder_buffer.specs.{Watermarks.is_due, Buffered.first_due}
use Rattle.replay_model.specs.Explained.{is_fetching, revision_wanted}
use Rattle.replay_model.specs.Play.{Replies, entry_of, held_after_fetch, record_after}
use Rattle.replay_model.specs.Records.{Bytes, Records, record_of}
use Rattle.replay_model.specs.{ReplayState.ReplayState, ReplayState.after_applying, ReplayState.after_mark, Union.Meaning, Union.triples_held}
use Rattle.replay_model.specs.Versions.{all_by, meaning_by, with_version}
use Rattle.replay_model.proofs.{Explaining.next_by, RecordOf.record-after, ToldContents.Each-append, Versions.union-all}
use Rattle.triple_store.specs.Room.{distinct, terms_of}
use Rattle.world.specs.{declared.applied.AppliedEvent.AppliedEvent, declared.applied.Outcome.Outcome}
use Rattle.world.specs.declared.applied.Outcome.TheVariants.{Same, Stored, Dropped}
use Rattle.lean_holdings.specs.Changing.{counted_with, named_by, needs_where}
use Rattle.lean_holdings.specs.Holding.{strangers_on}
use Rattle.world.specs.Applying.{Applies, outcome_of_reply}
use Rattle.holders.specs.Holding.{first_of, stale_by, with_version_of}
use Rattle.world.specs.{Limit.Limit, Limit.needs, Roomed.needs_anew, Roomed.needs_at, Roomed.needs_now}
use Rattle.world.specs.WorldState.{WorldState, next_stale, remapped, stale}
use Rattle.fetched_pages.specs.Meaning.{meaning}
use Rattle.holders.proofs.ByVersion.{stale_remapped}
use Rattle.replay_parts.specs.Checkpoint.{Checkpoint}
use Rattle.run_model.specs.Course.{along, state_along, version_since}
use Rattle.run_model.specs.Remapping.{HaveRoom, HaveRoomBefore, needed_anew, needed_of_delivery, needed_by, needed_by_all, needed_by_due, needed_by_pages, needed_for, Mapped, mapped_by, mapped_in, Need, need_of}
use Rattle.run_model.proofs.Along.{along-push, version-along}

-- ---- needs and a limit

module _ (limit : Limit) (left needs : List Need) where
  -- where none is left, there is room for all
  pub all_met : left ≡ [] → HaveRoomBefore limit left needs → HaveRoom limit needs
  all_met none x = subst (HaveRoom limit) (sym (append-nil x.met) ∙ ap (λ l. x.met ++ l) (sym none) ∙ x.are) x.have_room

  -- the first have room
  pub first_met : (first : List Need) → needs ≡ first ++ left → HaveRoom limit first → HaveRoomBefore limit left needs
  first_met first is have = record { met = first; are = sym is; have_room = have }

  -- all have room
  pub none_left : left ≡ [] → HaveRoom limit needs → HaveRoomBefore limit left needs
  none_left none have = first_met needs (sym (ap (λ l. needs ++ l) none ∙ append-nil needs)) have

  -- and some more
  pub next_met : (now before : List Need) → before ≡ now ++ left → HaveRoom limit now → HaveRoomBefore limit before needs → HaveRoomBefore limit left needs
  next_met now before is have x = record {
    met = x.met ++ now;
    are = append_assoc x.met now left ∙ ap (λ l. x.met ++ l) (sym is) ∙ x.are;
    have_room = Each-append (λ (need : Need). need limit.lean ≤ limit.terms) x.met now x.have_room have;
  }

-- ---- due events

module _ (version : MappingVersion) (replies : Replies) (w : ReplayState) where
  pub due-none : first_due w.buffer ≡ None → needed_by_due version replies w ≡ []
  due-none none = ap (needed_by_all version replies w.played) (filter-none (is_due w.buffer.closed w.buffer.mark) w.buffer.waiting none)

  -- the needs of the least due event come first
  pub due-some : (e : Event) → first_due w.buffer ≡ Some e →
      needed_by_due version replies w ≡ needed_by version replies w.played.records e (record_of w.played.records e.entity) ++ needed_by_due version replies (after_applying replies w (Some e))
  due-some e some = ap (needed_by_all version replies w.played) (filter-first (is_due w.buffer.closed w.buffer.mark) w.buffer.waiting e some)

-- ---- deliveries

module _ (replies : Replies) (c : Checkpoint) (ds : List Delivery) where
  pub needed-watermark : (m : ℤ) → along needed_of_delivery replies c (ds ++ Watermark m ∷ []) ≡ along needed_of_delivery replies c ds ++ needed_by_due (version_since c.version ds) replies (after_mark (state_along replies c ds) m)
  needed-watermark m =
      along-push needed_of_delivery replies c ds (Watermark m)
      ∙ ap (λ v. along needed_of_delivery replies c ds ++ needed_by_due v replies (after_mark (state_along replies c ds) m)) (version-along replies c ds)

  -- the records where these deliveries lead
  abbrev led_records : Records
  led_records = (state_along replies c ds).played.records

  pub needed-mapping : (v : MappingVersion) →
      along needed_of_delivery replies c (ds ++ Mapping v ∷ []) ≡ along needed_of_delivery replies c ds ++ needed_anew led_records (record { version = v; by_two = all_by (version_since c.version ds) led_records })
  needed-mapping v =
      along-push needed_of_delivery replies c ds (Mapping v)
      ∙ ap (λ u. along needed_of_delivery replies c ds ++ needed_anew led_records (record { version = v; by_two = all_by u led_records })) (version-along replies c ds)

-- ---- one due event is applied

abbrev bytes_held : Option (Held Bytes) → Bytes
bytes_held None = []
bytes_held (Some h) = h.content

abbrev cause_in : Cause → List Entry → Cause
cause_in other [] = other
cause_in other (Late e ∷ entries) = other
cause_in other (Revision e r cause ∷ entries) = cause

-- replies that leave the same page and the same entries are the same
same_reply : (e : Event) (r : ℕ) (held : Option (Held Bytes)) (some other : Result Bytes Cause) → held_after_fetch r other held ≡ held_after_fetch r some held → entry_of e r other ≡ entry_of e r some → other ≡ some
same_reply e r held (Ok bytes) (Ok others) pages entries = ap (λ (b : Bytes). Ok b) (ap bytes_held pages)
same_reply e r held (Ok bytes) (Err cause) pages entries = cc
same_reply e r held (Err cause) (Ok bytes) pages entries = cc
same_reply e r held (Err cause) (Err other) pages entries = ap (λ (c : Cause). Err c) (ap (cause_in cause) entries)

module _ (w : ReplayState) (e : Event) where
  abbrev before : Record Bytes
  before = record_of w.played.records e.entity

  abbrev fetches : Bool
  fetches = is_fetching w e

  abbrev rev : ℕ
  rev = revision_wanted w e

  abbrev deletes : Bool
  deletes = is_deleted (state_after before.state e).mode

  itself : eq_by_cmp entity_cmp e.entity e.entity ≡ true
  itself = ap is_eq (tied_itself entity_cmp_total e.entity)

  -- what the event's entity holds after it
  held_applied : (replies : Replies) → (record_of (after_applying replies w (Some e)).played.records e.entity).held ≡ cond fetches (held_after_fetch rev (replies e rev) before.held) (cond deletes None before.held)
  held_applied replies =
      ap (λ (r : Record Bytes). r.held) (record-after replies w.played.records e e.entity)
      ∙ ap (λ b. let r : Record Bytes = cond b (record_after replies e before) before in r.held) itself

  -- replies with which the event leads to the same state are the same to it
  pub replied : (reply : Result Bytes Cause) (others : Replies) → fetches ≡ true → next_by w e reply ≡ after_applying others w (Some e) → others e rev ≡ reply
  replied reply others fetching same =
      let some : Replies = λ q r. reply in
      let fetched : (replies : Replies) → held_after_fetch rev (replies e rev) before.held ≡ (record_of (after_applying replies w (Some e)).played.records e.entity).held = λ replies.
      sym (held_applied replies ∙ ap (λ b. cond b (held_after_fetch rev (replies e rev) before.held) (cond deletes None before.held)) fetching) in
      let pages : held_after_fetch rev (others e rev) before.held ≡ held_after_fetch rev reply before.held =
      fetched others ∙ ap (λ (v : ReplayState). (record_of v.played.records e.entity).held) (sym same) ∙ sym (fetched some) in
      let sides : w.played.side ++ cond fetches (entry_of e rev (others e rev)) [] ≡ w.played.side ++ cond fetches (entry_of e rev reply) [] = ap (λ (v : ReplayState). v.played.side) (sym same) in
      let entries : entry_of e rev (others e rev) ≡ entry_of e rev reply =
      sym (ap (λ b. cond b (entry_of e rev (others e rev)) []) fetching) ∙ append_cancel_left w.played.side _ _ sides ∙ ap (λ b. cond b (entry_of e rev reply) []) fetching in
      same_reply e rev before.held reply (others e rev) pages entries

  -- there is room for what other replies bring that are the same to it
  pub room_replied : (limit : Limit) (version : MappingVersion) (reply : Result Bytes Cause) (others : Replies) → next_by w e reply ≡ after_applying others w (Some e) →
      HaveRoom limit (cond fetches (needed_for version w.played.records e.entity rev reply) []) → HaveRoom limit (needed_by version others w.played.records e before)
  room_replied limit version reply others same = by fetches (λ fetching. replied reply others fetching same)
    where
      by : (fetching : Bool) → (fetching ≡ true → others e rev ≡ reply) → HaveRoom limit (cond fetching (needed_for version w.played.records e.entity rev reply) []) →
          HaveRoom limit (cond fetching (needed_for version w.played.records e.entity rev (others e rev)) [])
      by true is have = subst (λ p. HaveRoom limit (needed_for version w.played.records e.entity rev p)) (sym (is refl)) have
      by false is have = tt

-- where what is stored has room, there is room for what a fetch gives
stored_has_room : (limit : Limit) (version : MappingVersion) (records : Records) (x : EntityId) (revision : ℕ) (fetching deleting : Bool) (reply : Result Bytes Cause) (was held : Option (Held Bytes)) (outcome : Outcome) →
    outcome ≡ cond fetching (outcome_of_reply reply) (cond deleting Dropped Same) → held ≡ cond fetching (held_after_fetch revision reply was) (cond deleting None was) →
    (outcome ≡ Stored → needs limit.lean (meaning version) (meaning version) records x held ≤ limit.terms) → HaveRoom limit (cond fetching (needed_for version records x revision reply) [])
stored_has_room limit version records x revision true deleting (Ok bytes) was held outcome is holds within = (subst (λ h. needs limit.lean (meaning version) (meaning version) records x h ≤ limit.terms) holds (within is), tt)
stored_has_room limit version records x revision true deleting (Err cause) was held outcome is holds within = tt
stored_has_room limit version records x revision false deleting reply was held outcome is holds within = tt

-- room is counted by the one version by which all that is held is mapped
needs_by_one : (lean : Bool) (version : MappingVersion) (n : Meaning Triple) (records : Records) (x : EntityId) (held : Option (Held Bytes)) →
    needs lean (meaning_by meaning (all_by version records)) n records x held ≡ needs lean (meaning version) n records x held
needs_by_one false version n records x held = ap (λ ts. distinct (flat_map terms_of (ts ++ triples_held n x held))) (union-all meaning version records triple_cmp)
needs_by_one true version n records x held =
    let counted : List EntityId = counted_with (named_by (meaning version) records) x (triples_held n x held) in
    let named : named_by (meaning_by meaning (all_by version records)) records ≡ named_by (meaning version) records = union-all (λ v. strangers_on (meaning v)) version records entity_cmp in
    ap (λ c. needs_where c (meaning_by meaning (all_by version records)) n records x held) named
    ∙ ap (λ ts. distinct (flat_map terms_of (ts ++ triples_held (stored_of counted n) x held))) (union-all (λ v. stored_of counted (meaning v)) version records triple_cmp)

-- a due event that was applied had room
pub applied_has_room : (contents : Option Contents) (folder : List ℕ) (limit : Limit) (old : WorldState) (new : ReplayState) (applied : AppliedEvent) (a : Applies contents folder old.replay new applied) →
    (applied.outcome ≡ Stored → needs limit.lean (meaning_by meaning old.by_two) (meaning old.mapping) old.replay.played.records applied.event.entity (record_of new.played.records applied.event.entity).held ≤ limit.terms) →
    (version : MappingVersion) → mapped_in old ≡ mapped_by version old.replay.played.records →
    HaveRoom limit (cond (is_fetching old.replay applied.event) (needed_for version old.replay.played.records applied.event.entity (revision_wanted old.replay applied.event) a.reply) [])
applied_has_room contents folder limit old new applied a within version is =
    let e : Event = applied.event in
    let records : Records = old.replay.played.records in
    let held : Option (Held Bytes) = (record_of new.played.records e.entity).held in
    let Within : Mapped → Type 0 = λ m. needs limit.lean (meaning_by meaning m.by_two) (meaning m.version) records e.entity held ≤ limit.terms in
    stored_has_room limit version records e.entity (revision_wanted old.replay e) (is_fetching old.replay e) (is_deleted (state_after (record_of records e.entity).state e).mode) a.reply (record_of records e.entity).held held applied.outcome
    a.outcome
    (ap (λ (v : ReplayState). (record_of v.played.records e.entity).held) a.new_is ∙ held_applied old.replay e (λ q r. a.reply))
    (λ stored. subst (λ n. n ≤ limit.terms) (needs_by_one limit.lean version (meaning version) records e.entity held) (subst Within is (within stored)))

-- ---- one page is remapped

-- if the least stale entity's page was remapped, the others are left
pub stale_after : (w : WorldState) → IsRising entity_cmp w.by_two → (x : EntityId) (rest : List EntityId) → stale w ≡ x ∷ rest → stale_by w.mapping (with_version w.mapping x w.by_two) w.replay.played.records ≡ rest
stale_after w rising x rest is =
    stale_remapped w.by_two rising x w.mapping w.replay.played.records ∙ ap (remove_key (eq_by_cmp entity_cmp x)) is
    ∙ ap (λ b. cond b rest (x ∷ remove_key (eq_by_cmp entity_cmp x) rest)) (ap is_eq (tied_itself entity_cmp_total x))

module _ (limit : Limit) (all : List Need) (w : WorldState) (rising : IsRising entity_cmp w.by_two) where
  abbrev records : Records
  records = w.replay.played.records

  -- for how many terms the page of an entity that is remapped now needs room
  abbrev need : EntityId → Need
  need x = need_of (meaning_by meaning w.by_two) (meaning w.mapping) records x (record_of records x).held

  -- the needs of the pages that are left, where these hold by version Two
  abbrev left_by : List EntityId → List Need
  left_by by_two = needed_anew records (record { version = w.mapping; by_two = by_two })

  first_anew : (x : EntityId) (rest : List EntityId) → stale w ≡ x ∷ rest →
      left_by w.by_two ≡ need x ∷ left_by (with_version w.mapping x w.by_two)
  first_anew x rest is =
      ap (needed_by_pages w.mapping records w.by_two) is
      ∙ ap (λ l. need x ∷ needed_by_pages w.mapping records (with_version w.mapping x w.by_two) l) (sym (stale_after w rising x rest is))

  -- for how many terms the page of the least stale entity needs room
  abbrev need_next : Option EntityId → ℕ
  need_next None = 0
  need_next (Some x) = need x limit.lean

  -- the page of the least stale entity is remapped, and had room
  pub remapped_has_room : need_next (next_stale w) ≤ limit.terms → HaveRoomBefore limit (left_by w.by_two) all → HaveRoomBefore limit (left_by (remapped w).by_two) all
  remapped_has_room within so_far = by (stale w) refl
    where
      by : (xs : List EntityId) → stale w ≡ xs → HaveRoomBefore limit (left_by (remapped w).by_two) all
      by [] is = subst (λ o. HaveRoomBefore limit (left_by (with_version_of w.mapping o w.by_two)) all) (sym (ap first_of is)) so_far
      by (x ∷ rest) is =
          let next : next_stale w ≡ Some x = ap first_of is in
          subst (λ o. HaveRoomBefore limit (left_by (with_version_of w.mapping o w.by_two)) all) (sym next)
          (next_met limit (left_by (with_version w.mapping x w.by_two)) all (need x ∷ []) (left_by w.by_two) (first_anew x rest is)
          (subst (λ o. need_next o ≤ limit.terms) next within, tt) so_far)

-- by the limit of the world
pub anew_has_room : (limit : Limit) (all : List Need) (w : WorldState) → IsRising entity_cmp w.by_two → w.limit ≡ limit → needs_anew w ≤ w.limit.terms →
    HaveRoomBefore limit (needed_anew w.replay.played.records (mapped_in w)) all → HaveRoomBefore limit (needed_anew w.replay.played.records (mapped_in (remapped w))) all
anew_has_room limit all w rising is within = subst (λ l. HaveRoomBefore l (needed_anew w.replay.played.records (mapped_in w)) all → HaveRoomBefore l (needed_anew w.replay.played.records (mapped_in (remapped w))) all) is
    (remapped_has_room w.limit all w rising (by (next_stale w) within))
  where
    by : (o : Option EntityId) → needs_at w o ≤ w.limit.terms → need_next w.limit all w rising o ≤ w.limit.terms
    by None h = h
    by (Some x) h = h
