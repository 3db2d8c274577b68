-- A page that isn't kept holds nothing, and an entity holds what its state wants exactly where no revision entry of it is open.
use Rattle.std.proofs.Common.{◌≡◌, ℕ, Bool, true, false, not, cond, ◌&&◌, ◌||◌, ◌==◌, List, [], ◌∷◌, ◌++◌, Option, None, Result, Ok, Err, is_none, nat_lt, nat_le, refl, sym, ◌∙◌, ap, subst, true≢false, eqb-true, eq-eqb}
use Rattle.std.proofs.lemmas.Bool.{not-false, not-true}
use Rattle.std.specs.List.{list_any}
use Rattle.std.proofs.lemmas.List.Folds.{list_any-append}
use Rattle.entity_model.specs.declared.id.EntityId.{EntityId}
use Rattle.entity_model.specs.declared.event.Event.{Event}
use Rattle.entity_model.specs.declared.event.Kind.{Kind}
use Rattle.entity_model.specs.declared.event.Kind.TheVariants.{Edit, Delete, Undelete, ReconcileDeleted, ReconcileKept}
use Rattle.entity_state.specs.declared.state.Mode.{Mode}
use Rattle.entity_state.specs.declared.state.Mode.TheVariants.{Unknown, Kept, Deleted}
use Rattle.entity_state.specs.declared.state.State.{State}
use Rattle.entity_state.specs.declared.record.Held.{Held}
use Rattle.entity_state.specs.declared.record.Record.{Record}
use Rattle.entity_state.specs.State.{state_after, after_kind, kept, deleted, is_kept, is_deleted}
use Rattle.entity_state.specs.Record.{held_revision, is_held, wants}
use Rattle.entity_state.specs.declared.entry.Cause.{Cause}
use Rattle.entity_state.specs.declared.entry.Entry.{Entry}
use Rattle.entity_state.specs.declared.entry.Entry.TheVariants.{Late, Revision}
use Rattle.delivery.specs.declared.Delivery.{Delivery}
use Rattle.delivery.specs.declared.Delivery.TheVariants.{Event as Told, Watermark, Ask, Mapping, Match}
use Rattle.sorted_sets.proofs.Bools.{clash, or_true, and_right, and_left, and_none, and_all}
use Rattle.sorted_sets.proofs.Finding.{list_any_weaker, list_any_never}
use Rattle.sorted_sets.proofs.Pushes.{by_pushes}
use Rattle.replay_model.specs.Acceptance.{is_late}
use Rattle.replay_model.specs.Fate.{is_of}
use Rattle.replay_model.specs.Records.{Bytes, record_of, settles_at, is_settled}
use Rattle.replay_model.specs.Play.{Replies, Played, nothing_played, held_after_fetch, record_after, entry_of, entries_after, apply, apply_all, newly_due, happens, play, played}
use Rattle.replay_model.specs.Entries.{HoldsUnlessOpen, is_of_revision, is_open_by, is_revision_of, has_open_revision}
use Rattle.replay_model.proofs.Arrivals.{play-push}
use Rattle.replay_model.proofs.RecordOf.{entity_of, record-after, record_of-empty}

-- what holds of an entity's record and the side output between any two applications
pub record Tells (side : List Entry) (x : EntityId) (r : Record Bytes) : Type 0 where
  -- a page that isn't kept holds nothing
  pub empty_unless_kept : is_kept r.state.mode ≡ false → r.held ≡ None
  -- a revision that the state wants and that isn't held is named
  pub named : wants r.state (held_revision r.held) ≡ true → list_any (is_of_revision x r.state.rev) side ≡ true

same_number : (n : ℕ) → (n == n) ≡ true
same_number n = eq-eqb n n refl

-- a page that was kept is kept or deleted after an event
known_stays : (k : Kind) (s : State) (r : ℕ) → is_kept s.mode ≡ true → (is_kept (after_kind k s r).mode || is_deleted (after_kind k s r).mode) ≡ true
known_stays Edit s r h = elim (nat_lt s.rev r) as (λ b. (is_kept (cond b (kept r) s).mode || is_deleted (cond b (kept r) s).mode) ≡ true) [ true ↦ refl | false ↦ ap (λ b. b || is_deleted s.mode) h ]
known_stays Delete s r h = elim (nat_le s.rev r) as (λ b. (is_kept (cond b (deleted r) s).mode || is_deleted (cond b (deleted r) s).mode) ≡ true) [ true ↦ refl | false ↦ ap (λ b. b || is_deleted s.mode) h ]
known_stays Undelete s r h = elim (nat_lt s.rev r || (s.rev == r && is_deleted s.mode)) as (λ b. (is_kept (cond b (kept r) s).mode || is_deleted (cond b (kept r) s).mode) ≡ true) [ true ↦ refl | false ↦ ap (λ b. b || is_deleted s.mode) h ]
known_stays ReconcileDeleted s r h = refl
known_stays ReconcileKept s r h = refl

none_unless_kept : (m n : Mode) (rev : ℕ) (rest : Bool) (held fetched : Option (Held Bytes)) → (is_kept m ≡ true → (is_kept n || is_deleted n) ≡ true) → (is_kept m ≡ false → held ≡ None) → is_kept n ≡ false → cond (is_kept n && rest) fetched (cond (is_deleted n) None held) ≡ None
none_unless_kept m Kept rev rest held fetched known before h = absurd (true≢false h)
none_unless_kept m Deleted rev rest held fetched known before h = refl
none_unless_kept Kept Unknown rev rest held fetched known before h = absurd (true≢false (sym (known refl)))
none_unless_kept Unknown Unknown rev rest held fetched known before h = before refl
none_unless_kept Deleted Unknown rev rest held fetched known before h = before refl

-- after an application, the revision that the new state wants is held or named
named_after : (side : List Entry) (x : EntityId) (e : Event) (s : State) (held : Option (Held Bytes)) (reply : Result Bytes Cause) (w : Bool) → is_of x e ≡ true → wants s (held_revision held) ≡ w
    → wants s (held_revision (cond w (held_after_fetch s.rev reply held) (cond (is_deleted s.mode) None held))) ≡ true
    → list_any (is_of_revision x s.rev) (side ++ cond w (entry_of e s.rev reply) []) ≡ true
named_after side x e s held (Ok bytes) true of w after = clash after (ap (λ b. is_kept s.mode && not b) (same_number s.rev) ∙ and_none (is_kept s.mode))
named_after side x e s held (Err cause) true of w after =
    list_any-append (is_of_revision x s.rev) side (Revision e s.rev cause ∷ [])
    ∙ or_true (list_any (is_of_revision x s.rev) side) _ (ap (λ b. (b && s.rev == s.rev) || false) of ∙ ap (λ b. b || false) (same_number s.rev))
named_after side x e s held reply false of w after =
    elim s.mode as (λ m. wants (record { mode = m; rev = s.rev }) (held_revision held) ≡ false → wants (record { mode = m; rev = s.rev }) (held_revision (cond (is_deleted m) None held)) ≡ true → list_any (is_of_revision x s.rev) (side ++ []) ≡ true) [
      | Unknown ↦ λ w after. clash after refl
      | Kept ↦ λ w after. clash after w
      | Deleted ↦ λ w after. clash after refl
    ] w after

-- the event's own entity
Tells-own : (replies : Replies) (side : List Entry) (x : EntityId) (e : Event) (r : Record Bytes) → is_of x e ≡ true → Tells side x r → Tells (side ++ entries_after replies e r) x (record_after replies e r)
Tells-own replies side x e r of t = record {
  empty_unless_kept = none_unless_kept r.state.mode (state_after r.state e).mode (state_after r.state e).rev (not (is_held (state_after r.state e).rev (held_revision r.held))) r.held (held_after_fetch (state_after r.state e).rev (replies e (state_after r.state e).rev) r.held) (known_stays e.kind r.state e.rev) t.empty_unless_kept;
  named = named_after side x e (state_after r.state e) r.held (replies e (state_after r.state e).rev) (wants (state_after r.state e) (held_revision r.held)) of refl;
}

-- more entries
Tells-more : (side more : List Entry) (x : EntityId) (r : Record Bytes) → Tells side x r → Tells (side ++ more) x r
Tells-more side more x r t = record {
  empty_unless_kept = t.empty_unless_kept;
  named = λ w. list_any-append (is_of_revision x r.state.rev) side more ∙ ap (λ b. b || list_any (is_of_revision x r.state.rev) more) (t.named w);
}

abbrev TellsAll : Played → Type 0
TellsAll p = (x : EntityId) → Tells p.side x (record_of p.records x)

Tells-apply : (replies : Replies) (p : Played) (e : Event) → TellsAll p → TellsAll (apply replies p e)
Tells-apply replies p e all x =
    subst (λ r. Tells (p.side ++ entries_after replies e (record_of p.records e.entity)) x r) (sym (record-after replies p.records e x)) (by (is_of x e) refl)
  where
    by : (b : Bool) → is_of x e ≡ b → Tells (p.side ++ entries_after replies e (record_of p.records e.entity)) x (cond b (record_after replies e (record_of p.records x)) (record_of p.records x))
    by true of = subst (λ y. Tells (p.side ++ entries_after replies e (record_of p.records y)) x (record_after replies e (record_of p.records x))) (entity_of x e of) (Tells-own replies p.side x e (record_of p.records x) of (all x))
    by false of = Tells-more p.side (entries_after replies e (record_of p.records e.entity)) x (record_of p.records x) (all x)

Tells-apply_all : (replies : Replies) (p : Played) (es : List Event) → TellsAll p → TellsAll (apply_all replies p es)
Tells-apply_all replies p [] all = all
Tells-apply_all replies p (e ∷ es) all = Tells-apply_all replies (apply replies p e) es (Tells-apply replies p e all)

Tells-happens : (hz : Option ℕ) (replies : Replies) (ds : List Delivery) (d : Delivery) (p : Played) → TellsAll p → TellsAll (happens hz replies ds d p)
Tells-happens hz replies ds (Told e) p all x = Tells-more p.side (cond (is_late hz ds e) (Late e ∷ []) []) x (record_of p.records x) (all x)
Tells-happens hz replies ds (Ask q) p all x = all x
Tells-happens hz replies ds (Mapping v) p all x = all x
Tells-happens hz replies ds (Match q) p all x = all x
Tells-happens hz replies ds (Watermark w) p all x = Tells-apply_all replies p (newly_due hz ds false (ds ++ Watermark w ∷ [])) all x

Tells-nothing : TellsAll nothing_played
Tells-nothing x = subst (λ r. Tells [] x r) (sym (record_of-empty x)) (record { empty_unless_kept = λ _. refl; named = λ w. clash w refl })

Tells-play : (hz : Option ℕ) (replies : Replies) (ds : List Delivery) → TellsAll (play hz replies ds)
Tells-play hz replies = by_pushes (λ ds. TellsAll (play hz replies ds)) Tells-nothing
    (λ ds d all. subst TellsAll (sym (play-push hz replies ds d)) (Tells-happens hz replies ds d (play hz replies ds) all))

pub Tells-played : (hz : Option ℕ) (closed : Bool) (replies : Replies) (ds : List Delivery) (x : EntityId) → Tells (played hz closed replies ds).side x (record_of (played hz closed replies ds).records x)
Tells-played hz false replies ds = Tells-play hz replies ds
Tells-played hz true replies ds = Tells-apply_all replies (play hz replies ds) (newly_due hz ds true ds) (Tells-play hz replies ds)

-- whether an entry is an open revision entry of the entity x with the record r
abbrev pub is_open_of : EntityId → Record Bytes → Entry → Bool
is_open_of x r entry = is_revision_of x entry && is_open_by r entry

-- where the state wants no revision, or it is held, none is open
none_open : (x : EntityId) (r : Record Bytes) → wants r.state (held_revision r.held) ≡ false → (entry : Entry) → is_open_of x r entry ≡ false
none_open x r w (Late e) = refl
none_open x r w (Revision e q cause) = ap (λ b. is_of x e && b) (not_lacked (is_kept r.state.mode) (r.state.rev == q) refl w) ∙ and_none (is_of x e)
  where
    not_lacked : (k t : Bool) → (r.state.rev == q) ≡ t → (k && not (is_held r.state.rev (held_revision r.held))) ≡ false → ((k && t) && not (is_held q (held_revision r.held))) ≡ false
    not_lacked false t e w = refl
    not_lacked true false e w = refl
    not_lacked true true e w = subst (λ n. not (is_held n (held_revision r.held)) ≡ false) (eqb-true r.state.rev q e) w

-- an entry that names the revision that the state wants and that isn't held is open
named_open : (x : EntityId) (r : Record Bytes) → wants r.state (held_revision r.held) ≡ true → (entry : Entry) → is_of_revision x r.state.rev entry ≡ true → is_open_of x r entry ≡ true
named_open x r w (Late e) n = n
named_open x r w (Revision e q cause) n =
    let revision : q ≡ r.state.rev = eqb-true q r.state.rev (and_right (is_of x e) _ n) in
    subst (λ m. (is_of x e && ((is_kept r.state.mode && r.state.rev == m) && not (is_held m (held_revision r.held)))) ≡ true) (sym revision)
    (all_of (is_of x e) (is_kept r.state.mode) (r.state.rev == r.state.rev) (not (is_held r.state.rev (held_revision r.held))) (and_left (is_of x e) _ n) (same_number r.state.rev) w)
  where
    all_of : (a b c d : Bool) → a ≡ true → c ≡ true → (b && d) ≡ true → (a && ((b && c) && d)) ≡ true
    all_of a b c d p q w = ap (λ t. t && ((b && c) && d)) p ∙ ap (λ t. (b && t) && d) q ∙ ap (λ t. t && d) (and_all b) ∙ w

-- an entity of which the side output tells holds what its state wants exactly where no revision entry of it is open
pub settled_by : (side : List Entry) (x : EntityId) (r : Record Bytes) → Tells side x r → is_settled r ≡ not (list_any (is_open_of x r) side)
settled_by side x r t =
    elim (wants r.state (held_revision r.held)) as (λ w. wants r.state (held_revision r.held) ≡ w → is_settled r ≡ not (list_any (is_open_of x r) side)) [
      | true ↦ λ w. unsettled r.state.mode w ∙ ap not (sym (list_any_weaker (is_of_revision x r.state.rev) (is_open_of x r) (named_open x r w) side (t.named w)))
      | false ↦ λ w. settled r.state.mode w t.empty_unless_kept ∙ ap not (sym (list_any_never (is_open_of x r) (none_open x r w) side))
    ] refl
  where
    unsettled : (m : Mode) → (is_kept m && not (is_held r.state.rev (held_revision r.held))) ≡ true → settles_at m r.state.rev (held_revision r.held) ≡ false
    unsettled Unknown w = clash w refl
    unsettled Kept w = not-true _ w
    unsettled Deleted w = clash w refl

    settled : (m : Mode) → (is_kept m && not (is_held r.state.rev (held_revision r.held))) ≡ false → (is_kept m ≡ false → r.held ≡ None) → settles_at m r.state.rev (held_revision r.held) ≡ true
    settled Unknown w none = ap (λ h. is_none (held_revision h)) (none refl)
    settled Kept w none = not-false _ w
    settled Deleted w none = ap (λ h. is_none (held_revision h)) (none refl)

-- an entity holds what its state wants exactly where the side output has no open revision entry of it
pub settled-played : (hz : Option ℕ) (closed : Bool) (replies : Replies) (ds : List Delivery) (x : EntityId) → is_settled (record_of (played hz closed replies ds).records x) ≡ not (has_open_revision (played hz closed replies ds).records (played hz closed replies ds).side x)
settled-played hz closed replies ds x = settled_by (played hz closed replies ds).side x (record_of (played hz closed replies ds).records x) (Tells-played hz closed replies ds x)

-- the same, of any records and side output of which it holds
told_holds : (p : Played) → TellsAll p → HoldsUnlessOpen p
told_holds p all = record {
  settled = λ x. settled_by p.side x (record_of p.records x) (all x);
  empty = λ x. (all x).empty_unless_kept;
}

-- an open revision entry of an entity names the revision that its state wants
open_named : (x : EntityId) (r : Record Bytes) (entry : Entry) → is_open_of x r entry ≡ true → is_of_revision x r.state.rev entry ≡ true
open_named x r (Late e) o = o
open_named x r (Revision e q cause) o =
    let kept_there : (is_kept r.state.mode && r.state.rev == q) ≡ true = and_left (is_kept r.state.mode && r.state.rev == q) _ (and_right (is_of x e) _ o) in
    let same : r.state.rev ≡ q = eqb-true r.state.rev q (and_right (is_kept r.state.mode) _ kept_there) in
    ap (λ b. b && q == r.state.rev) (and_left (is_of x e) _ o) ∙ ap (λ n. q == n) same ∙ same_number q

-- and where that holds, the side output tells of the entity
pub told_by : (side : List Entry) (x : EntityId) (r : Record Bytes) → is_settled r ≡ not (list_any (is_open_of x r) side) → (is_kept r.state.mode ≡ false → r.held ≡ None) → Tells side x r
told_by side x r holds empty = record {
  empty_unless_kept = empty;
  named = λ w. list_any_weaker (is_open_of x r) (is_of_revision x r.state.rev) (open_named x r) side (not_settled_open w);
}
  where
    unsettled : (m : Mode) → (is_kept m && not (is_held r.state.rev (held_revision r.held))) ≡ true → settles_at m r.state.rev (held_revision r.held) ≡ false
    unsettled Unknown w = clash w refl
    unsettled Kept w = not-true _ w
    unsettled Deleted w = clash w refl

    not_settled_open : wants r.state (held_revision r.held) ≡ true → list_any (is_open_of x r) side ≡ true
    not_settled_open w = not-false _ (sym holds ∙ unsettled r.state.mode w)

holds_told : (p : Played) → HoldsUnlessOpen p → TellsAll p
holds_told p holds x = told_by p.side x (record_of p.records x) (holds.settled x) (holds.empty x)

-- it holds at the start
pub holds-nothing : HoldsUnlessOpen nothing_played
holds-nothing = told_holds nothing_played Tells-nothing

-- an application keeps it
pub holds-apply : (replies : Replies) (p : Played) (e : Event) → HoldsUnlessOpen p → HoldsUnlessOpen (apply replies p e)
holds-apply replies p e holds = told_holds (apply replies p e) (Tells-apply replies p e (holds_told p holds))

-- more entries keep it
pub holds-more : (p : Played) (more : List Entry) → HoldsUnlessOpen p → HoldsUnlessOpen (record { records = p.records; side = p.side ++ more })
holds-more p more holds =
    told_holds (record { records = p.records; side = p.side ++ more }) (λ x. Tells-more p.side more x (record_of p.records x) (holds_told p holds x))
