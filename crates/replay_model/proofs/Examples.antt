-- Small lists of deliveries with what they lead to, worked out by hand: a wrong definition fails here.
use Rattle.std.proofs.Common.{◌≡◌, ℕ, pos, true, false, cond, nat_eq, slice_index, List, [], ◌∷◌, Option, None, Some, refl}
use Rattle.entity_model.specs.declared.id.EntityId.{EntityId}
use Rattle.entity_model.specs.declared.id.IdKind.TheVariants.{Q}
use Rattle.entity_model.specs.declared.event.Event.{Event}
use Rattle.entity_model.specs.declared.event.Kind.{Kind}
use Rattle.entity_model.specs.declared.event.Kind.TheVariants.{Edit, Delete, Undelete, ReconcileDeleted, ReconcileKept}
use Rattle.entity_model.specs.declared.unfit.Unfit.{Unfit}
use Rattle.entity_model.specs.declared.unfit.Unfit.TheVariants.{Shape}
use Rattle.entity_state.specs.declared.record.Held.{Held}
use Rattle.entity_state.specs.declared.record.Record.{Record}
use Rattle.entity_state.specs.State.{kept, deleted}
use Rattle.entity_state.specs.Record.{blank}
use Rattle.entity_state.specs.declared.entry.Cause.TheVariants.{Missing, Failed, Unfit as NoDocument}
use Rattle.entity_state.specs.declared.entry.Entry.TheVariants.{Late, Revision}
use Rattle.delivery.specs.declared.Delivery.{Delivery}
use Rattle.delivery.specs.declared.Delivery.TheVariants.{Event as Told, Watermark, Mapping}
use Rattle.entity_model.specs.declared.mapping.MappingVersion.TheVariants.{One, Two}
use Rattle.replay_model.specs.Acceptance.{mark, version_in_force, accepted, late, due, known}
use Rattle.replay_model.specs.Fate.{fate, events_of, in_order}
use Rattle.replay_model.specs.Records.{Bytes, is_settled}
use Rattle.replay_model.specs.Play.{Replies, newly_due, record_after, entries_after, fetches_of}
use Rattle.replay_model.specs.Entries.{is_open_late, is_open_by}
use Rattle.replay_model.specs.Replies.{source_replies, failed_events}
use Rattle.replay_model.proofs.RecordOf.{applied_to}

-- an event of the item with this number
abbrev event : Kind → ℕ → ℕ → ℕ → Event
event k number r t = record { entity = record { kind = Q; number = number }; time = pos t; rev = r; kind = k }

abbrev edit : ℕ → ℕ → ℕ → Event
edit = event Edit

-- ---- two edits in the wrong order

abbrev swapped : List Delivery
swapped = Told (edit 1 5 5) ∷ Told (edit 1 4 4) ∷ Watermark (pos 6) ∷ []

swapped-in_order : newly_due None (Told (edit 1 5 5) ∷ Told (edit 1 4 4) ∷ []) false swapped ≡ edit 1 4 4 ∷ edit 1 5 5 ∷ []
swapped-in_order = refl

swapped-fate : fate (in_order (due None false swapped)) ≡ kept 5
swapped-fate = refl

-- ---- a late event, one that is just in time, and a repeat

abbrev one_late : List Delivery
one_late = Watermark (pos 100) ∷ Told (edit 1 1 100) ∷ Told (edit 2 2 101) ∷ Told (edit 1 1 100) ∷ []

one_late-late : late None one_late ≡ edit 1 1 100 ∷ []
one_late-late = refl

one_late-accepted : accepted None one_late ≡ edit 2 2 101 ∷ []
one_late-accepted = refl

one_late-not_due : due None false one_late ≡ []
one_late-not_due = refl

one_late-due : due None true one_late ≡ edit 2 2 101 ∷ []
one_late-due = refl

one_late-known : in_order (known true one_late) ≡ edit 1 1 100 ∷ edit 2 2 101 ∷ []
one_late-known = refl

-- an event that comes first in time and again after the mark passed it is a repeat, and not late
late_repeat : late None (Told (edit 1 1 1) ∷ Watermark (pos 2) ∷ Told (edit 1 1 1) ∷ []) ≡ []
late_repeat = refl

-- ---- a horizon: an event at the floor is a repeat, and one below it is late each time that it comes, though it was accepted

abbrev forgotten : List Delivery
forgotten = Told (edit 1 1 1) ∷ Watermark (pos 3) ∷ Told (edit 1 1 1) ∷ Watermark (pos 4) ∷ Told (edit 1 1 1) ∷ Told (edit 1 1 1) ∷ []

forgotten-late : late (Some 2) forgotten ≡ edit 1 1 1 ∷ edit 1 1 1 ∷ []
forgotten-late = refl

forgotten-accepted : accepted (Some 2) forgotten ≡ edit 1 1 1 ∷ []
forgotten-accepted = refl

forgotten-at_floor : late (Some 3) forgotten ≡ []
forgotten-at_floor = refl

forgotten-never : late None forgotten ≡ []
forgotten-never = refl

-- a watermark that falls leaves the mark
falling : mark (Watermark (pos 5) ∷ Watermark (pos 3) ∷ []) ≡ Some (pos 5)
falling = refl

-- ---- versions of the mapping: the last one counts, and it isn't the greatest

back_to_one : version_in_force (Mapping Two ∷ Told (edit 1 1 1) ∷ Mapping One ∷ Watermark (pos 2) ∷ []) ≡ One
back_to_one = refl

still_two : version_in_force (Mapping One ∷ Mapping Two ∷ Watermark (pos 2) ∷ []) ≡ Two
still_two = refl

-- ---- an undeletion, with the deletion delivered again and again

abbrev undeleted : List Delivery
undeleted = Told (edit 1 1 1) ∷ Told (event Delete 1 1 2) ∷ Watermark (pos 2) ∷ Told (event Delete 1 1 2) ∷ Told (event Undelete 1 1 3) ∷ Watermark (pos 3) ∷ Told (event Delete 1 1 2) ∷ []

undeleted-accepted : accepted None undeleted ≡ edit 1 1 1 ∷ event Delete 1 1 2 ∷ event Undelete 1 1 3 ∷ []
undeleted-accepted = refl

undeleted-late : late None undeleted ≡ []
undeleted-late = refl

undeleted-fate : fate (in_order (due None true undeleted)) ≡ kept 1
undeleted-fate = refl

-- ---- a late edit, before a reconciliation that closes it and after one that doesn't

abbrev closed_later : List Delivery
closed_later = Told (edit 1 1 1) ∷ Watermark (pos 5) ∷ Told (edit 1 2 3) ∷ Told (event ReconcileKept 1 2 6) ∷ []

closed_later-fate : fate (in_order (due None true closed_later)) ≡ kept 2
closed_later-fate = refl

closed_later-closed : is_open_late (due None true closed_later) (edit 1 2 3) ≡ false
closed_later-closed = refl

-- until the reconciliation is due, the late edit is open
closed_later-open_before : is_open_late (due None false closed_later) (edit 1 2 3) ≡ true
closed_later-open_before = refl

abbrev left_open : List Delivery
left_open = Told (event ReconcileKept 1 1 2) ∷ Told (event ReconcileKept 2 9 9) ∷ Watermark (pos 5) ∷ Told (edit 1 2 3) ∷ []

left_open-fate : fate (in_order (events_of (edit 1 2 3).entity (due None true left_open))) ≡ kept 1
left_open-fate = refl

left_open-known : fate (in_order (events_of (edit 1 2 3).entity (known true left_open))) ≡ kept 2
left_open-known = refl

left_open-open : is_open_late (due None true left_open) (edit 1 2 3) ≡ true
left_open-open = refl

-- events of one time go by revision, then by kind
one_time : in_order (edit 1 3 7 ∷ event Delete 1 2 7 ∷ edit 1 2 7 ∷ []) ≡ edit 1 2 7 ∷ event Delete 1 2 7 ∷ edit 1 3 7 ∷ []
one_time = refl

-- ---- fetches: each revision has its number as its one byte, revision 7 isn't there, and revision 8 is no document

abbrev there : ℕ → Option Bytes
there r = cond (nat_eq r 7) None (Some (r ∷ []))

abbrev unfit : EntityId → Bytes → Option Unfit
unfit x bytes = cond (nat_eq (slice_index bytes 0) 8) (Some Shape) None

-- the fetch for the edit to revision 2 failed
abbrev replies : Replies
replies = source_replies unfit there (edit 1 2 2 ∷ [])

abbrev holding : ℕ → Option (Held Bytes)
holding r = Some (record { revision = r; content = r ∷ [] })

abbrev after_two : Record Bytes
after_two = applied_to replies blank (edit 1 1 1 ∷ edit 1 2 2 ∷ [])

-- what was held stays where a fetch fails, and the entry is open
failed_once : after_two ≡ record { state = kept 2; held = holding 1; reconciled = None }
failed_once = refl

failed_once-entries : entries_after replies (edit 1 2 2) (record { state = kept 1; held = holding 1; reconciled = None }) ≡ Revision (edit 1 2 2) 2 Failed ∷ []
failed_once-entries = refl

failed_once-unsettled : is_settled after_two ≡ false
failed_once-unsettled = refl

failed_once-open : is_open_by after_two (Revision (edit 1 2 2) 2 Failed) ≡ true
failed_once-open = refl

-- a later revision is fetched, and closes it
fetched_later : record_after replies (edit 1 3 3) after_two ≡ record { state = kept 3; held = holding 3; reconciled = None }
fetched_later = refl

fetched_later-closed : is_open_by (record_after replies (edit 1 3 3) after_two) (Revision (edit 1 2 2) 2 Failed) ≡ false
fetched_later-closed = refl

-- an event that wants no new revision asks again for what isn't held
asked_again : fetches_of (edit 1 1 9) after_two ≡ record { event = edit 1 1 9; revision = 2 } ∷ []
asked_again = refl

asked_again-reply : record_after replies (edit 1 1 9) after_two ≡ record { state = kept 2; held = holding 2; reconciled = None }
asked_again-reply = refl

-- what is held is not fetched again
held_stays : fetches_of (edit 1 3 9) (record { state = kept 3; held = holding 3; reconciled = None }) ≡ []
held_stays = refl

missing : entries_after replies (edit 1 7 7) blank ≡ Revision (edit 1 7 7) 7 Missing ∷ []
missing = refl

no_document : entries_after replies (edit 1 8 8) blank ≡ Revision (edit 1 8 8) 8 (NoDocument Shape) ∷ []
no_document = refl

-- a deletion drops what is held, and an undeletion fetches it anew
dropped : record_after replies (event Delete 1 3 4) (record { state = kept 3; held = holding 3; reconciled = None }) ≡ record { state = deleted 3; held = None; reconciled = None }
dropped = refl

undeleted_fetch : fetches_of (event Undelete 1 3 5) (record { state = deleted 3; held = None; reconciled = None }) ≡ record { event = event Undelete 1 3 5; revision = 3 } ∷ []
undeleted_fetch = refl

-- of two reconciliations the later is remembered, in whatever order they are applied
reconciled : applied_to replies blank (event ReconcileDeleted 1 9 6 ∷ event ReconcileKept 1 1 5 ∷ []) ≡ record { state = kept 1; held = holding 1; reconciled = Some (event ReconcileDeleted 1 9 6) }
reconciled = refl

failed_named : failed_events (Late (edit 1 1 1) ∷ Revision (edit 1 2 2) 2 Failed ∷ Revision (edit 1 7 7) 7 Missing ∷ []) ≡ edit 1 2 2 ∷ []
failed_named = refl
