-- How far a world has come in a play while deliveries are taken, and what the taking of one delivery leaves.
use Rattle.std.specs.Prelude.{◌≡◌, true, false, ⊤, ℕ, ◌+◌, length, Option, None, Some}
use Rattle.entity_model.specs.{declared.id.EntityId.EntityId, declared.event.Event.Event, Event.event_cmp}
use Rattle.entity_json.specs.Document.{unfit_of}
use Rattle.sorted_sets.specs.Rising.{IsRising, has}
use Rattle.delivery.specs.declared.Delivery.{Delivery}
use Rattle.delivery.specs.declared.Delivery.TheVariants.{Event as Told, Watermark, Ask, Mapping, Match}
use Rattle.reorder_buffer.specs.Buffered.{first_due}
use Rattle.replay_model.specs.{Records.Bytes, Records.record_of, Play.Replies}
use Rattle.replay_model.specs.Replies.{GivesDocument, HoldsDocument, Judgement, failed_events, source_replies}
use Rattle.replay_model.specs.ReplayState.{ReplayState, after_some, entered, fetches_due}
use Rattle.replay_model.specs.Explained.{is_applied, is_fetching, revision_wanted}
use Rattle.run_model.specs.{declared.stop.Halt.Halt, Course.Course, Moment.HasCountedAt, Moment.Beginning, Moment.Environment, Moment.Stage}
use Rattle.run_model.specs.Remapping.{HaveRoomBefore, needed_by_due, HasNoRoom, Mapped, mapped_by}
use Rattle.run_model.specs.Report.{HasReportedAt}

-- why bytes are no document of an entity
abbrev pub judgement : Judgement
judgement = unfit_of

-- every entity holds a document of itself, or nothing
abbrev pub HoldsDocuments : ReplayState → Type 0
HoldsDocuments world = (x : EntityId) → HoldsDocument judgement x (record_of world.played.records x).held

-- the replies of what is there, and of the events whose fetches failed, which the side output names
abbrev pub replies_there : (ℕ → Option Bytes) → ReplayState → Replies
replies_there contents world = source_replies judgement contents (failed_events world.played.side)

-- the world is so many applications of due events after where a play begins them, the least first, with some replies, each a
-- document of its entity or a reason, and the output has what is reported of that play so far; where it is known what the source has, with the
-- replies of what is there and of the events whose fetches failed. The counts rose by the play's fetches without those that due
-- events have still to make, and by the first of these where there was no room for what it gave; where memory was refused, perhaps.
-- There was room for all that the play needs but what due events have still to bring
pub record IsWithin (halt : Halt) (environment : Environment) (course : Course) (begun : Replies → ReplayState) (start : Beginning) (now : Stage) : Type 0 where
  pub steps : ℕ
  pub replies : Replies
  pub fit : (e : Event) (r : ℕ) → GivesDocument judgement e.entity (replies e r)
  pub is : now.world ≡ after_some replies steps (begun replies)
  pub says : HasReportedAt halt environment.report course start now replies
  pub source : (contents : ℕ → Option Bytes) → environment.known ≡ Some contents →
      now.world ≡ after_some (replies_there contents now.world) steps (begun (replies_there contents now.world))
  pub source_says : (contents : ℕ → Option Bytes) → environment.known ≡ Some contents → HasReportedAt halt environment.report course start now (replies_there contents now.world)
  pub roomed : HaveRoomBefore environment.limit (needed_by_due course.version replies now.world) (course.needed replies)
  pub source_roomed : (contents : ℕ → Option Bytes) → environment.known ≡ Some contents →
      HaveRoomBefore environment.limit (needed_by_due course.version (replies_there contents now.world) now.world) (course.needed (replies_there contents now.world))
  pub documents : HoldsDocuments now.world
  pub made : ℕ
  pub fetched : made + length (fetches_due replies now.world) ≡ length (course.fetched replies)
  pub source_fetched : (contents : ℕ → Option Bytes) → environment.known ≡ Some contents →
      made + length (fetches_due (replies_there contents now.world) now.world) ≡ length (course.fetched (replies_there contents now.world))
  pub counted : HasCountedAt halt start.counts now.counts start.world.played.side made now.world.played.side

-- right after a delivery, if there is one, is taken, before what it makes due is applied
abbrev pub entered_if_any : ReplayState → Option Delivery → ReplayState
entered_if_any w None = w
entered_if_any w (Some d) = entered w d

-- a world that stands between two deliveries, whatever was delivered before: more may come, none is due, those that wait are in order,
-- every page is a document and mapped by the version in force, and each event whose fetch failed was applied
pub record IsStanding (world : ReplayState) (mapped : Mapped) : Type 0 where
  pub open_still : world.buffer.closed ≡ false
  pub rests : first_due world.buffer ≡ None
  pub rises : IsRising event_cmp world.buffer.waiting
  pub by_one : mapped ≡ mapped_by mapped.version world.played.records
  pub documents : HoldsDocuments world
  pub applied : (e : Event) → has event_cmp e (failed_events world.played.side) ≡ true → is_applied world e ≡ true

-- the least due event wants a page: a document of its entity, and what the source has where it is known; and there is no room for it
pub record IsFull (environment : Environment) (world : ReplayState) (mapped : Mapped) : Type 0 where
  pub event : Event
  pub due : first_due world.buffer ≡ Some event
  pub fetches : is_fetching world event ≡ true
  pub bytes : Bytes
  pub document : judgement event.entity bytes ≡ None
  pub there : (contents : ℕ → Option Bytes) → environment.known ≡ Some contents → contents (revision_wanted world event) ≡ Some bytes
  pub over : HasNoRoom environment.limit world.played.records mapped event.entity (revision_wanted world event) bytes

-- an event or a watermark
abbrev pub IsEventOrMark : Delivery → Type 0
IsEventOrMark (Told event) = ⊤
IsEventOrMark (Watermark mark) = ⊤
IsEventOrMark (Ask pattern) = ⊥
IsEventOrMark (Mapping version) = ⊥
IsEventOrMark (Match query) = ⊥
