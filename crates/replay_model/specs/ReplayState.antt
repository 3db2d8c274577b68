-- A world as a value: the buffer and what was played, and what each delivery makes of them.
use Rattle.std.specs.Prelude.{◌≡◌, ℤ, ℕ, zero, suc, true, false, not, ◌&&◌, List, [], ◌∷◌, ◌++◌, Option, None, Some, filter}
use Rattle.sorted_sets.specs.Rising.{has}
use Rattle.entity_model.specs.declared.event.Event.{Event}
use Rattle.entity_model.specs.Event.{event_cmp}
use Rattle.entity_state.specs.declared.entry.Entry.{Entry}
use Rattle.entity_state.specs.declared.entry.Entry.TheVariants.{Late as LateEntry}
use Rattle.delivery.specs.declared.Delivery.{Delivery}
use Rattle.delivery.specs.declared.Delivery.TheVariants.{Event as Told, Watermark, Ask, Mapping, Match}
use Rattle.reorder_buffer.specs.declared.taken.Taken.{Taken}
use Rattle.reorder_buffer.specs.declared.taken.Taken.TheVariants.{New, Repeat, Late}
use Rattle.reorder_buffer.specs.Watermarks.{is_due, floor, is_below}
use Rattle.reorder_buffer.specs.Buffered.{Buffered, nothing_taken, nothing_taken_within, unforgotten, answer_to, after_taking, after_raising, after_closing, first_due, after_dropping}
use Rattle.replay_model.specs.Acceptance.{mark, events, accepted}
use Rattle.replay_model.specs.Fate.{in_order}
use Rattle.replay_model.specs.Records.{record_of}
use Rattle.replay_model.specs.Play.{Replies, Played, Fetch, nothing_played, apply, apply_all, play, play_to_end, fetches_of, fetches_of_all}

-- the events that are kept and that wait, and what was played of them
pub record ReplayState : Type 0 where
  pub buffer : Buffered
  pub played : Played

-- before the first delivery, without a horizon
abbrev pub nothing_delivered : ReplayState
nothing_delivered = record { buffer = nothing_taken; played = nothing_played }

-- before the first delivery, with this horizon
abbrev pub nothing_delivered_within : Option ℕ → ReplayState
nothing_delivered_within h = record { buffer = nothing_taken_within h; played = nothing_played }

-- the entry that taking an event makes
abbrev pub taken_entries : Taken → Event → List Entry
taken_entries New e = []
taken_entries Repeat e = []
taken_entries Late e = LateEntry e ∷ []

-- after taking an event
abbrev pub after_event : ReplayState → Event → ReplayState
after_event w e = record {
  buffer = after_taking w.buffer e;
  played = record { records = w.played.records; side = w.played.side ++ taken_entries (answer_to w.buffer e) e };
}

-- after taking a watermark
abbrev pub after_mark : ReplayState → ℤ → ReplayState
after_mark w m = record { buffer = after_raising w.buffer m; played = w.played }

-- after the end of the input is taken
abbrev pub after_end : ReplayState → ReplayState
after_end w = record { buffer = after_closing w.buffer; played = w.played }

-- after one due event is applied
abbrev pub after_applying : Replies → ReplayState → Option Event → ReplayState
after_applying replies w None = w
after_applying replies w (Some e) = record { buffer = after_dropping w.buffer; played = apply replies w.played e }

-- after the least due event is applied, if there is one
abbrev pub after_next : Replies → ReplayState → ReplayState
after_next replies w = after_applying replies w (first_due w.buffer)

-- after this many of the due events are applied, the least first
abbrev pub after_some : Replies → ℕ → ReplayState → ReplayState
after_some replies zero w = w
after_some replies (suc n) w = after_next replies (after_some replies n w)

-- the waiting events that are due, in their order
abbrev pub due_now : Buffered → List Event
due_now b = filter (is_due b.closed b.mark) b.waiting

-- the waiting events that aren't due
abbrev pub not_due : Buffered → List Event
not_due b = filter (λ e. not (is_due b.closed b.mark e)) b.waiting

-- after all due events are applied
abbrev pub after_due : Replies → ReplayState → ReplayState
after_due replies w = record { buffer = record w.buffer { waiting = not_due w.buffer }; played = apply_all replies w.played (due_now w.buffer) }

-- right after a delivery is taken, before what it makes due is applied
abbrev pub entered : ReplayState → Delivery → ReplayState
entered w (Told e) = after_event w e
entered w (Watermark m) = after_mark w m
entered w (Ask q) = w
entered w (Mapping v) = w
entered w (Match q) = w

-- after a delivery: an event is taken, and after a watermark what is due is applied
abbrev pub delivered : Replies → ReplayState → Delivery → ReplayState
delivered replies w (Told e) = after_event w e
delivered replies w (Watermark m) = after_due replies (after_mark w m)
delivered replies w (Ask q) = w
delivered replies w (Mapping v) = w
delivered replies w (Match q) = w

-- after the end of the input, which makes every event due
abbrev pub ended : Replies → ReplayState → ReplayState
ended replies w = after_due replies (after_end w)

-- the state that a replay has after a list of deliveries
abbrev pub following : Option ℕ → Replies → List Delivery → ReplayState
following h replies ds = record {
  buffer = record {
    kept = unforgotten (floor h (mark ds)) (in_order (events ds));
    waiting = in_order (filter (λ e. not (is_due false (mark ds) e)) (accepted h ds));
    mark = mark ds;
    horizon = h;
    closed = false;
  };
  played = play h replies ds;
}

-- the state that a replay has after a list of deliveries and the end of the input
abbrev pub following_to_end : Option ℕ → Replies → List Delivery → ReplayState
following_to_end h replies ds = record {
  buffer = record { kept = unforgotten (floor h (mark ds)) (in_order (events ds)); waiting = []; mark = mark ds; horizon = h; closed = true };
  played = play_to_end h replies ds;
}

-- the fetches that the application of an event makes in this state
abbrev pub fetches_for : ReplayState → Option Event → List Fetch
fetches_for w None = []
fetches_for w (Some e) = fetches_of e (record_of w.played.records e.entity)

-- the fetches that the application of the least due event makes
abbrev pub fetches_next : ReplayState → List Fetch
fetches_next w = fetches_for w (first_due w.buffer)

-- the fetches that the application of all due events makes
abbrev pub fetches_due : Replies → ReplayState → List Fetch
fetches_due replies w = fetches_of_all replies w.played (due_now w.buffer)

-- the fetches that a delivery makes
abbrev pub fetches_delivered : Replies → ReplayState → Delivery → List Fetch
fetches_delivered replies w (Told e) = []
fetches_delivered replies w (Watermark m) = fetches_due replies (after_mark w m)
fetches_delivered replies w (Ask q) = []
fetches_delivered replies w (Mapping v) = []
fetches_delivered replies w (Match q) = []

-- a buffer that has taken these deliveries with this horizon, whatever was dropped, closed or not
pub record HasTakenIn (h : Option ℕ) (ds : List Delivery) (b : Buffered) : Type 0 where
  pub horizon : b.horizon ≡ h
  pub mark_is : b.mark ≡ mark ds
  pub kept : (e : Event) → has event_cmp e b.kept ≡ (not (is_below (floor h (mark ds)) e.time) && has event_cmp e (events ds))
