-- The buffer as a value, and what each call makes of it.
use Rattle.std.specs.Prelude.{◌≡◌, Bool, true, false, cond, not, ℕ, ℤ, Option, None, List, [], find, filter}
use Rattle.std.specs.BTreeSet.{insert_key}
use Rattle.std.specs.Set.{remove_key}
use Rattle.sorted_sets.specs.Rising.{has}
use Rattle.entity_model.specs.declared.event.Event.{Event}
use Rattle.entity_model.specs.Event.{event_cmp}
use Rattle.reorder_buffer.specs.declared.taken.Taken.{Taken}
use Rattle.reorder_buffer.specs.declared.taken.Taken.TheVariants.{New, Repeat, Late}
use Rattle.reorder_buffer.specs.Watermarks.{greater, reached, is_due, floor, is_below}

-- the events that were taken and aren't forgotten, and those that wait to be dropped, each in rising order; the mark; how many
-- microseconds behind it the floor is, below which events are forgotten, if they ever are; and whether no more events come
pub record Buffered : Type 0 where
  pub kept : List Event
  pub waiting : List Event
  pub mark : Option ℤ
  pub horizon : Option ℕ
  pub closed : Bool

-- before the first event and the first watermark, where nothing is ever forgotten
abbrev pub nothing_taken : Buffered
nothing_taken = record { kept = []; waiting = []; mark = None; horizon = None; closed = false }

-- before the first event and the first watermark, with this horizon
abbrev pub nothing_taken_within : Option ℕ → Buffered
nothing_taken_within h = record nothing_taken { horizon = h }

-- the floor below which events are forgotten
abbrev pub floor_of : Buffered → Option ℤ
floor_of b = floor b.horizon b.mark

-- what an event is at its delivery: a repeat if an equal one is kept, late if the mark reached it, and new otherwise
abbrev pub answer_to : Buffered → Event → Taken
answer_to b e = cond (has event_cmp e b.kept) Repeat (cond (reached b.mark e.time) Late New)

-- the events that aren't below a floor
abbrev pub unforgotten : Option ℤ → List Event → List Event
unforgotten f es = filter (λ e. not (is_below f e.time)) es

-- the events with one more at its place in the order
abbrev pub with_event : List Event → Event → List Event
with_event = insert_key event_cmp

-- the kept events with one more, which is kept where it isn't below the floor
abbrev pub keeping : Buffered → Event → List Event
keeping b e = cond (is_below (floor_of b) e.time) b.kept (with_event b.kept e)

-- after taking an event that is this: a late event is kept where it isn't below the floor, and a new one is kept and waits
abbrev pub after_answer : Taken → Buffered → Event → Buffered
after_answer New b e = record b { kept = with_event b.kept e; waiting = with_event b.waiting e }
after_answer Repeat b e = b
after_answer Late b e = record b { kept = keeping b e }

-- after taking an event
abbrev pub after_taking : Buffered → Event → Buffered
after_taking b e = after_answer (answer_to b e) b e

-- the event is one more of those that are kept: no equal one is kept, and it isn't below the floor
pub record IsAdded (b : Buffered) (e : Event) : Type 0 where
  pub other : has event_cmp e b.kept ≡ false
  pub above : is_below (floor_of b) e.time ≡ false

-- without the events below the floor
abbrev pub after_forgetting : Buffered → Buffered
after_forgetting b = record b { kept = unforgotten (floor_of b) b.kept }

-- after a watermark
abbrev pub after_raising : Buffered → ℤ → Buffered
after_raising b w = after_forgetting (record b { mark = greater b.mark w })

-- after the last delivery
abbrev pub after_closing : Buffered → Buffered
after_closing b = record b { closed = true }

-- the first of the waiting events that are due
abbrev pub first_due : Buffered → Option Event
first_due b = find (is_due b.closed b.mark) b.waiting

-- after dropping it
abbrev pub after_dropping : Buffered → Buffered
after_dropping b = record b { waiting = remove_key (is_due b.closed b.mark) b.waiting }
