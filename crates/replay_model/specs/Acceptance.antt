-- Which events of a list of deliveries are accepted, late, due and known, where all are remembered that aren't further behind the
-- mark than a horizon; without a horizon, all are. And which version of the mapping is in force after the deliveries.
use Rattle.std.specs.Prelude.{ℕ, ℤ, Bool, not, ◌&&◌, cond, List, [], ◌∷◌, ◌++◌, Option, None, Some, fold, filter, filter_map, option_and_then, unwrap_or}
use Rattle.std.specs.List.{last_or}
use Rattle.sorted_sets.specs.Rising.{has}
use Rattle.entity_model.specs.declared.event.Event.{Event}
use Rattle.entity_model.specs.Event.{event_cmp}
use Rattle.delivery.specs.declared.Delivery.{Delivery}
use Rattle.delivery.specs.declared.Delivery.TheVariants.{Event as Told, Watermark, Mapping}
use Rattle.entity_model.specs.declared.mapping.MappingVersion.{MappingVersion}
use Rattle.entity_model.specs.declared.mapping.MappingVersion.TheVariants.{One}
use Rattle.reorder_buffer.specs.Watermarks.{greater, reached, is_due, floor, is_below}

-- a delivery and the deliveries before it
pub record Arrival : Type 0 where
  pub before : List Delivery
  pub delivery : Delivery

-- each delivery with those before it, where some came before all of them
abbrev pub arrivals_after : List Delivery → List Delivery → List Arrival
arrivals_after before [] = []
arrivals_after before (d ∷ ds) = record { before = before; delivery = d } ∷ arrivals_after (before ++ d ∷ []) ds

-- each delivery with those before it
abbrev pub arrivals : List Delivery → List Arrival
arrivals ds = arrivals_after [] ds

-- the event that a delivery tells of
abbrev pub event_of : Delivery → Option Event
event_of (Told e) = Some e
event_of _ = None

-- the watermark that a delivery is
abbrev pub watermark_of : Delivery → Option ℤ
watermark_of (Watermark w) = Some w
watermark_of _ = None

-- the version of the mapping that a delivery brings
abbrev pub mapping_of : Delivery → Option MappingVersion
mapping_of (Mapping v) = Some v
mapping_of _ = None

-- the events that were delivered, with their repeats
abbrev pub events : List Delivery → List Event
events ds = filter_map event_of ds

-- the mark: the greatest watermark so far
abbrev pub mark : List Delivery → Option ℤ
mark ds = fold greater None (filter_map watermark_of ds)

-- the version of the mapping in force: the last that a delivery brought, and the first version where none did
abbrev pub version_in_force : List Delivery → MappingVersion
version_in_force ds = unwrap_or (last_or None (filter_map mapping_of ds)) One

-- whether the event was delivered before, and isn't below the floor
abbrev pub is_repeat : Option ℕ → List Delivery → Event → Bool
is_repeat h before e = not (is_below (floor h (mark before)) e.time) && has event_cmp e (events before)

-- whether the event is no repeat, and at or below the mark
abbrev pub is_late : Option ℕ → List Delivery → Event → Bool
is_late h before e = not (is_repeat h before e) && reached (mark before) e.time

-- whether the event is no repeat, and above the mark
abbrev pub is_accepted : Option ℕ → List Delivery → Event → Bool
is_accepted h before e = not (is_repeat h before e) && not (reached (mark before) e.time)

-- the event of a delivery, if it passes a test on what came before and itself
abbrev pub event_passing : (List Delivery → Event → Bool) → Arrival → Option Event
event_passing test a = option_and_then (λ e. cond (test a.before e) (Some e) None) (event_of a.delivery)

-- the events that pass the test where they come
abbrev pub events_passing : (List Delivery → Event → Bool) → List Delivery → List Event
events_passing test ds = filter_map (event_passing test) (arrivals ds)

-- the accepted events, in the order of their first deliveries
abbrev pub accepted : Option ℕ → List Delivery → List Event
accepted h ds = events_passing (is_accepted h) ds

-- the events of the late deliveries, in the order of these
abbrev pub late : Option ℕ → List Delivery → List Event
late h ds = events_passing (is_late h) ds

-- the accepted events at or below the mark, and all of them where the end of the input closes the deliveries
abbrev pub due : Option ℕ → Bool → List Delivery → List Event
due h closed ds = filter (is_due closed (mark ds)) (accepted h ds)

-- the delivered events at or below the mark, late ones included, and all of them where the end closes the deliveries
abbrev pub known : Bool → List Delivery → List Event
known closed ds = filter (is_due closed (mark ds)) (events ds)
