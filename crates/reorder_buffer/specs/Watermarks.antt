-- The mark, which is the greatest watermark so far, which events are due by it, and the floor below which events are forgotten.
use Rattle.std.specs.Prelude.{Bool, false, not, cond, ◌||◌, ℕ, ℤ, pos, ◌-ℤ◌, int_lt, Option, None, Some}
use Rattle.entity_model.specs.declared.event.Event.{Event}

-- the mark after one more watermark
abbrev pub greater : Option ℤ → ℤ → Option ℤ
greater None w = Some w
greater (Some m) w = Some (cond (int_lt m w) w m)

-- whether the mark is at or above a time
abbrev pub reached : Option ℤ → ℤ → Bool
reached None t = false
reached (Some m) t = not (int_lt m t)

-- whether an event is due: the mark reached it, or no more deliveries come
abbrev pub is_due : Bool → Option ℤ → Event → Bool
is_due closed mark e = closed || reached mark e.time

-- the floor: the mark less the horizon, as a whole number without bounds; none without a horizon, and none without a mark
abbrev pub floor : Option ℕ → Option ℤ → Option ℤ
floor None mark = None
floor (Some horizon) None = None
floor (Some horizon) (Some m) = Some (m -ℤ pos horizon)

-- whether a time is below a floor
abbrev pub is_below : Option ℤ → ℤ → Bool
is_below None t = false
is_below (Some f) t = int_lt t f
