-- The record of an entity.
use Rattle.std.specs.Prelude.{ℕ, Bool, false, Option, None, Some, ◌&&◌, ◌==◌, not}
use Rattle.entity_model.specs.declared.event.Event.{Event}
use Rattle.entity_state.specs.declared.state.State.{State}
use Rattle.entity_state.specs.declared.record.Held.{Held}
use Rattle.entity_state.specs.declared.record.Record.{Record}
use Rattle.entity_state.specs.State.{unknown, is_kept}

-- the record of an entity before its first event
abbrev pub blank : {H : Type 0} → Record H
blank = record { state = unknown; held = None; reconciled = None }

-- the record with another state and another last reconciliation; what it holds stays
abbrev pub with_state : {H : Type 0} → Record H → State → Option Event → Record H
with_state r s reconciled = record r { state = s; reconciled = reconciled }

-- the number of the revision that is held
abbrev pub held_revision : {H : Type 0} → Option (Held H) → Option ℕ
held_revision None = None
held_revision (Some h) = Some h.revision

-- whether this revision is held
abbrev pub is_held : ℕ → Option ℕ → Bool
is_held r None = false
is_held r (Some h) = h == r

-- whether the state is of a page that is there at revision r, and r isn't held
abbrev pub lacks : ℕ → State → Option ℕ → Bool
lacks r s held = is_kept s.mode && s.rev == r && not (is_held r held)

-- whether the state wants a revision that isn't held
abbrev pub wants : State → Option ℕ → Bool
wants s held = is_kept s.mode && not (is_held s.rev held)
