-- The state of an entity, and what an event makes of it.
use Rattle.std.specs.Prelude.{ℕ, Bool, true, false, cond, ◌&&◌, ◌||◌, ◌==◌, nat_lt, nat_le}
use Rattle.entity_model.specs.declared.event.Kind.{Kind}
use Rattle.entity_model.specs.declared.event.Kind.TheVariants.{Edit, Delete, Undelete, ReconcileDeleted, ReconcileKept}
use Rattle.entity_model.specs.declared.event.Event.{Event}
use Rattle.entity_state.specs.declared.state.Mode.{Mode}
use Rattle.entity_state.specs.declared.state.Mode.TheVariants.{Unknown, Kept, Deleted}
use Rattle.entity_state.specs.declared.state.State.{State}

-- whether the page is there
abbrev pub is_kept : Mode → Bool
is_kept Unknown = false
is_kept Kept = true
is_kept Deleted = false

-- whether the page was deleted
abbrev pub is_deleted : Mode → Bool
is_deleted Unknown = false
is_deleted Kept = false
is_deleted Deleted = true

-- the state of an entity before its first event
abbrev pub unknown : State
unknown = record { mode = Unknown; rev = 0 }

-- the page is there, at a revision
abbrev pub kept : ℕ → State
kept r = record { mode = Kept; rev = r }

-- the page was deleted, at a revision
abbrev pub deleted : ℕ → State
deleted r = record { mode = Deleted; rev = r }

-- the state after an event of a kind and a revision: a row for each kind, and where no row fits the state stays
abbrev pub after_kind : Kind → State → ℕ → State
after_kind Edit s r = cond (nat_lt s.rev r) (kept r) s
after_kind Delete s r = cond (nat_le s.rev r) (deleted r) s
after_kind Undelete s r = cond (nat_lt s.rev r || (s.rev == r && is_deleted s.mode)) (kept r) s
after_kind ReconcileDeleted s r = deleted r
after_kind ReconcileKept s r = kept r

-- the state after an event
abbrev pub state_after : State → Event → State
state_after s e = after_kind e.kind s e.rev
