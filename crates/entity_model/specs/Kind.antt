-- The kinds of events.
use Rattle.std.specs.Prelude.{◌≡◌, ℕ, zero, suc, refl}
use Rattle.entity_model.specs.declared.event.Kind.{Kind}
use Rattle.entity_model.specs.declared.event.Kind.TheVariants.{Edit, Delete, Undelete, ReconcileDeleted, ReconcileKept}

-- the place of a kind in the order of events
abbrev pub kind_place : Kind → ℕ
kind_place Edit = 0
kind_place Delete = 1
kind_place Undelete = 2
kind_place ReconcileDeleted = 3
kind_place ReconcileKept = 4

-- the kind at a place
abbrev kind_at : ℕ → Kind
kind_at zero = Edit
kind_at (suc zero) = Delete
kind_at (suc (suc zero)) = Undelete
kind_at (suc (suc (suc zero))) = ReconcileDeleted
kind_at (suc (suc (suc (suc n)))) = ReconcileKept

-- the place tells the kind
kind_at_place : (k : Kind) → kind_at (kind_place k) ≡ k
kind_at_place Edit = refl
kind_at_place Delete = refl
kind_at_place Undelete = refl
kind_at_place ReconcileDeleted = refl
kind_at_place ReconcileKept = refl

-- kinds at one place are one kind
pub kind_place_same : (k l : Kind) → kind_place k ≡ kind_place l → k ≡ l
kind_place_same k l e = cc (kind_at_place k, kind_at_place l)
