-- The fetches of a replay, delivery by delivery and event by event, and how a count rises by them.
use Rattle.std.proofs.Common.{◌≡◌, ℕ, ◌+◌, List, [], ◌∷◌, ◌++◌, None, Some, refl, ◌∙◌, ap, arith, Option}
use Rattle.entity_model.specs.declared.event.Event.{Event}
use Rattle.delivery.specs.declared.Delivery.{Delivery}
use Rattle.delivery.specs.declared.Delivery.TheVariants.{Event as Told, Watermark, Ask, Mapping, Match}
use Rattle.reorder_buffer.specs.Watermarks.{is_due}
use Rattle.reorder_buffer.specs.Buffered.{first_due}
use Rattle.sorted_sets.proofs.FirstPassing.{filter-first, filter-none}
use Rattle.replay_model.specs.Play.{Replies, fetches_of_all, play, fetches, fetches_to_end, risen_by}
use Rattle.replay_model.specs.ReplayState.{ReplayState, after_end, after_applying, after_next, following, fetches_for, fetches_next, fetches_due, fetches_delivered}
use Rattle.replay_model.proofs.Arrivals.{fetches-push}
use Rattle.replay_model.proofs.Following.{newly_due-watermark, newly_due-end}

-- the fetches of the least due event come first
pub fetches_due-some : (replies : Replies) (w : ReplayState) (e : Event) → first_due w.buffer ≡ Some e → fetches_due replies w ≡ fetches_for w (Some e) ++ fetches_due replies (after_applying replies w (Some e))
fetches_due-some replies w e some = ap (fetches_of_all replies w.played) (filter-first (is_due w.buffer.closed w.buffer.mark) w.buffer.waiting e some)

pub fetches_due-next : (replies : Replies) (w : ReplayState) → fetches_due replies w ≡ fetches_next w ++ fetches_due replies (after_next replies w)
fetches_due-next replies w =
    elim (first_due w.buffer) as (λ o. first_due w.buffer ≡ o → fetches_due replies w ≡ fetches_for w o ++ fetches_due replies (after_applying replies w o)) [
      | None ↦ λ _. refl
      | Some e ↦ λ some. fetches_due-some replies w e some
    ] refl

pub fetches_due-none : (replies : Replies) (w : ReplayState) → first_due w.buffer ≡ None → fetches_due replies w ≡ []
fetches_due-none replies w none = ap (fetches_of_all replies w.played) (filter-none (is_due w.buffer.closed w.buffer.mark) w.buffer.waiting none)

-- after one more delivery
pub fetches-delivered : (hz : Option ℕ) (replies : Replies) (ds : List Delivery) (d : Delivery) → fetches hz replies (ds ++ d ∷ []) ≡ fetches hz replies ds ++ fetches_delivered replies (following hz replies ds) d
fetches-delivered hz replies ds (Told e) = fetches-push hz replies ds (Told e)
fetches-delivered hz replies ds (Ask q) = fetches-push hz replies ds (Ask q)
fetches-delivered hz replies ds (Mapping v) = fetches-push hz replies ds (Mapping v)
fetches-delivered hz replies ds (Match q) = fetches-push hz replies ds (Match q)
fetches-delivered hz replies ds (Watermark w) = fetches-push hz replies ds (Watermark w) ∙ ap (λ es. fetches hz replies ds ++ fetches_of_all replies (play hz replies ds) es) (newly_due-watermark hz ds w)

-- after the end
pub fetches-end : (hz : Option ℕ) (replies : Replies) (ds : List Delivery) → fetches_to_end hz replies ds ≡ fetches hz replies ds ++ fetches_due replies (after_end (following hz replies ds))
fetches-end hz replies ds = ap (λ es. fetches hz replies ds ++ fetches_of_all replies (play hz replies ds) es) (newly_due-end hz ds)

-- a count that rises twice
pub risen_by-risen_by : (m n count : ℕ) → risen_by m (risen_by n count) ≡ risen_by (n + m) count
risen_by-risen_by m n count = omega arith

-- a count that doesn't rise
pub risen_by-none : (count : ℕ) → risen_by 0 count ≡ count
risen_by-none count = omega arith
