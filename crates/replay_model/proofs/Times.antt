-- Marks and times: a mark only rises, and an event that a mark reaches is before one that it doesn't reach.
use Rattle.std.proofs.Common.{◌≡◌, ℤ, true, false, not, cond, Option, None, Some, Less, Equal, Greater, refl, sym, ap, true≢false, int_lt, arith}
use Rattle.std.specs.Ordering.{int_cmp, nat_cmp, ordering_then}
use Rattle.std.proofs.lemmas.Bool.{not-false, not-true}
use Rattle.std.proofs.lemmas.Int.{ints}
use Rattle.entity_model.specs.declared.event.Event.{Event}
use Rattle.entity_model.specs.EntityId.{entity_cmp}
use Rattle.entity_model.specs.Kind.{kind_place}
use Rattle.entity_model.specs.Event.{event_cmp}
use Rattle.reorder_buffer.specs.Watermarks.{greater, reached, is_due}

lt_from : (m s t : ℤ) → int_lt m s ≡ false → int_lt m t ≡ true → int_lt s t ≡ true
lt_from m s t a b = grind (arith, ints)

not_lt : (m w t : ℤ) → int_lt m w ≡ true → int_lt m t ≡ false → int_lt w t ≡ false
not_lt m w t a b = grind (arith, ints)

-- an event that the mark reached is before one that it didn't reach
pub before_from_mark : (m : Option ℤ) (x y : Event) → reached m x.time ≡ true → reached m y.time ≡ false → event_cmp x y ≡ Less
before_from_mark None x y a b = absurd (true≢false (sym a))
before_from_mark (Some m) x y a b =
    let less : int_cmp x.time y.time ≡ Less = ap (λ t. cond t Less (cond (int_lt y.time x.time) Greater Equal)) (lt_from m x.time y.time (not-true _ a) (not-false _ b)) in
    ap (λ r. ordering_then (ordering_then (ordering_then r (nat_cmp x.rev y.rev)) (nat_cmp (kind_place x.kind) (kind_place y.kind))) (entity_cmp x.entity y.entity)) less

-- a later mark reaches what an earlier one reached
pub reached-greater : (m : Option ℤ) (w t : ℤ) → reached m t ≡ true → reached (greater m w) t ≡ true
reached-greater None w t e = absurd (true≢false (sym e))
reached-greater (Some m) w t e =
    elim (int_lt m w) as (λ b. int_lt m w ≡ b → reached (Some (cond b w m)) t ≡ true) [
      | true ↦ λ lt. ap not (not_lt m w t lt (not-true _ e))
      | false ↦ λ lt. e
    ] refl

pub due-greater : (m : Option ℤ) (w : ℤ) (e : Event) → is_due false m e ≡ true → is_due false (greater m w) e ≡ true
due-greater m w e d = reached-greater m w e.time d
