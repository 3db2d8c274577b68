-- Events and the order in which they are applied.
use Rattle.std.specs.Prelude.{◌≡◌}
use Rattle.std.specs.declared.cmp.Ordering.{Ordering}
use Rattle.std.specs.Ordering.{nat_cmp, int_cmp, on, then_cmp}
use Rattle.std.specs.Cmp.{IsTotalOrder, then_total, on_total, nat_cmp_total, int_cmp_total}
use Rattle.std.specs.FinMap.{IsAntisymmetric, nat_cmp-IsAntisymmetric, int_cmp-IsAntisymmetric}
use Rattle.entity_model.specs.declared.event.Event.{Event}
use Rattle.entity_model.specs.Kind.{kind_place, kind_place_same}
use Rattle.entity_model.specs.EntityId.{entity_cmp, entity_cmp_total, entity_cmp_same}
use Rattle.entity_model.specs.Ties.{both_tie}

-- the order of events: by time, then by revision, then by kind, then by entity
abbrev pub event_cmp : Event → Event → Ordering
event_cmp =
    then_cmp (then_cmp (then_cmp (on (λ (e : Event). e.time) int_cmp) (on (λ (e : Event). e.rev) nat_cmp))
    (on (λ (e : Event). kind_place e.kind) nat_cmp)) (on (λ (e : Event). e.entity) entity_cmp)

-- it is a total order
pub event_cmp_total : IsTotalOrder event_cmp
event_cmp_total =
    then_total (then_total (then_total (on_total (λ (e : Event). e.time) int_cmp_total) (on_total (λ (e : Event). e.rev) nat_cmp_total))
    (on_total (λ (e : Event). kind_place e.kind) nat_cmp_total)) (on_total (λ (e : Event). e.entity) entity_cmp_total)

-- events that it does not tell apart are one event
pub event_cmp_same : IsAntisymmetric event_cmp
event_cmp_same x y tie =
    let by_entity = both_tie _ _ tie in
    let by_kind = both_tie _ _ by_entity.0 in
    let by_rev = both_tie _ _ by_kind.0 in
    let time : x.time ≡ y.time = int_cmp-IsAntisymmetric _ _ by_rev.0 in
    let rev : x.rev ≡ y.rev = nat_cmp-IsAntisymmetric _ _ by_rev.1 in
    let kind : x.kind ≡ y.kind = kind_place_same x.kind y.kind (nat_cmp-IsAntisymmetric _ _ by_kind.1) in
    let entity : x.entity ≡ y.entity = entity_cmp_same x.entity y.entity by_entity.1 in
    λ i. record { entity = entity i; time = time i; rev = rev i; kind = kind i }
