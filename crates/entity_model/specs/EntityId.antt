-- The ids of entities: their text and their order.
use Rattle.std.specs.Prelude.{◌≡◌, ℕ, ◌<◌, ◌^◌, List, ◌∷◌}
use Rattle.std.specs.declared.cmp.Ordering.{Ordering}
use Rattle.std.specs.Ordering.{nat_cmp, on, then_cmp}
use Rattle.std.specs.Cmp.{IsTotalOrder, then_total, on_total, nat_cmp_total}
use Rattle.std.specs.FinMap.{IsAntisymmetric, nat_cmp-IsAntisymmetric}
use Rattle.std.specs.Fmt.{decimal}
use Rattle.entity_model.specs.declared.id.EntityId.{EntityId}
use Rattle.entity_model.specs.IdKind.{id_kind_place, id_kind_place_same, letter_of}
use Rattle.entity_model.specs.Ties.{both_tie}

-- the text of an id: its letter and its number in decimal
abbrev pub id_text : EntityId → List ℕ
id_text id = letter_of id.kind ∷ decimal id.number

-- ids have numbers from 1, in 32 bits
abbrev pub IsId : EntityId → Type 0
IsId id = (0 < id.number) × (id.number < 2 ^ 32)

-- the order of ids: properties, then items, then lexemes, and then by number
abbrev pub entity_cmp : EntityId → EntityId → Ordering
entity_cmp = then_cmp (on (λ (e : EntityId). id_kind_place e.kind) nat_cmp) (on (λ (e : EntityId). e.number) nat_cmp)

-- it is a total order
pub entity_cmp_total : IsTotalOrder entity_cmp
entity_cmp_total = then_total (on_total (λ (e : EntityId). id_kind_place e.kind) nat_cmp_total) (on_total (λ (e : EntityId). e.number) nat_cmp_total)

-- ids that it does not tell apart are one id
pub entity_cmp_same : IsAntisymmetric entity_cmp
entity_cmp_same x y tie =
    let ties = both_tie _ _ tie in
    let kind : x.kind ≡ y.kind = id_kind_place_same x.kind y.kind (nat_cmp-IsAntisymmetric _ _ ties.0) in
    let number : x.number ≡ y.number = nat_cmp-IsAntisymmetric _ _ ties.1 in
    λ i. record { kind = kind i; number = number i }
