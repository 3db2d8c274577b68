-- What is gathered over the ids of the records is what is gathered over their entries.
use Rattle.std.proofs.Common.{refl, ◌∙◌, ap, ◌≡◌, true, false, T, List, [], ◌∷◌, ◌++◌, Option, Some, map, Ordering, Less, Equal, Greater}
use Rattle.std.specs.{List.flat_map, Ordering.eq_by_cmp, Ordering.is_eq, Ordering.is_lt, Ordering.ordering_reverse}
use Rattle.std.specs.{Cmp.IsTotalOrder, Cmp.eq_by_cmp_equiv, FinMap.Entries.find, FinMap.Entries.is_sorted, FinMap.Entries.below_all}
use Rattle.std.specs.FinMap as fin
use Rattle.slot_index.proofs.Mapped.{and_first, and_second}
use Rattle.entity_model.specs.{declared.id.EntityId.EntityId, EntityId.entity_cmp, EntityId.entity_cmp_total}
use Rattle.entity_state.specs.declared.record.Record.{Record}
use Rattle.replay_model.specs.Records.{Bytes, Records}

module _ {K X B : Type 0} {R : K → K → Ordering} (o : IsTotalOrder R) (g : K → Option X → List B) where
  -- a key above another isn't equal to it
  apart : (k q : K) → T (is_lt (R k q)) → eq_by_cmp R q k ≡ false
  apart k q h = elim (R k q) as (λ r. R k q ≡ r → T (is_lt r) → eq_by_cmp R q k ≡ false) [
    | Less ↦ λ e _. ap is_eq (o.antisymm q k ∙ ap ordering_reverse e)
    | Equal ↦ λ e less. absurd less
    | Greater ↦ λ e less. absurd less
  ] refl h

  past : (k : K) (v : X) (es others : List (K × X)) → T (below_all R k others) →
      flat_map (λ e. g e.0 (find R e.0 ((k, v) ∷ es))) others ≡ flat_map (λ e. g e.0 (find R e.0 es)) others
  past k v es [] below = refl
  past k v es (e ∷ others) below =
      let other : eq_by_cmp R e.0 k ≡ false = apart k e.0 (and_first (is_lt (R k e.0)) (below_all R k others) below) in
      rw (other, past k v es others (and_second (is_lt (R k e.0)) (below_all R k others) below)) refl

  found : (es : List (K × X)) → T (is_sorted R es) → flat_map (λ e. g e.0 (find R e.0 es)) es ≡ flat_map (λ e. g e.0 (Some e.1)) es
  found [] sorted = refl
  found (e ∷ es) sorted =
      let here : eq_by_cmp R e.0 e.0 ≡ true = (eq_by_cmp_equiv o).refl e.0 in
      let below = and_first (below_all R e.0 es) (is_sorted R es) sorted in
      let rest = and_second (below_all R e.0 es) (is_sorted R es) sorted in
      rw (here, past e.0 e.1 es es below, found es rest) refl

  over_keys : (h : K → List B) (es : List (K × X)) → flat_map h (map (λ (e : K × X). e.0) es) ≡ flat_map (λ e. h e.0) es
  over_keys h [] = refl
  over_keys h (e ∷ es) = ap (λ xs. h e.0 ++ xs) (over_keys h es)

-- what is gathered over the ids of the records, from the record of each, is gathered over their entries
pub over_ids : {B : Type 0} (g : EntityId → Option (Record Bytes) → List B) (records : Records) →
    flat_map (λ x. g x (fin.get records x)) (fin.keys records) ≡ flat_map (λ e. g e.0 (Some e.1)) (fin.entries records)
over_ids {B} g records =
    let h : EntityId → List B = λ x. g x (find entity_cmp x (fin.entries records)) in
    let asked : flat_map (λ x. g x (fin.get records x)) (fin.keys records) ≡ flat_map h (fin.keys records) =
    λ i. flat_map (λ x. g x (fin.get-entries records x i)) (fin.keys records) in
    asked ∙ over_keys entity_cmp_total g h (fin.entries records) ∙ found entity_cmp_total g (fin.entries records) (fin.entries_sorted records)
