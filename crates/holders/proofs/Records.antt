-- The records of entities after one is put in.
use Rattle.std.proofs.Common.{◌≡◌, ◌≢◌, ◌⊎◌, inl, inr, Bool, true, false, cond, Some, unwrap_or, refl, sym, ◌∙◌, ap, true≢false, ⊎_elim}
use Rattle.std.specs.FinMap as map
use Rattle.std.specs.{Ordering.eq_by_cmp, Cmp.eq_by_cmp_equiv}
use Rattle.sorted_sets.proofs.Bools.{equal}
use Rattle.entity_model.specs.{declared.id.EntityId.EntityId, EntityId.entity_cmp, EntityId.entity_cmp_total, EntityId.entity_cmp_same}
use Rattle.entity_state.specs.{declared.record.Record.Record, Record.blank}

-- two ids are one, or they aren't, as the test says
pub id_tells : (y x : EntityId) → ((eq_by_cmp entity_cmp y x ≡ true) × (y ≡ x)) ⊎ ((eq_by_cmp entity_cmp y x ≡ false) × (y ≢ x))
id_tells y x = by (eq_by_cmp entity_cmp y x) refl
  where
    by : (b : Bool) → eq_by_cmp entity_cmp y x ≡ b → ((eq_by_cmp entity_cmp y x ≡ true) × (y ≡ x)) ⊎ ((eq_by_cmp entity_cmp y x ≡ false) × (y ≢ x))
    by true e = inl (e, entity_cmp_same y x (equal _ e))
    by false e = inr (e, λ same. true≢false (sym ((eq_by_cmp_equiv entity_cmp_total).refl x) ∙ ap (λ z. eq_by_cmp entity_cmp z x) (sym same) ∙ e))

module _ {H : Type 0} (records : map.FinMap entity_cmp (Record H)) (x : EntityId) (n : Record H) where
  -- the record of the entity after a record is put in
  pub record_here : unwrap_or (map.get (map.insert records x n) x) blank ≡ n
  record_here =
      ap (λ o. unwrap_or o blank) (map.get-insert entity_cmp_total records x n x)
      ∙ ap (λ b. unwrap_or (cond b (Some n) (map.get records x)) blank) ((eq_by_cmp_equiv entity_cmp_total).refl x)

  -- and of another
  pub record_elsewhere : (y : EntityId) → y ≢ x → unwrap_or (map.get (map.insert records x n) y) blank ≡ unwrap_or (map.get records y) blank
  record_elsewhere y other = ⊎_elim
      (λ own. absurd (other own.1))
      (λ apart.
      ap (λ o. unwrap_or o blank) (map.get-insert entity_cmp_total records x n y)
      ∙ ap (λ b. unwrap_or (cond b (Some n) (map.get records y)) blank) apart.0)
      (id_tells y x)
