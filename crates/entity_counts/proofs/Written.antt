-- What the map has after the number of one entity was written.
use Rattle.std.proofs.Common.{◌≡◌, ℕ, ◌+◌, ◌-◌, Bool, true, false, cond, List, Option, Some, None, is_some, unwrap_or, refl, sym, ◌∙◌, ap, arith}
use Rattle.std.specs.FinMap as map
use Rattle.std.specs.Map.{lookup}
use Rattle.std.specs.Ordering.{eq_by_cmp}
use Rattle.sorted_sets.specs.Counting.{one_if}
use Rattle.sorted_sets.proofs.Bools.{equal}
use Rattle.slot_index.proofs.Mapped.{changed, got}
use Rattle.entity_model.specs.{declared.id.EntityId.EntityId, EntityId.entity_cmp, EntityId.entity_cmp_total, EntityId.entity_cmp_same}
use Rattle.entity_counts.specs.Naming.{Naming, counted_in, is_counted, naming_of, pages_naming}

abbrev same_id : EntityId → EntityId → Bool
same_id = eq_by_cmp entity_cmp

-- what a look-up finds
pub found : (x : EntityId) (es : List (EntityId × ℕ)) (v : Option ℕ) → v ≡ lookup (same_id x) es → map.get (naming_of es) x ≡ v
found x es v is = got entity_cmp_total x es ∙ sym is

-- another number of an entity that has one
module _ (id : EntityId) (n m : ℕ) (es fs : List (EntityId × ℕ)) (was : Some n ≡ lookup (same_id id) es)
    (finds : (q : EntityId) → lookup (same_id q) fs ≡ cond (same_id id q) (Some m) (lookup (same_id q) es)) where
  before : (q : EntityId) → same_id q id ≡ true → map.get (naming_of es) q ≡ Some n
  before q is = sym (map.get_tied entity_cmp_total (naming_of es) q id (equal _ is)) ∙ found id es (Some n) was

  after : (q : EntityId) (b : Bool) → same_id q id ≡ b → map.get (naming_of fs) q ≡ cond b (Some m) (map.get (naming_of es) q)
  after q b is = changed entity_cmp_total id (Some m) es fs finds q ∙ ap (λ c. cond c (Some m) (map.get (naming_of es) q)) is

  pub written_more : m ≡ n + 1 → (q : EntityId) → pages_naming (naming_of fs) q ≡ pages_naming (naming_of es) q + one_if (same_id q id)
  written_more one q = by (same_id q id) refl
    where
      by : (b : Bool) → same_id q id ≡ b → pages_naming (naming_of fs) q ≡ pages_naming (naming_of es) q + one_if b
      by true is = ap (λ v. unwrap_or v 0) (after q true is) ∙ one ∙ ap (λ v. unwrap_or v 0 + 1) (sym (before q is))
      by false is = ap (λ v. unwrap_or v 0) (after q false is) ∙ omega arith

  pub written_less : m ≡ n - 1 → (q : EntityId) → pages_naming (naming_of fs) q ≡ pages_naming (naming_of es) q - one_if (same_id q id)
  written_less one q = by (same_id q id) refl
    where
      by : (b : Bool) → same_id q id ≡ b → pages_naming (naming_of fs) q ≡ pages_naming (naming_of es) q - one_if b
      by true is = ap (λ v. unwrap_or v 0) (after q true is) ∙ one ∙ ap (λ v. unwrap_or v 0 - 1) (sym (before q is))
      by false is = ap (λ v. unwrap_or v 0) (after q false is) ∙ omega arith

  pub written_same : (q : EntityId) → is_counted (naming_of fs) q ≡ is_counted (naming_of es) q
  written_same q = by (same_id q id) refl
    where
      by : (b : Bool) → same_id q id ≡ b → is_counted (naming_of fs) q ≡ is_counted (naming_of es) q
      by true is = ap is_some (after q true is) ∙ ap is_some (sym (before q is))
      by false is = ap is_some (after q false is)

-- an entity that isn't counted has no page to lose
pub none_less : (id : EntityId) (es : List (EntityId × ℕ)) → None ≡ lookup (same_id id) es → (q : EntityId) → pages_naming (naming_of es) q ≡ pages_naming (naming_of es) q - one_if (same_id q id)
none_less id es none q = by (same_id q id) refl
  where
    by : (b : Bool) → same_id q id ≡ b → pages_naming (naming_of es) q ≡ pages_naming (naming_of es) q - one_if b
    by true is =
        let gone : pages_naming (naming_of es) q ≡ 0 = ap (λ v. unwrap_or v 0) (sym (map.get_tied entity_cmp_total (naming_of es) q id (equal _ is)) ∙ found id es None none) in
        omega arith
    by false is = omega arith

-- a new entity
pub written_in : (id : EntityId) (es fs : List (EntityId × ℕ)) → is_counted (naming_of es) id ≡ false → ((q : EntityId) → lookup (same_id q) fs ≡ cond (same_id id q) (Some 0) (lookup (same_id q) es)) → naming_of fs ≡ counted_in (naming_of es) id
written_in id es fs new finds =
    map.same_map entity_cmp_total entity_cmp_same (naming_of fs) (map.insert (naming_of es) id 0)
    (λ q. changed entity_cmp_total id (Some 0) es fs finds q ∙ sym (map.get-insert entity_cmp_total (naming_of es) id 0 q))
    ∙ sym (ap (λ b. cond b (naming_of es) (map.insert (naming_of es) id 0)) new)

-- an entity taken out
pub taken_out : (id : EntityId) (es fs : List (EntityId × ℕ)) → ((q : EntityId) → lookup (same_id q) fs ≡ cond (same_id id q) None (lookup (same_id q) es)) → naming_of fs ≡ map.remove (naming_of es) id
taken_out id es fs finds =
    map.same_map entity_cmp_total entity_cmp_same (naming_of fs) (map.remove (naming_of es) id)
    (λ q. changed entity_cmp_total id None es fs finds q ∙ sym (map.get-remove entity_cmp_total (naming_of es) id q))

-- an entity that is counted stays
pub counted_already : (names : Naming) (id : EntityId) → is_counted names id ≡ true → names ≡ counted_in names id
counted_already names id is = sym (ap (λ b. cond b names (map.insert names id 0)) is)
