-- What the union gains and loses where the page of one entity changes.
use Rattle.std.proofs.Common.{◌≡◌, ℕ, Bool, true, false, not, ◌&&◌, ◌||◌, List, ◌++◌, Option, Some, None, nat_lt, refl, sym, ◌∙◌, ap, ⊎_elim, inl, inr, ◌<◌, is_some, unwrap_or, lt-ltb}
use Rattle.std.specs.Prelude.{◌⊎◌}
use Rattle.std.specs.FinMap as map
use Rattle.std.specs.Ordering.{eq_by_cmp}
use Rattle.sorted_sets.specs.Rising.{has, difference, sorted}
use Rattle.sorted_sets.proofs.Bools.{and_none, clash}
use Rattle.sorted_sets.proofs.Filtering.{IsRising-filter, has-difference}
use Rattle.sorted_sets.proofs.Rising.{IsRising-sorted, has-append, has-sorted, same_rising}
use Rattle.rdf_term.specs.declared.triple.Triple.{Triple}
use Rattle.rdf_term.specs.Order.{triple_cmp, triple_cmp-total}
use Rattle.rdf_term.proofs.Texts.{triple_cmp-IsAntisymmetric}
use Rattle.entity_model.specs.declared.id.EntityId.{EntityId}
use Rattle.entity_model.specs.EntityId.{entity_cmp}
use Rattle.replay_model.specs.Records.{Records, record_of}
use Rattle.replay_model.specs.Union.{Meaning, union}
use Rattle.replay_model.proofs.Owners.{has-union, union-rises}
use Rattle.shared_triples.specs.Home.{home_of}
use Rattle.shared_triples.specs.Lean.{AreNew, IsLean, OthersHoldAlike, count_in, has_own, is_entity, is_own, own_of, stored_of, triples_of}
use Rattle.shared_triples.proofs.Holding.{id_tells}
use Rattle.shared_triples.proofs.Parting.{alone, has-own, present}

-- p, q: whether the triple has a count before and after; w, v: whether it stands alone before and after; s: whether it stands alone on the
-- page that changes; a, b: whether that page has it before and after
abbrev Stands : Bool → Bool → Bool → Bool → Bool → Bool → Bool → Type 0
Stands p q w v s a b =
    ((w ≡ false) × (v ≡ false) × (s ≡ false))
    ⊎ (((p ≡ false) × (q ≡ false) × (s ≡ true) × (w ≡ a) × (v ≡ b))
    ⊎ ((p ≡ false) × (q ≡ false) × (s ≡ false) × (v ≡ w)))

-- the union's gain is the gain of the page's own part and that of the counts
abbrev gain : Bool → Bool → Bool → Bool → Bool
gain p q w v = not (p || w) && (q || v)

abbrev own_gain : Bool → Bool → Bool → Bool
own_gain s a b = not (s && a) && (s && b)

counted_gain : (p q a b : Bool) → gain p q false false ≡ (own_gain false a b || (not p && q))
counted_gain true q a b = refl
counted_gain false true a b = refl
counted_gain false false a b = refl

own_only : (a b : Bool) → gain false false a b ≡ (own_gain true a b || false)
own_only true b = refl
own_only false true = refl
own_only false false = refl

no_gain : (w a b : Bool) → gain false false w w ≡ (own_gain false a b || false)
no_gain true a b = refl
no_gain false a b = refl

parts : (p q w v s a b : Bool) → Stands p q w v s a b → gain p q w v ≡ (own_gain s a b || (not p && q))
parts p q w v s a b (inl k) = (λ i. gain p q (k.0 i) (k.1 i)) ∙ counted_gain p q a b ∙ (λ i. own_gain (sym k.2 i) a b || (not p && q))
parts p q w v s a b (inr (inl k)) = (λ i. gain (k.0 i) (k.1 i) (k.3 i) (k.4 i)) ∙ own_only a b ∙ (λ i. own_gain (sym k.2 i) a b || (not (sym k.0 i) && sym k.1 i))
parts p q w v s a b (inr (inr k)) = (λ i. gain (k.0 i) (k.1 i) w (k.3 i)) ∙ no_gain w a b ∙ (λ i. own_gain (sym k.2 i) a b || (not (sym k.0 i) && sym k.1 i))

-- the two gains have nothing in common
apart : (p q w v s a b : Bool) → Stands p q w v s a b → own_gain s a b ≡ true → (not p && q) ≡ false
apart p q w v s a b (inl k) own = clash own (ap (λ x. own_gain x a b) k.2)
apart p q w v s a b (inr (inl k)) own = λ i. not (k.0 i) && k.1 i
apart p q w v s a b (inr (inr k)) own = λ i. not (k.0 i) && k.1 i

-- the keys are what has a count
keys_counted : (counts : map.FinMap triple_cmp ℕ) → ((t : Triple) → map.contains_key counts t ≡ true → 0 < count_in counts t) → (t : Triple) → has triple_cmp t (map.keys counts) ≡ nat_lt 0 (count_in counts t)
keys_counted counts owned t = sym (map.contains_key-keys counts t) ∙ by (map.get counts t) (owned t)
  where
    by : (found : Option ℕ) → (is_some found ≡ true → 0 < unwrap_or found 0) → is_some found ≡ nat_lt 0 (unwrap_or found 0)
    by None some = refl
    by (Some n) some = sym (lt-ltb 0 n (some refl))

pub new_keys : (old new : map.FinMap triple_cmp ℕ)
    → ((t : Triple) → map.contains_key old t ≡ true → 0 < count_in old t) → ((t : Triple) → map.contains_key new t ≡ true → 0 < count_in new t)
    → AreNew (count_in old) (count_in new) (difference triple_cmp (map.keys new) (map.keys old))
new_keys old new before after = record {
  each = λ t.
      has-difference triple_cmp-total t (map.keys new) (map.keys old)
      ∙ (λ i. not (keys_counted old before t i) && keys_counted new after t i);
}

-- what has a count then and had none is what the unions of what is stored tell
pub new_counts : (counted : List EntityId) (m n : Meaning Triple) (p q : Triple → ℕ) (before after : Records) → IsLean m counted p before → IsLean n counted q after
    → AreNew p q (difference triple_cmp (union triple_cmp (stored_of counted n) after) (union triple_cmp (stored_of counted m) before))
new_counts counted m n p q before after old new = record {
  each = λ t.
      let was : has triple_cmp t (union triple_cmp (stored_of counted m) before) ≡ nat_lt 0 (p t) = has-union triple_cmp-total (stored_of counted m) before t ∙ ap (nat_lt 0) (sym (old.counts t)) in
      let now : has triple_cmp t (union triple_cmp (stored_of counted n) after) ≡ nat_lt 0 (q t) = has-union triple_cmp-total (stored_of counted n) after t ∙ ap (nat_lt 0) (sym (new.counts t)) in
      has-difference triple_cmp-total t (union triple_cmp (stored_of counted n) after) (union triple_cmp (stored_of counted m) before) ∙ (λ i. not (was i) && now i);
}

module _ (x : EntityId) (counted : List EntityId) (m n : Meaning Triple) (p q : Triple → ℕ) (before after : Records)
    (old : IsLean m counted p before) (new : IsLean n counted q after) (alike : OthersHoldAlike x m before n after) where
  abbrev FactAt : Triple → Option EntityId → Type 0
  FactAt t found =
      Stands (nat_lt 0 (p t)) (nat_lt 0 (q t)) (has_own m counted before t found) (has_own n counted after t found)
      (is_entity x found && not (has entity_cmp x counted)) (has triple_cmp t (triples_of m before x)) (has triple_cmp t (triples_of n after x))

  in_home : (t : Triple) (h : EntityId) → home_of t ≡ Some h → (b : Bool) → has entity_cmp h counted ≡ b → FactAt t (Some h)
  in_home t h home true is = inl (
    ap (λ b. not b && has triple_cmp t (triples_of m before h)) is,
    ap (λ b. not b && has triple_cmp t (triples_of n after h)) is,
    ⊎_elim
        (λ own. ap (λ y. eq_by_cmp entity_cmp x h && not (has entity_cmp y counted)) own.1 ∙ ap (λ b. eq_by_cmp entity_cmp x h && not b) is ∙ and_none (eq_by_cmp entity_cmp x h))
        (λ other. ap (λ b. b && not (has entity_cmp x counted)) other.0)
        (id_tells x h),
  )
  in_home t h home false is =
      let none_before : nat_lt 0 (p t) ≡ false = ap (nat_lt 0) (alone m counted p before old t h home is) in
      let none_after : nat_lt 0 (q t) ≡ false = ap (nat_lt 0) (alone n counted q after new t h home is) in
      ⊎_elim
      (λ own. inr (inl (
        none_before,
        none_after,
        (λ i. own.0 i && not (has entity_cmp (own.1 i) counted)) ∙ ap not is,
        ap (λ b. not b && has triple_cmp t (triples_of m before h)) is ∙ ap (λ y. has triple_cmp t (triples_of m before y)) (sym own.1),
        ap (λ b. not b && has triple_cmp t (triples_of n after h)) is ∙ ap (λ y. has triple_cmp t (triples_of n after y)) (sym own.1),
      )))
      (λ other. inr (inr (
        none_before,
        none_after,
        ap (λ b. b && not (has entity_cmp x counted)) other.0,
        ap (λ ts. not (has entity_cmp h counted) && has triple_cmp t ts) (alike h (λ e. other.1 (sym e))),
      )))
      (id_tells x h)

  fact : (t : Triple) (found : Option EntityId) → home_of t ≡ found → FactAt t found
  fact t None home = inl (refl, refl, refl)
  fact t (Some h) home = in_home t h home (has entity_cmp h counted) refl

  own_part : (t : Triple) → has triple_cmp t (difference triple_cmp (triples_of (own_of counted n) after x) (triples_of (own_of counted m) before x))
      ≡ own_gain (is_own counted x t) (has triple_cmp t (triples_of m before x)) (has triple_cmp t (triples_of n after x))
  own_part t =
      has-difference triple_cmp-total t (triples_of (own_of counted n) after x) (triples_of (own_of counted m) before x)
      ∙ (λ i. not (has-own counted m x (record_of before x).held t i) && has-own counted n x (record_of after x).held t i)

  module _ (came : List Triple) (told : AreNew p q came) where
    -- what the union gains is what the page gains of its own and what gets its first owner
    pub gained : (t : Triple) → has triple_cmp t (difference triple_cmp (union triple_cmp n after) (union triple_cmp m before))
        ≡ (has triple_cmp t (difference triple_cmp (triples_of (own_of counted n) after x) (triples_of (own_of counted m) before x)) || has triple_cmp t came)
    gained t =
        has-difference triple_cmp-total t (union triple_cmp n after) (union triple_cmp m before)
        ∙ (λ i. not (present m counted p before old t i) && present n counted q after new t i)
        ∙ parts (nat_lt 0 (p t)) (nat_lt 0 (q t)) (has_own m counted before t (home_of t)) (has_own n counted after t (home_of t)) (is_own counted x t)
        (has triple_cmp t (triples_of m before x)) (has triple_cmp t (triples_of n after x)) (fact t (home_of t) refl)
        ∙ (λ i. sym (own_part t) i || sym (told.each t) i)

    -- nothing is in both parts
    pub gained_once : (t : Triple) → has triple_cmp t (difference triple_cmp (triples_of (own_of counted n) after x) (triples_of (own_of counted m) before x)) ≡ true → has triple_cmp t came ≡ false
    gained_once t own =
        told.each t
        ∙ apart (nat_lt 0 (p t)) (nat_lt 0 (q t)) (has_own m counted before t (home_of t)) (has_own n counted after t (home_of t)) (is_own counted x t)
        (has triple_cmp t (triples_of m before x)) (has triple_cmp t (triples_of n after x)) (fact t (home_of t) refl) (sym (own_part t) ∙ own)

    -- as a list, it is the two parts merged
    pub gained_in_order : difference triple_cmp (union triple_cmp n after) (union triple_cmp m before)
        ≡ sorted triple_cmp (difference triple_cmp (triples_of (own_of counted n) after x) (triples_of (own_of counted m) before x) ++ came)
    gained_in_order =
        let own : List Triple = difference triple_cmp (triples_of (own_of counted n) after x) (triples_of (own_of counted m) before x) in
        same_rising triple_cmp-total triple_cmp-IsAntisymmetric _ _
        (IsRising-filter triple_cmp (λ t. not (has triple_cmp t (union triple_cmp m before))) (union triple_cmp n after) (union-rises triple_cmp-total n after))
        (IsRising-sorted triple_cmp-total (own ++ came))
        (λ t. gained t ∙ sym (has-append triple_cmp t own came) ∙ sym (has-sorted triple_cmp-total t (own ++ came)))
