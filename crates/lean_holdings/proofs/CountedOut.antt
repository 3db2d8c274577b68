-- Entities that no page names are counted no longer, as far as there is memory.
use Rattle.std.proofs.Common.{◌≡◌, ◌⊎◌, inl, inr, ℕ, zero, suc, ◌<◌, Bool, true, false, ◌&&◌, ◌||◌, List, [], ◌∷◌, ◌++◌, Result, Ok, Err}
use Rattle.std.proofs.Common.{refl, sym, ◌∙◌, ap, ⊎_elim, arith}
use Rattle.std.specs.Prelude.{◌==◌, OnErr, OnOk}
use Rattle.std.specs.FinMap as map
use Rattle.sorted_sets.specs.Rising.{has}
use Rattle.sorted_sets.proofs.{Bools.and_right, Bools.clash, Bools.or_none, Filtering.has-filter, Rising.has-append}
use Rattle.rdf_term.specs.declared.triple.Triple.{Triple}
use Rattle.entity_model.specs.{declared.id.EntityId.EntityId, EntityId.entity_cmp, EntityId.entity_cmp_same}
use Rattle.shared_triples.specs.Lean.{strangers}
use Rattle.shared_triples.proofs.Holding.{id_tells}
use Rattle.entity_counts.specs.Naming.{Naming, is_counted, pages_naming, unnamed_in}
use Rattle.lean_holdings.specs.{Changing.counted_with, Holding.counted_by}
use Rattle.lean_holdings.proofs.GoingOut.{fewer, gone_from, same_named}

-- all is as it was, or an entity that no page names is counted no longer
abbrev pub Left : Naming → Naming → EntityId → Type 0
Left names names2 id = (names2 ≡ names) ⊎ ((pages_naming names id ≡ 0) × (names2 ≡ map.remove names id))

module _ (names names2 : Naming) (id : EntityId) where
  out_or_same : (is_counted names id ≡ true → pages_naming names id ≡ 0 → names2 ≡ map.remove names id) → (is_counted names id ≡ false → names2 ≡ names)
      → (0 < pages_naming names id → names2 ≡ names) → Left names names2 id
  out_or_same out uncounted named = by (is_counted names id) refl (pages_naming names id) refl
    where
      by : (b : Bool) → is_counted names id ≡ b → (n : ℕ) → pages_naming names id ≡ n → Left names names2 id
      by false is n e = inl (uncounted is)
      by true is zero e = inr (e, out is e)
      by true is (suc n) e = inl (named (omega arith))

  -- so it is where the call is refused memory, and where it isn't
  pub left : {A B : Type 0} (r : Result A B) → OnOk r (is_counted names id ≡ true → pages_naming names id ≡ 0 → names2 ≡ map.remove names id) → (is_counted names id ≡ false → names2 ≡ names)
      → (0 < pages_naming names id → names2 ≡ names) → OnErr r (names2 ≡ names) → Left names names2 id
  left (Ok v) out uncounted named err = out_or_same out uncounted named
  left (Err e) out uncounted named err = inl err

  -- where it isn't, the entity isn't counted then, unless a page names it
  pub out_here : {A B : Type 0} (r : Result A B) → OnOk r (is_counted names id ≡ true → pages_naming names id ≡ 0 → names2 ≡ map.remove names id) → (is_counted names id ≡ false → names2 ≡ names)
      → OnOk r (pages_naming names id ≡ 0 → has entity_cmp id (counted_by names2) ≡ false)
  out_here (Err e) out uncounted = tt
  out_here (Ok v) out uncounted = λ none. by (is_counted names id) refl none
    where
      by : (b : Bool) → is_counted names id ≡ b → pages_naming names id ≡ 0 → has entity_cmp id (counted_by names2) ≡ false
      by true is none = ap (λ (n : Naming). has entity_cmp id (counted_by n)) (out is none) ∙ gone_from names id
      by false is none = ap (λ (n : Naming). has entity_cmp id (counted_by n)) (uncounted is) ∙ sym (map.contains_key-keys names id) ∙ is

  module _ (so : Left names names2 id) where
    -- as many pages name each entity
    pub named_still : (x : EntityId) → pages_naming names2 x ≡ pages_naming names x
    named_still x = ⊎_elim
        (λ same. ap (λ (n : Naming). pages_naming n x) same)
        (λ out. ap (λ (n : Naming). pages_naming n x) out.1 ∙ same_named names id x out.0)
        so

    -- and only those are counted that were
    pub counted_still : (x : EntityId) → has entity_cmp x (counted_by names2) ≡ true → has entity_cmp x (counted_by names) ≡ true
    counted_still x there = ⊎_elim
        (λ same. ap (λ (n : Naming). has entity_cmp x (counted_by n)) (sym same) ∙ there)
        (λ out. and_right _ _ (sym (fewer names id x) ∙ ap (λ (n : Naming). has entity_cmp x (counted_by n)) (sym out.1) ∙ there))
        so

not_then : (a b : Bool) → (a ≡ true → b ≡ true) → b ≡ false → a ≡ false
not_then true b only e = clash (only refl) e
not_then false b only e = refl

-- one more of them isn't counted, unless a page names it
pub one_more_out : (start names names2 : Naming) (ids : List EntityId) (id : EntityId) → ((x : EntityId) → pages_naming names x ≡ pages_naming start x)
    → ((x : EntityId) → has entity_cmp x (counted_by names2) ≡ true → has entity_cmp x (counted_by names) ≡ true)
    → (pages_naming names id ≡ 0 → has entity_cmp id (counted_by names2) ≡ false)
    → ((x : EntityId) → has entity_cmp x ids ≡ true → pages_naming start x ≡ 0 → has entity_cmp x (counted_by names) ≡ false)
    → (x : EntityId) → has entity_cmp x (ids ++ id ∷ []) ≡ true → pages_naming start x ≡ 0 → has entity_cmp x (counted_by names2) ≡ false
one_more_out start names names2 ids id named only here so x there none = ⊎_elim
    (λ own. ap (λ z. has entity_cmp z (counted_by names2)) own.1 ∙ here (named id ∙ ap (pages_naming start) (sym own.1) ∙ none))
    (λ other. not_then (has entity_cmp x (counted_by names2)) _ (only x)
    (so x (sym (or_none (has entity_cmp x ids)) ∙ ap (λ b. has entity_cmp x ids || (b || false)) (sym other.0) ∙ sym (has-append entity_cmp x ids (id ∷ [])) ∙ there) none))
    (id_tells x id)

-- those are counted that were, or that a page names
pub among_with : (counted names : List EntityId) (x y : EntityId) (triples : List Triple) → ((z : EntityId) → has entity_cmp z names ≡ has entity_cmp z (strangers x triples))
    → (has entity_cmp y names || has entity_cmp y counted) ≡ true → has entity_cmp y (counted_with counted x triples) ≡ true
among_with counted names x y triples names_are there =
    has-append entity_cmp y (strangers x triples) counted ∙ ap (λ b. b || has entity_cmp y counted) (sym (names_are y)) ∙ there

-- where all that no page names are counted no longer, what is counted is named
pub named_alone : (start names : Naming) (ids : List EntityId) → ids ≡ unnamed_in start
    → ((x : EntityId) → has entity_cmp x (counted_by names) ≡ true → has entity_cmp x (counted_by start) ≡ true)
    → ((x : EntityId) → has entity_cmp x ids ≡ true → pages_naming start x ≡ 0 → has entity_cmp x (counted_by names) ≡ false)
    → (x : EntityId) → has entity_cmp x (counted_by names) ≡ true → 0 < pages_naming start x
named_alone start names ids listed fewer out x there = by (pages_naming start x) refl
  where
    by : (n : ℕ) → pages_naming start x ≡ n → 0 < n
    by zero none = clash there (out x
        (ap (has entity_cmp x) listed ∙ has-filter entity_cmp entity_cmp_same (λ y. pages_naming start y == 0) x (counted_by start)
        ∙ (λ i. (none i == 0) && fewer x there i)) none)
    by (suc n) some = omega arith
