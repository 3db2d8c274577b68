-- Each triple of a page is stored or stands in the page alone, and one that stands alone is on no other page.
use Rattle.std.proofs.Common.{◌≡◌, ◌≢◌, ℕ, Bool, true, false, not, cond, ◌&&◌, ◌||◌, List, [], ◌∷◌, Option, Some, None, nat_lt, filter, refl, sym, ◌∙◌, ap, lt-ltb, ⊎_elim, arith}
use Rattle.std.specs.Cmp.{eq_by_cmp_equiv}
use Rattle.std.specs.Ordering.{eq_by_cmp}
use Rattle.std.proofs.lemmas.Bool.Decides.{nat_tests}
use Rattle.sorted_sets.specs.Rising.{has}
use Rattle.sorted_sets.proofs.Bools.{and_left, and_right, clash, equal, or_true}
use Rattle.sorted_sets.proofs.Filtering.{has-filter}
use Rattle.sorted_sets.proofs.Rising.{has-append}
use Rattle.rdf_term.specs.declared.triple.Triple.{Triple}
use Rattle.rdf_term.specs.Order.{triple_cmp, triple_cmp-total}
use Rattle.rdf_term.proofs.Texts.{triple_cmp-IsAntisymmetric}
use Rattle.entity_model.specs.declared.id.EntityId.{EntityId}
use Rattle.entity_model.specs.EntityId.{entity_cmp, entity_cmp_total, entity_cmp_same}
use Rattle.entity_state.specs.declared.record.Held.{Held}
use Rattle.replay_model.specs.Records.{Bytes, Records, record_of}
use Rattle.replay_model.specs.Union.{Meaning, triples_held, union}
use Rattle.replay_model.proofs.Owners.{has-union}
use Rattle.shared_triples.specs.Home.{home_of}
use Rattle.shared_triples.specs.Lean.{IsLean, has_own, is_entity, is_own, is_present, own_of, stored_of, stranger, strangers, triples_of}
use Rattle.shared_triples.proofs.Holding.{has_owner, holder, id_tells, in_union}

-- ---- tests

same_bool : (a b : Bool) → (a ≡ true → b ≡ true) → (b ≡ true → a ≡ true) → a ≡ b
same_bool true b there back = sym (there refl)
same_bool false true there back = back refl
same_bool false false there back = refl

not_true : (b : Bool) → not b ≡ true → b ≡ false
not_true true h = sym h
not_true false h = refl

no_count : (n : ℕ) → nat_lt 0 n ≡ false → n ≡ 0
no_count n h = grind (arith, nat_tests)

pub left_true : (a b : Bool) → a ≡ true → (a || b) ≡ true
left_true a b h = ap (λ x. x || b) h

pub both_true : (a b : Bool) → a ≡ true → b ≡ true → (a && b) ≡ true
both_true a b h k = ap (λ x. x && b) h ∙ k

-- ---- what a triple belongs to

entity_is : (x : EntityId) (found : Option EntityId) → is_entity x found ≡ true → found ≡ Some x
entity_is x None is = clash is refl
entity_is x (Some y) is = ap Some (sym (entity_cmp_same x y (equal _ is)))

-- what stands alone belongs to the entity, which isn't counted
pub own_is : (counted : List EntityId) (x : EntityId) (t : Triple) → is_own counted x t ≡ true → (home_of t ≡ Some x) × (has entity_cmp x counted ≡ false)
own_is counted x t is = (
  entity_is x (home_of t) (and_left (is_entity x (home_of t)) (not (has entity_cmp x counted)) is),
  not_true (has entity_cmp x counted) (and_right (is_entity x (home_of t)) (not (has entity_cmp x counted)) is),
)

pub is_own_there : (counted : List EntityId) (x : EntityId) (t : Triple) → home_of t ≡ Some x → has entity_cmp x counted ≡ false → is_own counted x t ≡ true
is_own_there counted x t home free =
    ap (λ found. is_entity x found && not (has entity_cmp x counted)) home
    ∙ ap (λ b. b && not (has entity_cmp x counted)) ((eq_by_cmp_equiv entity_cmp_total).refl x)
    ∙ ap not free

-- ---- the parts of a page

module _ (counted : List EntityId) (m : Meaning Triple) where
  stored_held : (x : EntityId) (h : Option (Held Bytes)) → triples_held (stored_of counted m) x h ≡ filter (λ t. not (is_own counted x t)) (triples_held m x h)
  stored_held x None = refl
  stored_held x (Some h) = refl

  own_held : (x : EntityId) (h : Option (Held Bytes)) → triples_held (own_of counted m) x h ≡ filter (is_own counted x) (triples_held m x h)
  own_held x None = refl
  own_held x (Some h) = refl

  pub has-stored : (x : EntityId) (h : Option (Held Bytes)) (t : Triple) → has triple_cmp t (triples_held (stored_of counted m) x h) ≡ (not (is_own counted x t) && has triple_cmp t (triples_held m x h))
  has-stored x h t = ap (has triple_cmp t) (stored_held x h) ∙ has-filter triple_cmp triple_cmp-IsAntisymmetric (λ t. not (is_own counted x t)) t (triples_held m x h)

  pub has-own : (x : EntityId) (h : Option (Held Bytes)) (t : Triple) → has triple_cmp t (triples_held (own_of counted m) x h) ≡ (is_own counted x t && has triple_cmp t (triples_held m x h))
  has-own x h t = ap (has triple_cmp t) (own_held x h) ∙ has-filter triple_cmp triple_cmp-IsAntisymmetric (is_own counted x) t (triples_held m x h)

-- ---- strangers

stranger_named : (y x : EntityId) (found : Option EntityId) → found ≡ Some x → y ≢ x → has entity_cmp x (stranger y found) ≡ true
stranger_named y x found is other =
    ap (λ f. has entity_cmp x (stranger y f)) is
    ∙ ⊎_elim
    (λ own. absurd (other (sym own.1)))
    (λ no. ap (λ b. has entity_cmp x (cond b [] (x ∷ []))) no.0 ∙ left_true (eq_by_cmp entity_cmp x x) false ((eq_by_cmp_equiv entity_cmp_total).refl x))
    (id_tells x y)

-- an entity that a triple on the page of another belongs to is among the strangers there
pub strangers-named : (y x : EntityId) (t : Triple) (ts : List Triple) → has triple_cmp t ts ≡ true → home_of t ≡ Some x → y ≢ x → has entity_cmp x (strangers y ts) ≡ true
strangers-named y x t [] there home other = clash there refl
strangers-named y x t (u ∷ us) there home other =
    has-append entity_cmp x (stranger y (home_of u)) (strangers y us) ∙ by (eq_by_cmp triple_cmp t u) refl there (λ later. strangers-named y x t us later home other)
  where
    by : (b : Bool) → eq_by_cmp triple_cmp t u ≡ b → (b || has triple_cmp t us) ≡ true → (has triple_cmp t us ≡ true → has entity_cmp x (strangers y us) ≡ true)
        → (has entity_cmp x (stranger y (home_of u)) || has entity_cmp x (strangers y us)) ≡ true
    by true is some later =
        left_true _ _ (stranger_named y x (home_of u) (ap home_of (sym (triple_cmp-IsAntisymmetric t u (equal _ is))) ∙ home) other)
    by false is some later = or_true _ _ (later some)

-- ---- what is there

module _ (m : Meaning Triple) (counted : List EntityId) (count : Triple → ℕ) (records : Records) (h : IsLean m counted count records) where
  -- nobody but x has what belongs to x, which isn't counted
  pub no_other : (t : Triple) (x y : EntityId) → home_of t ≡ Some x → has entity_cmp x counted ≡ false → y ≢ x → has triple_cmp t (triples_of m records y) ≡ false
  no_other t x y home free other = by (has triple_cmp t (triples_of m records y)) refl
    where
      by : (b : Bool) → has triple_cmp t (triples_of m records y) ≡ b → b ≡ false
      by true there = clash (h.strangers y x (strangers-named y x t (triples_of m records y) there home other)) free
      by false there = refl

  -- a count tells that it is stored of some entity's page
  counted_by : (t : Triple) → nat_lt 0 (count t) ≡ true → (y : EntityId) × (is_own counted y t ≡ false) × (has triple_cmp t (triples_of m records y) ≡ true)
  counted_by t some =
      let found = holder (stored_of counted m) records t (ap (nat_lt 0) (sym (h.counts t)) ∙ some) in
      let parts = sym (has-stored counted m found.0 (record_of records found.0).held t) ∙ found.1 in
      (found.0, not_true _ (and_left (not (is_own counted found.0 t)) (has triple_cmp t (triples_of m records found.0)) parts), and_right (not (is_own counted found.0 t)) _ parts)

  -- it has no count
  pub alone : (t : Triple) (x : EntityId) → home_of t ≡ Some x → has entity_cmp x counted ≡ false → count t ≡ 0
  alone t x home free = no_count (count t) (by (nat_lt 0 (count t)) refl)
    where
      by : (b : Bool) → nat_lt 0 (count t) ≡ b → b ≡ false
      by true some =
          let found = counted_by t some in
          ⊎_elim
          (λ own. clash (is_own_there counted found.0 t (home ∙ ap Some (sym own.1)) (ap (λ y. has entity_cmp y counted) own.1 ∙ free)) found.1)
          (λ other. clash found.2 (no_other t x found.0 home free other.1))
          (id_tells found.0 x)
      by false some = refl

  own_there : (t : Triple) (found : Option EntityId) → has_own m counted records t found ≡ true → has triple_cmp t (union triple_cmp m records) ≡ true
  own_there t None is = clash is refl
  own_there t (Some x) is = in_union m records x t (and_right (not (has entity_cmp x counted)) _ is)

  -- the union has what is counted or stands alone
  pub present : (t : Triple) → has triple_cmp t (union triple_cmp m records) ≡ is_present m counted count records t
  present t = same_bool _ _ there (λ is. back (nat_lt 0 (count t)) refl is)
    where
      there : has triple_cmp t (union triple_cmp m records) ≡ true → is_present m counted count records t ≡ true
      there is =
          let found = holder m records t (sym (has-union triple_cmp-total m records t) ∙ is) in
          by found.0 found.1 (is_own counted found.0 t) refl
        where
          by : (y : EntityId) → has triple_cmp t (triples_of m records y) ≡ true → (b : Bool) → is_own counted y t ≡ b → is_present m counted count records t ≡ true
          by y holds true own =
              let parts = own_is counted y t own in
              or_true (nat_lt 0 (count t)) _ (ap (has_own m counted records t) parts.0 ∙ both_true (not (has entity_cmp y counted)) _ (ap not parts.1) holds)
          by y holds false own =
              let stored : has triple_cmp t (triples_of (stored_of counted m) records y) ≡ true = has-stored counted m y (record_of records y).held t ∙ both_true (not (is_own counted y t)) _ (ap not own) holds in
              left_true (nat_lt 0 (count t)) _ (ap (nat_lt 0) (h.counts t) ∙ lt-ltb 0 _ (has_owner (stored_of counted m) records y t stored))

      back : (b : Bool) → nat_lt 0 (count t) ≡ b → (b || has_own m counted records t (home_of t)) ≡ true → has triple_cmp t (union triple_cmp m records) ≡ true
      back true some is = let found = counted_by t some in in_union m records found.0 t found.2
      back false some is = own_there t (home_of t) is
