-- The triples of the values of a map together, and how many values have each.
use Rattle.std.proofs.Common.{◌≡◌, ◌≢◌, ◌⊎◌, inl, inr, ℕ, ◌+◌, ◌<◌, ◌≤◌, Bool, true, false, cond, ◌||◌, T, List, [], ◌∷◌, Option, None, Some, Ordering, Less, Equal, Greater, is_eq, is_lt, nat_lt, sum_by, count_by, flat_map, refl, sym, ◌∙◌, ap, subst, true≢false, lt-ltb, ⊎_elim, arith}
use Rattle.std.specs.FinMap as map
use Rattle.std.specs.{FinMap.IsAntisymmetric, FinMap.find, FinMap.put, FinMap.is_sorted, FinMap.Entries.below_all, FinMap.Entries.by_order}
use Rattle.std.specs.{Cmp.IsTotalOrder, Cmp.eq_by_cmp_equiv, Ordering.eq_by_cmp, Ordering.ordering_reverse}
use Rattle.std.proofs.lemmas.List.Sums.{count_by-le-length, sum_by-cons}
use Rattle.sorted_sets.specs.Rising.{In, has, sorted}
use Rattle.sorted_sets.proofs.{Bools.equal, Keys.and_first, Keys.and_second, Keys.less}
use Rattle.sorted_sets.proofs.Rising.{IsRising-sorted, has-append, has-sorted, same_rising}
use Rattle.rdf_term.specs.{declared.triple.Triple.Triple, Order.triple_cmp, Order.triple_cmp-total}
use Rattle.rdf_term.proofs.Texts.{triple_cmp-IsAntisymmetric}
use Rattle.entity_model.specs.{declared.id.EntityId.EntityId, EntityId.entity_cmp, EntityId.entity_cmp_total, EntityId.entity_cmp_same}

-- two ids are one, or they aren't, as the test says
pub id_tells : (y x : EntityId) → ((eq_by_cmp entity_cmp y x ≡ true) × (y ≡ x)) ⊎ ((eq_by_cmp entity_cmp y x ≡ false) × (y ≢ x))
id_tells y x = by (eq_by_cmp entity_cmp y x) refl
  where
    by : (b : Bool) → eq_by_cmp entity_cmp y x ≡ b → ((eq_by_cmp entity_cmp y x ≡ true) × (y ≡ x)) ⊎ ((eq_by_cmp entity_cmp y x ≡ false) × (y ≢ x))
    by true e = inl (e, entity_cmp_same y x (equal _ e))
    by false e = inr (e, λ same. true≢false (sym ((eq_by_cmp_equiv entity_cmp_total).refl x) ∙ ap (λ z. eq_by_cmp entity_cmp z x) (sym same) ∙ e))

-- what an entry at a key adds to a sum
abbrev share : {K X : Type 0} → ((K × X) → ℕ) → K → Option X → ℕ
share f k None = 0
share f k (Some v) = f (k, v)

-- a key above another isn't equal to it
apart : {K : Type 0} {R : K → K → Ordering} → IsTotalOrder R → (k q : K) → T (is_lt (R k q)) → eq_by_cmp R q k ≡ false
apart {R = R} o k q h = elim (R k q) as (λ r. R k q ≡ r → T (is_lt r) → eq_by_cmp R q k ≡ false) [
  | Less ↦ λ e _. ap is_eq (o.antisymm q k ∙ ap ordering_reverse e)
  | Equal ↦ λ e less. absurd less
  | Greater ↦ λ e less. absurd less
] refl h

module _ {K X : Type 0} {R : K → K → Ordering} (o : IsTotalOrder R) where
  -- a key below the keys of all entries isn't found
  find_below : (k y : K) (es : List (K × X)) → R k y ≡ Less → T (below_all R y es) → find R k es ≡ None
  find_below k y [] low h = refl
  find_below k y (e ∷ es) low h =
      ap (λ r. cond (is_eq r) (Some e.1) (find R k es)) (o.trans k y e.0 low (less _ (and_first _ _ h))) ∙ find_below k y es low (and_second _ _ h)

  above : (k : K) (e : K × X) (es : List (K × X)) → T (below_all R k es) → In e es → T (is_lt (R k e.0))
  above k e [] below among = absurd among
  above k e (x ∷ es) below (inl is) = subst (λ (y : K × X). T (is_lt (R k y.0))) (sym is) (and_first _ _ below)
  above k e (x ∷ es) below (inr among) = above k e es (and_second _ _ below) among

  -- an entry is found by its key
  found : (e : K × X) (es : List (K × X)) → T (is_sorted R es) → In e es → find R e.0 es ≡ Some e.1
  found e [] sorted among = absurd among
  found e (x ∷ es) sorted (inl is) =
      let same : eq_by_cmp R e.0 x.0 ≡ true = ap (λ (y : K × X). eq_by_cmp R e.0 y.0) (sym is) ∙ (eq_by_cmp_equiv o).refl e.0 in
      ap (λ b. cond b (Some x.1) (find R e.0 es)) same ∙ ap (λ (y : K × X). Some y.1) (sym is)
  found e (x ∷ es) sorted (inr among) =
      ap (λ b. cond b (Some x.1) (find R e.0 es)) (apart o x.0 e.0 (above x.0 e es (and_first _ _ sorted) among))
      ∙ found e es (and_second _ _ sorted) among

module _ {K X : Type 0} {R : K → K → Ordering} (o : IsTotalOrder R) (same : IsAntisymmetric R) where
  sum_by-put : (f : (K × X) → ℕ) (k : K) (v : X) (es : List (K × X)) → T (is_sorted R es) → sum_by f (put R k v es) + share f k (find R k es) ≡ sum_by f es + f (k, v)
  sum_by-put f k v [] h = omega arith
  sum_by-put f k v (e ∷ es) h =
      elim (R k e.0) as (λ r. R k e.0 ≡ r → sum_by f (by_order r ((k, v) ∷ e ∷ es) ((e.0, v) ∷ es) (e ∷ put R k v es)) + share f k (cond (is_eq r) (Some e.1) (find R k es)) ≡ sum_by f (e ∷ es) + f (k, v)) [
        | Less ↦ λ less.
            let none : share f k (find R k es) ≡ 0 = ap (share f k) (find_below o k e.0 es less (and_first _ _ h)) in
            omega (arith, sum_by-cons f (k, v) (e ∷ es))
        | Equal ↦ λ tie.
            let new : f (e.0, v) ≡ f (k, v) = ap (λ y. f (y, v)) (sym (same k e.0 tie)) in
            let old : f (k, e.1) ≡ f e = ap (λ y. f (y, e.1)) (same k e.0 tie) in
            omega (arith, sum_by-cons f (e.0, v) es, sum_by-cons f e es)
        | Greater ↦ λ _. omega (arith, sum_by-cons f e (put R k v es), sum_by-cons f e es, sum_by-put f k v es (and_second _ _ h))
      ] refl

-- a map is that without an entry, with the entry
pub back : {V : Type 0} (m : map.FinMap entity_cmp V) (x : EntityId) (v : V) → map.get m x ≡ Some v → m ≡ map.insert (map.remove m x) x v
back {V} m x v is = map.same_map entity_cmp_total entity_cmp_same _ _ (λ y.
    ⊎_elim
    (λ own. ap (map.get m) own.1 ∙ is ∙ sym (ap (λ b. cond b (Some v) (map.get (map.remove m x) y)) own.0))
    (λ other.
    sym (ap (λ b. cond b (Some v) (map.get (map.remove m x) y)) other.0 ∙ map.get-remove entity_cmp_total m x y ∙ ap (λ b. cond b None (map.get m y)) other.0))
    (id_tells y x)
    ∙ sym (map.get-insert entity_cmp_total (map.remove m x) x v y))

module _ {V : Type 0} (f : (EntityId × V) → List Triple) where
  -- the triples of all values together
  abbrev pub gathered : map.FinMap entity_cmp V → List Triple
  gathered m = sorted triple_cmp (flat_map f (map.entries m))

  -- how many values have a triple
  abbrev pub owners : map.FinMap entity_cmp V → Triple → ℕ
  owners m t = count_by (λ e. has triple_cmp t (f e)) (map.entries m)

  abbrev pub owned : Triple → (EntityId × V) → ℕ
  owned t e = cond (has triple_cmp t (f e)) 1 0

  -- what a value, if there is one, adds to the owners of a triple
  abbrev pub part : Triple → EntityId → Option V → ℕ
  part t x None = 0
  part t x (Some v) = owned t (x, v)

  part-share : (t : Triple) (x : EntityId) (v : Option V) → share (owned t) x v ≡ part t x v
  part-share t x None = refl
  part-share t x (Some v) = refl

  -- a value that is put in has its triples, and the one before has them no longer
  pub owners-insert : (m : map.FinMap entity_cmp V) (x : EntityId) (v : V) (t : Triple) → owners (map.insert m x v) t + part t x (map.get m x) ≡ owners m t + owned t (x, v)
  owners-insert m x v t =
      ap (λ es. sum_by (owned t) es + part t x (map.get m x)) (map.entries-insert entity_cmp_total m x v)
      ∙ ap (λ n. sum_by (owned t) (put entity_cmp x v (map.entries m)) + n) (sym (part-share t x (map.get m x)) ∙ ap (share (owned t) x) (map.get-entries m x))
      ∙ sum_by-put entity_cmp_total entity_cmp_same (owned t) x v (map.entries m) (map.entries_sorted m)

  removed_get : (m : map.FinMap entity_cmp V) (x : EntityId) → map.get (map.remove m x) x ≡ None
  removed_get m x = map.get-remove entity_cmp_total m x x ∙ ap (λ b. cond b None (map.get m x)) ((eq_by_cmp_equiv entity_cmp_total).refl x)

  -- one that is taken out has its triples no longer
  pub owners-remove : (m : map.FinMap entity_cmp V) (x : EntityId) (v : V) (t : Triple) → map.get m x ≡ Some v → owners (map.remove m x) t + owned t (x, v) ≡ owners m t
  owners-remove m x v t is =
      let put_in : owners (map.insert (map.remove m x) x v) t + part t x (map.get (map.remove m x) x) ≡ owners (map.remove m x) t + owned t (x, v) = owners-insert (map.remove m x) x v t in
      let none : part t x (map.get (map.remove m x) x) ≡ 0 = ap (part t x) (removed_get m x) in
      let same : owners m t ≡ owners (map.insert (map.remove m x) x v) t = ap (λ (n : map.FinMap entity_cmp V). owners n t) (back m x v is) in
      omega (arith, put_in, none, same)

  -- what a value has, has an owner
  pub has_owner : (m : map.FinMap entity_cmp V) (x : EntityId) (v : V) (t : Triple) → map.get m x ≡ Some v → has triple_cmp t (f (x, v)) ≡ true → 0 < owners m t
  has_owner m x v t is there =
      let one : owned t (x, v) ≡ 1 = ap (λ b. cond b 1 0) there in
      omega (arith, owners-remove m x v t is, one)

  -- there are no more owners than values
  pub few_owners : (m : map.FinMap entity_cmp V) (t : Triple) → owners m t ≤ map.len m
  few_owners m t = omega (arith, count_by-le-length (λ e. has triple_cmp t (f e)) (map.entries m), map.len-entries m)

  has-flat_map : (t : Triple) (es : List (EntityId × V)) → has triple_cmp t (flat_map f es) ≡ nat_lt 0 (count_by (λ e. has triple_cmp t (f e)) es)
  has-flat_map t [] = refl
  has-flat_map t (e ∷ es) =
      has-append triple_cmp t (f e) (flat_map f es)
      ∙ ap (λ b. has triple_cmp t (f e) || b) (has-flat_map t es)
      ∙ counts (has triple_cmp t (f e)) (count_by (λ e. has triple_cmp t (f e)) es)
      ∙ ap (nat_lt 0) (sym (sum_by-cons (owned t) e es))
    where
      counts : (b : Bool) (n : ℕ) → (b || nat_lt 0 n) ≡ nat_lt 0 (cond b 1 0 + n)
      counts true n = sym (lt-ltb 0 (1 + n) (omega arith))
      counts false n = ap (nat_lt 0) (omega arith)

  -- the triples together are those that have an owner
  pub has-gathered : (m : map.FinMap entity_cmp V) (t : Triple) → has triple_cmp t (gathered m) ≡ nat_lt 0 (owners m t)
  has-gathered m t = has-sorted triple_cmp-total t (flat_map f (map.entries m)) ∙ has-flat_map t (map.entries m)

  pub gathered_if : (m : map.FinMap entity_cmp V) (x : EntityId) (v : V) (t : Triple) → map.get m x ≡ Some v → has triple_cmp t (f (x, v)) ≡ true → has triple_cmp t (gathered m) ≡ true
  gathered_if m x v t is there = has-gathered m t ∙ lt-ltb 0 (owners m t) (has_owner m x v t is there)

  one_has : (t : Triple) (es : List (EntityId × V)) → has triple_cmp t (flat_map f es) ≡ true → (e : EntityId × V) × In e es × (has triple_cmp t (f e) ≡ true)
  one_has t [] h = absurd (true≢false (sym h))
  one_has t (e ∷ es) h = by (has triple_cmp t (f e)) refl (one_has t es) (sym (has-append triple_cmp t (f e) (flat_map f es)) ∙ h)
    where
      by : (b : Bool) → has triple_cmp t (f e) ≡ b → (has triple_cmp t (flat_map f es) ≡ true → (y : EntityId × V) × In y es × (has triple_cmp t (f y) ≡ true))
          → (b || has triple_cmp t (flat_map f es)) ≡ true → (y : EntityId × V) × In y (e ∷ es) × (has triple_cmp t (f y) ≡ true)
      by true is others _ = (e, inl refl, is)
      by false is others rest = let one = others rest in (one.0, inr one.1, one.2)

  -- each of them is a value's
  pub gathered_from : (m : map.FinMap entity_cmp V) (t : Triple) → has triple_cmp t (gathered m) ≡ true → (x : EntityId) × (v : V) × (map.get m x ≡ Some v) × (has triple_cmp t (f (x, v)) ≡ true)
  gathered_from m t h =
      let one = one_has t (map.entries m) (sym (has-sorted triple_cmp-total t (flat_map f (map.entries m))) ∙ h) in
      (one.0.0, one.0.1, map.get-entries m one.0.0 ∙ found entity_cmp_total one.0 (map.entries m) (map.entries_sorted m) one.1, one.2)

-- two tests that pass alike
pub alike : (a b : Bool) → (a ≡ true → b ≡ true) → (b ≡ true → a ≡ true) → a ≡ b
alike true b there back = sym (there refl)
alike false true there back = back refl
alike false false there back = refl

-- two maps with the same triples
pub same_gathered : {V W : Type 0} (f : (EntityId × V) → List Triple) (g : (EntityId × W) → List Triple) (m : map.FinMap entity_cmp V) (n : map.FinMap entity_cmp W)
    → ((x : EntityId) (v : V) (t : Triple) → map.get m x ≡ Some v → has triple_cmp t (f (x, v)) ≡ true → has triple_cmp t (gathered g n) ≡ true)
    → ((x : EntityId) (w : W) (t : Triple) → map.get n x ≡ Some w → has triple_cmp t (g (x, w)) ≡ true → has triple_cmp t (gathered f m) ≡ true)
    → gathered f m ≡ gathered g n
same_gathered f g m n there back = same_rising triple_cmp-total triple_cmp-IsAntisymmetric (gathered f m) (gathered g n)
    (IsRising-sorted triple_cmp-total (flat_map f (map.entries m))) (IsRising-sorted triple_cmp-total (flat_map g (map.entries n)))
    (λ t. alike _ _
    (λ h. let one = gathered_from f m t h in there one.0 one.1 t one.2 one.3)
    (λ h. let one = gathered_from g n t h in back one.0 one.1 t one.2 one.3))
