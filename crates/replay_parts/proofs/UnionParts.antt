-- The union is made of the unions of parts that cover all entities, and the owners of a triple are those of all parts where each entity
-- is in one.
use Rattle.std.proofs.Common.{◌≡◌, ℕ, ◌+◌, Bool, true, false, cond, ◌&&◌, ◌||◌, T, List, [], ◌∷◌, None, Ordering, filter, flat_map, sum_by, count_by, nat_lt, refl, sym, ◌∙◌, ap, arith, lt-ltb, eq-eqb}
use Rattle.std.specs.Prelude.{◌↔◌}
use Rattle.std.specs.FinMap as map
use Rattle.std.specs.FinMap.{IsAntisymmetric, is_sorted}
use Rattle.std.specs.FinMap.Entries.{where_key, is_sorted-where_key, find-where_key}
use Rattle.std.specs.Cmp.{IsTotalOrder}
use Rattle.std.specs.List.{list_any}
use Rattle.std.proofs.lemmas.List.Sums.{sum_by-cons}
use Rattle.entity_model.specs.declared.id.EntityId.{EntityId}
use Rattle.entity_model.specs.EntityId.{entity_cmp, entity_cmp_total, entity_cmp_same}
use Rattle.entity_state.specs.declared.record.Record.{Record}
use Rattle.sorted_sets.specs.Rising.{has, IsRising}
use Rattle.sorted_sets.proofs.Bools.{clash, and_all, and_none, and_right, or_assoc, or_swap}
use Rattle.sorted_sets.proofs.Finding.{list_any-filter, list_any_agree, list_any_never, list_any_weaker}
use Rattle.sorted_sets.proofs.Rising.{has-append, has-sorted, IsRising-sorted, same_rising}
use Rattle.replay_model.specs.Records.{Bytes, Records}
use Rattle.replay_model.specs.Union.{Meaning, triples_at, union, owners}
use Rattle.replay_model.proofs.Owners.{union-rises}
use Rattle.replay_parts.specs.Parts.{part_of_records, is_in_part, merged}
use Rattle.replay_parts.proofs.PlayedParts.{get-part}

-- ---- tests and sums in either order

module _ {B : Type 0} where
  any_both : (p q : B → Bool) (bs : List B) → list_any (λ b. p b || q b) bs ≡ (list_any p bs || list_any q bs)
  any_both p q [] = refl
  any_both p q (b ∷ bs) =
      ap (λ rest. (p b || q b) || rest) (any_both p q bs)
      ∙ or_assoc (p b) (q b) (list_any p bs || list_any q bs)
      ∙ ap (λ r. p b || r) (or_swap (q b) (list_any p bs) (list_any q bs))
      ∙ sym (or_assoc (p b) (list_any p bs) (q b || list_any q bs))

  sum_zero : (bs : List B) → sum_by (λ b. 0) bs ≡ 0
  sum_zero [] = refl
  sum_zero (b ∷ bs) = sum_by-cons (λ b. 0) b bs ∙ ap (λ n. 0 + n) (sum_zero bs)

  sum_both : (f g : B → ℕ) (bs : List B) → sum_by (λ b. f b + g b) bs ≡ sum_by f bs + sum_by g bs
  sum_both f g [] = refl
  sum_both f g (b ∷ bs) = omega (arith, sum_by-cons (λ b. f b + g b) b bs, sum_by-cons f b bs, sum_by-cons g b bs, sum_both f g bs)

module _ {A B : Type 0} where
  any_swap : (f : A → B → Bool) (xs : List A) (ys : List B) → list_any (λ x. list_any (f x) ys) xs ≡ list_any (λ y. list_any (λ x. f x y) xs) ys
  any_swap f [] ys = sym (list_any_never (λ y. false) (λ y. refl) ys)
  any_swap f (x ∷ xs) ys = ap (λ b. list_any (f x) ys || b) (any_swap f xs ys) ∙ sym (any_both (f x) (λ y. list_any (λ x. f x y) xs) ys)

  pub sum_swap : (f : A → B → ℕ) (xs : List A) (ys : List B) → sum_by (λ x. sum_by (f x) ys) xs ≡ sum_by (λ y. sum_by (λ x. f x y) xs) ys
  sum_swap f [] ys = sym (sum_zero ys)
  sum_swap f (x ∷ xs) ys =
      sum_by-cons (λ x. sum_by (f x) ys) x xs
      ∙ ap (λ n. sum_by (f x) ys + n) (sum_swap f xs ys)
      ∙ sym (sum_both (f x) (λ y. sum_by (λ x. f x y) xs) ys)
      ∙ (λ i. sum_by (λ y. sym (sum_by-cons (λ x. f x y) x xs) i) ys)

module _ {A : Type 0} where
  pub count-filter : (p q : A → Bool) (xs : List A) → count_by p (filter q xs) ≡ count_by (λ x. q x && p x) xs
  count-filter p q [] = refl
  count-filter p q (x ∷ xs) = by (q x) (count-filter p q xs) ∙ sym (sum_by-cons (λ x. cond (q x && p x) 1 0) x xs)
    where
      by : (b : Bool) → count_by p (filter q xs) ≡ count_by (λ x. q x && p x) xs → count_by p (cond b (x ∷ filter q xs) (filter q xs)) ≡ cond (b && p x) 1 0 + count_by (λ x. q x && p x) xs
      by true rest = sum_by-cons (λ x. cond (p x) 1 0) x (filter q xs) ∙ ap (λ n. cond (p x) 1 0 + n) rest
      by false rest = omega arith

  -- what passes once passes
  any-counted : (p : A → Bool) (xs : List A) → list_any p xs ≡ nat_lt 0 (count_by p xs)
  any-counted p [] = refl
  any-counted p (x ∷ xs) = ap (λ b. p x || b) (any-counted p xs) ∙ by (p x) (count_by p xs) ∙ ap (nat_lt 0) (sym (sum_by-cons (λ x. cond (p x) 1 0) x xs))
    where
      by : (b : Bool) (n : ℕ) → (b || nat_lt 0 n) ≡ nat_lt 0 (cond b 1 0 + n)
      by true n = sym (lt-ltb 0 (1 + n) (omega arith))
      by false n = ap (nat_lt 0) (omega arith)

  pub any_counted : (p : A → Bool) (xs : List A) → count_by p xs ≡ 1 → list_any p xs ≡ true
  any_counted p xs one = any-counted p xs ∙ ap (nat_lt 0) one

  -- a contains that goes with a fixed answer
  any_with : (p : A → Bool) (b : Bool) (xs : List A) → list_any p xs ≡ true → list_any (λ x. p x && b) xs ≡ b
  any_with p true xs some = (λ i. list_any (λ x. and_all (p x) i) xs) ∙ some
  any_with p false xs some = (λ i. list_any (λ x. and_none (p x) i) xs) ∙ list_any_never (λ x. false) (λ x. refl) xs

  pub count_with : (p : A → Bool) (b : Bool) (xs : List A) → count_by p xs ≡ 1 → count_by (λ x. p x && b) xs ≡ cond b 1 0
  count_with p true xs one = (λ i. count_by (λ x. and_all (p x) i) xs) ∙ one
  count_with p false xs one = (λ i. count_by (λ x. and_none (p x) i) xs) ∙ sum_zero xs

-- ---- the entries of a part

-- the entries of a part are those of its entities
pub entries-part : (contains : EntityId → Bool) (records : Records) → map.entries (part_of_records contains records) ≡ where_key entity_cmp contains (map.entries records)
entries-part contains records = ap map.entries same ∙ map.entries-from_sorted entity_cmp (where_key entity_cmp contains (map.entries records)) kept
  where
    kept : T (is_sorted entity_cmp (where_key entity_cmp contains (map.entries records)))
    kept = is_sorted-where_key entity_cmp contains (map.entries records) (map.entries_sorted records)

    same : part_of_records contains records ≡ map.from_sorted (where_key entity_cmp contains (map.entries records))
    same = map.same_map entity_cmp_total entity_cmp_same _ _ (λ q.
        get-part contains records q
        ∙ ap (λ o. cond (contains q) o None) (map.get-entries records q)
        ∙ sym (map.get-from_sorted entity_cmp (where_key entity_cmp contains (map.entries records)) q kept
        ∙ find-where_key entity_cmp contains q (λ y tie. ap contains (sym (entity_cmp_same q y tie))) (map.entries records)))

module _ {Triple : Type 0} (order : Triple → Triple → Ordering) where
  pub has-flat_map : {E : Type 0} (f : E → List Triple) (t : Triple) (es : List E) → has order t (flat_map f es) ≡ list_any (λ e. has order t (f e)) es
  has-flat_map f t [] = refl
  has-flat_map f t (e ∷ es) = has-append order t (f e) (flat_map f es) ∙ ap (λ b. has order t (f e) || b) (has-flat_map f t es)

module _ {Triple : Type 0} {order : Triple → Triple → Ordering} (o : IsTotalOrder order) where
  -- what is merged has what one of the parts gives
  pub has-merged : {P : Type 0} (given : P → List Triple) (t : Triple) (parts : List P) → has order t (merged order given parts) ≡ list_any (λ part. has order t (given part)) parts
  has-merged given t parts = has-sorted o t (flat_map given parts) ∙ has-flat_map order given t parts

  -- a rising list with what the parts give is what is merged
  pub merged_from : IsAntisymmetric order → {P : Type 0} (given : P → List Triple) (parts : List P) (whole : List Triple) → IsRising order whole
      → ((t : Triple) → has order t whole ≡ list_any (λ part. has order t (given part)) parts) → whole ≡ merged order given parts
  merged_from same given parts whole rises each = same_rising o same whole _ rises (IsRising-sorted o (flat_map given parts)) (λ t. each t ∙ sym (has-merged given t parts))

  module _ (meaning : Meaning Triple) (records : Records) where
    -- the triples of a part's entities
    pub has-part : (contains : EntityId → Bool) (t : Triple) → has order t (union order meaning (part_of_records contains records)) ≡ list_any (λ entry. contains entry.0 && has order t (triples_at meaning entry)) (map.entries records)
    has-part contains t =
        has-sorted o t (flat_map (triples_at meaning) (map.entries (part_of_records contains records)))
        ∙ has-flat_map order (triples_at meaning) t (map.entries (part_of_records contains records))
        ∙ ap (list_any (λ entry. has order t (triples_at meaning entry))) (entries-part contains records)
        ∙ list_any-filter (λ entry. has order t (triples_at meaning entry)) (λ entry. contains entry.0) (map.entries records)

    pub has-whole : (t : Triple) → has order t (union order meaning records) ≡ list_any (λ entry. has order t (triples_at meaning entry)) (map.entries records)
    has-whole t = has-sorted o t (flat_map (triples_at meaning) (map.entries records)) ∙ has-flat_map order (triples_at meaning) t (map.entries records)

    -- of parts that cover all entities, one has what the whole has
    pub has-parts : {P : Type 0} (contains : P → EntityId → Bool) (parts : List P) → ((x : EntityId) → list_any (λ part. contains part x) parts ≡ true) → (t : Triple)
        → has order t (union order meaning records) ≡ list_any (λ part. has order t (union order meaning (part_of_records (contains part) records))) parts
    has-parts contains parts cover t =
        has-whole t
        ∙ list_any_agree (λ entry. has order t (triples_at meaning entry)) (λ entry. list_any (λ part. contains part entry.0 && has order t (triples_at meaning entry)) parts)
        (λ entry. sym (any_with (λ part. contains part entry.0) (has order t (triples_at meaning entry)) parts (cover entry.0))) (map.entries records)
        ∙ any_swap (λ entry part. contains part entry.0 && has order t (triples_at meaning entry)) (map.entries records) parts
        ∙ list_any_agree (λ part. list_any (λ entry. contains part entry.0 && has order t (triples_at meaning entry)) (map.entries records)) (λ part. has order t (union order meaning (part_of_records (contains part) records)))
        (λ part. sym (has-part (contains part) t)) parts

    pub union-parts : IsAntisymmetric order → {P : Type 0} (contains : P → EntityId → Bool) (parts : List P) → ((x : EntityId) → list_any (λ part. contains part x) parts ≡ true)
        → union order meaning records ≡ merged order (λ part. union order meaning (part_of_records (contains part) records)) parts
    union-parts same contains parts cover =
        merged_from same (λ part. union order meaning (part_of_records (contains part) records)) parts (union order meaning records) (union-rises o meaning records) (has-parts contains parts cover)

    -- where each entity is in one part, the owners are the sum of the parts'
    pub owners-parts : {P : Type 0} (contains : P → EntityId → Bool) (parts : List P) → ((x : EntityId) → count_by (λ part. contains part x) parts ≡ 1) → (t : Triple)
        → owners order meaning records t ≡ sum_by (λ part. owners order meaning (part_of_records (contains part) records) t) parts
    owners-parts contains parts one t =
        (λ i. sum_by (λ entry. sym (count_with (λ part. contains part entry.0) (has order t (triples_at meaning entry)) parts (one entry.0)) i) (map.entries records))
        ∙ sum_swap (λ entry part. cond (contains part entry.0 && has order t (triples_at meaning entry)) 1 0) (map.entries records) parts
        ∙ (λ i. sum_by (λ part. sym (ap (count_by (λ entry. has order t (triples_at meaning entry))) (entries-part (contains part) records) ∙ count-filter (λ entry. has order t (triples_at meaning entry)) (λ entry. contains part entry.0) (map.entries records)) i) parts)

    -- ---- numbered parts

    numbered : (number : EntityId → ℕ) (g : (EntityId × Record Bytes) → Bool) (es : List (EntityId × Record Bytes)) → list_any g es ≡ true → (k : ℕ) × (list_any (λ entry. is_in_part number k entry.0 && g entry) es ≡ true)
    numbered number g [] some = clash some refl
    numbered number g (e ∷ es) some = by (g e) refl (numbered number g es)
      where
        by : (b : Bool) → g e ≡ b → (list_any g es ≡ true → (k : ℕ) × (list_any (λ entry. is_in_part number k entry.0 && g entry) es ≡ true)) → (k : ℕ) × (list_any (λ entry. is_in_part number k entry.0 && g entry) (e ∷ es) ≡ true)
        by true here later = (number e.0, (λ i. (eq-eqb (number e.0) (number e.0) refl i && here i) || list_any (λ entry. is_in_part number (number e.0) entry.0 && g entry) es))
        by false here later =
            let rest = later (sym (ap (λ b. b || list_any g es) here) ∙ some) in
            (rest.0, (λ i. (is_in_part number rest.0 e.0 && here i) || rest.1 i) ∙ ap (λ b. b || true) (and_none (is_in_part number rest.0 e.0)))

    -- a triple is in the whole exactly where it is in one of the numbered parts
    pub has-numbered : (number : EntityId → ℕ) (t : Triple) → (has order t (union order meaning records) ≡ true) ↔ ((k : ℕ) × (has order t (union order meaning (part_of_records (is_in_part number k) records)) ≡ true))
    has-numbered number t = (
      (λ there.
          let found = numbered number (λ entry. has order t (triples_at meaning entry)) (map.entries records) (sym (has-whole t) ∙ there) in
          (found.0, has-part (is_in_part number found.0) t ∙ found.1)),
      (λ found.
          has-whole t
          ∙ list_any_weaker (λ entry. is_in_part number found.0 entry.0 && has order t (triples_at meaning entry)) (λ entry. has order t (triples_at meaning entry))
          (λ entry passes. and_right (is_in_part number found.0 entry.0) _ passes) (map.entries records)
          (sym (has-part (is_in_part number found.0) t) ∙ found.1)),
    )
