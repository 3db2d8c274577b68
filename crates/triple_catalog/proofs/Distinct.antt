-- As many terms as a list has are different in each list that has them.
use Rattle.std.proofs.Common.{◌≡◌, ℕ, suc, ◌+◌, ◌<◌, ◌≤◌, Bool, true, false, cond, ◌&&◌, ◌||◌, List, [], ◌∷◌, length, get_or, Option, Some, None, Ordering, Less, Equal, Greater, is_eq, is_some, count_by, filter, refl, sym, ◌∙◌, ap, arith}
use Rattle.std.specs.{Cmp.IsTotalOrder, Cmp.both_ways, FinMap.IsAntisymmetric, Ordering.eq_by_cmp, Ordering.match_ordering}
use Rattle.std.specs.BTreeSet.{insert_key}
use Rattle.std.proofs.lemmas.List.Sums.{count_by-le-length, length-filter, sum_by-cons}
use Rattle.sorted_sets.specs.Rising.{has, sorted}
use Rattle.sorted_sets.proofs.Bools.{clash, equal, or_false_left, or_false_right}
use Rattle.sorted_sets.proofs.Filtering.{IsRising-filter, has-filter}
use Rattle.sorted_sets.proofs.Rising.{IsRising-sorted, has-sorted, same_rising}
use Rattle.rdf_term.specs.{declared.term.Term.Term, Order.term_cmp, Order.term_cmp-total, Text.term_text, Undo.undo}
use Rattle.rdf_term.proofs.Texts.{term_cmp-IsAntisymmetric, undo-term_text}
use Rattle.text_region.specs.Region.{Texts, bytes_of}
use Rattle.term_pool.specs.{declared.slots.Entry.Entry, declared.pool.Pool.Pool}
use Rattle.term_pool.specs.Pool.{IsCanonical, IsNowhere, IsTextual, LiesIn, terms, live_text}
use Rattle.triple_catalog.specs.{Interning.HasTermsOf, Room.distinct, Slots.term_in}

module _ {K : Type 0} {R : K → K → Ordering} (o : IsTotalOrder R) (same : IsAntisymmetric R) where
  -- no element stands there twice
  abbrev pub AreDistinct : List K → Type 0
  AreDistinct [] = Unit {0}
  AreDistinct (x ∷ xs) = (has R x xs ≡ false) × AreDistinct xs

  pub length-insert_key : (k : K) (xs : List K) → has R k xs ≡ false → length (insert_key R xs k) ≡ length xs + 1
  length-insert_key k [] h = omega arith
  length-insert_key k (x ∷ xs) h =
      elim (R k x) as (λ r. R k x ≡ r → length (match_ordering r (k ∷ x ∷ xs) (x ∷ xs) (x ∷ insert_key R xs k)) ≡ length (x ∷ xs) + 1) [
        | Less ↦ λ e. omega arith
        | Equal ↦ λ e. clash (ap is_eq e) (or_false_left (eq_by_cmp R k x) (has R k xs) h)
        | Greater ↦ λ e. omega (arith, length-insert_key k xs (or_false_right (eq_by_cmp R k x) (has R k xs) h))
      ] refl

  pub length-distinct : (xs : List K) → AreDistinct xs → length (sorted R xs) ≡ length xs
  length-distinct [] d = refl
  length-distinct (x ∷ xs) d = omega (arith, length-insert_key x (sorted R xs) (has-sorted o x xs ∙ d.0), length-distinct xs d.1)

  -- a set within a set isn't larger
  pub fewer : (xs ys : List K) → ((k : K) → has R k xs ≡ true → has R k ys ≡ true) → length (sorted R xs) ≤ length (sorted R ys)
  fewer xs ys within =
      let is : sorted R xs ≡ filter (λ k. has R k xs) (sorted R ys) =
      same_rising o same (sorted R xs) _ (IsRising-sorted o xs) (IsRising-filter R (λ k. has R k xs) (sorted R ys) (IsRising-sorted o ys))
      (λ q. has-sorted o q xs ∙ by (has R q xs) (has R q ys) (within q) ∙ ap (λ b. has R q xs && b) (sym (has-sorted o q ys)) ∙ sym (has-filter R same (λ k. has R k xs) q (sorted R ys))) in
      omega (arith, ap length is, length-filter (λ k. has R k xs) (sorted R ys), count_by-le-length (λ k. has R k xs) (sorted R ys))
    where
      by : (a b : Bool) → (a ≡ true → b ≡ true) → a ≡ (a && b)
      by true b h = sym (h refl)
      by false b h = refl

-- the terms in the slots
terms_in : Texts → List (Option Entry) → List Term
terms_in r [] = []
terms_in r (None ∷ rest) = terms_in r rest
terms_in r (Some e ∷ rest) = term_in (bytes_of r e.piece) ∷ terms_in r rest

length-terms_in : (r : Texts) (slots : List (Option Entry)) → length (terms_in r slots) ≡ count_by is_some slots
unfolding terms_in
length-terms_in r [] = refl
length-terms_in r (None ∷ rest) = omega (arith, length-terms_in r rest, sum_by-cons (λ (o : Option Entry). cond (is_some o) 1 0) None rest)
length-terms_in r (Some e ∷ rest) = omega (arith, length-terms_in r rest, sum_by-cons (λ (o : Option Entry). cond (is_some o) 1 0) (Some e) rest)

-- the slot of a term
record Slotted (r : Texts) (slots : List (Option Entry)) (t : Term) : Type 0 where
  slot : ℕ
  entry : Entry
  there : get_or slots slot None ≡ Some entry
  is : t ≡ term_in (bytes_of r entry.piece)

slotted : (r : Texts) (slots : List (Option Entry)) (t : Term) → has term_cmp t (terms_in r slots) ≡ true → Slotted r slots t
unfolding terms_in
slotted r [] t h = clash h refl
slotted r (None ∷ rest) t h = let s = slotted r rest t h in record { slot = suc s.slot; entry = s.entry; there = s.there; is = s.is }
slotted r (Some e ∷ rest) t h =
    elim (eq_by_cmp term_cmp t (term_in (bytes_of r e.piece))) as (λ b. eq_by_cmp term_cmp t (term_in (bytes_of r e.piece)) ≡ b → (b || has term_cmp t (terms_in r rest)) ≡ true → Slotted r (Some e ∷ rest) t) [
      | true ↦ λ same _. record { slot = 0; entry = e; there = refl; is = term_cmp-IsAntisymmetric t _ (equal _ same) }
      | false ↦ λ _ later. let s = slotted r rest t later in record { slot = suc s.slot; entry = s.entry; there = s.there; is = s.is }
    ] refl h

-- each slot has a text of its own
record AreApart (r : Texts) (slots : List (Option Entry)) : Type 0 where
  textual : (i : ℕ) (e : Entry) → get_or slots i None ≡ Some e → IsTextual r e
  once : (i j : ℕ) (text : List ℕ) → live_text r (get_or slots i None) ≡ Some text → live_text r (get_or slots j None) ≡ Some text → i ≡ j

behind : (r : Texts) (first : Option Entry) (slots : List (Option Entry)) → AreApart r (first ∷ slots) → AreApart r slots
behind r first slots a = record {
  textual = λ i e h. a.textual (suc i) e h;
  once = λ i j text h g. let same = a.once (suc i) (suc j) text h g in omega arith;
}

term_of : (r : Texts) (e : Entry) (t : IsTextual r e) → Some (term_text (term_in (bytes_of r e.piece))) ≡ bytes_of r e.piece
term_of r e t =
    let back : undo t.text ≡ t.canonical.term = ap undo t.canonical.is ∙ undo-term_text t.canonical.term in
    ap (λ o. Some (term_text (term_in o))) t.is ∙ ap Some (ap term_text back ∙ sym t.canonical.is) ∙ sym t.is

distinct_terms : (r : Texts) (slots : List (Option Entry)) → AreApart r slots → AreDistinct {R = term_cmp} term_cmp-total term_cmp-IsAntisymmetric (terms_in r slots)
unfolding terms_in
distinct_terms r [] a = tt
distinct_terms r (None ∷ rest) a = distinct_terms r rest (behind r None rest a)
distinct_terms r (Some e ∷ rest) a = (
  both_ways (has term_cmp (term_in (bytes_of r e.piece)) (terms_in r rest)) false
      (λ h. let s = slotted r rest _ h in
      let t = a.textual 0 e refl in
      let u = a.textual (suc s.slot) s.entry s.there in
      let same = a.once 0 (suc s.slot) t.text t.is (ap (live_text r) s.there ∙ sym (term_of r s.entry u) ∙ ap (λ x. Some (term_text x)) (sym s.is) ∙ term_of r e t ∙ t.is) in
      absurd (omega arith))
      (λ h. clash h refl),
  distinct_terms r rest (behind r (Some e) rest a),
)

apart : (p : Pool) (r : Texts) → LiesIn p r → AreApart r p.slots.slots
apart p r lies = record { textual = λ i e h. lies.textual i e h; once = λ i j text h g. lies.once i j text h g }

-- a list with the terms of a pool has as many different ones as the pool
pub as_many : (p : Pool) (r : Texts) (ts : List Term) → LiesIn p r → HasTermsOf p r ts → terms p ≤ distinct ts
as_many p r ts lies h =
    let mine = terms_in r p.slots.slots in
    omega (
      arith,
      length-terms_in r p.slots.slots,
      length-distinct term_cmp-total term_cmp-IsAntisymmetric mine (distinct_terms r p.slots.slots (apart p r lies)),
      fewer term_cmp-total term_cmp-IsAntisymmetric mine ts (λ t there.
          let s = slotted r p.slots.slots t there in
          let u = lies.textual s.slot s.entry s.there in
          ap (λ x. has term_cmp x ts) (s.is ∙ ap term_in u.is) ∙ h.each s.slot u.text (ap (live_text r) s.there ∙ u.is)),
    )

-- and one more, where it has a term that the pool hasn't
pub one_more : (p : Pool) (r : Texts) (ts : List Term) (text : List ℕ) → LiesIn p r → IsCanonical text → IsNowhere p r text → HasTermsOf p r ts → has term_cmp (undo text) ts ≡ true → terms p < distinct ts
one_more p r ts text lies canonical nowhere h there =
    let mine = terms_in r p.slots.slots in
    let fresh : has term_cmp (undo text) mine ≡ false = both_ways (has term_cmp (undo text) mine) false
    (λ g. let s = slotted r p.slots.slots (undo text) g in
    let u = lies.textual s.slot s.entry s.there in
    absurd (nowhere.nowhere s.slot (ap (live_text r) s.there ∙ sym (term_of r s.entry u) ∙ ap (λ x. Some (term_text x)) (sym s.is)
    ∙ ap Some (ap term_text (ap undo canonical.is ∙ undo-term_text canonical.term) ∙ sym canonical.is))))
    (λ g. clash g refl) in
    let n = length-distinct term_cmp-total term_cmp-IsAntisymmetric (undo text ∷ mine) (fresh, distinct_terms r p.slots.slots (apart p r lies)) in
    let m = length-terms_in r p.slots.slots in
    let few = fewer term_cmp-total term_cmp-IsAntisymmetric (undo text ∷ mine) ts (λ t g.
    elim (eq_by_cmp term_cmp t (undo text)) as (λ b. eq_by_cmp term_cmp t (undo text) ≡ b → (b || has term_cmp t mine) ≡ true → has term_cmp t ts ≡ true) [
      | true ↦ λ e _. ap (λ x. has term_cmp x ts) (term_cmp-IsAntisymmetric t _ (equal _ e)) ∙ there
      | false ↦ λ _ later.
          let s = slotted r p.slots.slots t later in
          let u = lies.textual s.slot s.entry s.there in
          ap (λ x. has term_cmp x ts) (s.is ∙ ap term_in u.is) ∙ h.each s.slot u.text (ap (live_text r) s.there ∙ u.is)
    ] refl g) in
    omega arith
