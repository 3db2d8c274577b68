-- Triples in the order of their texts are the rising list of what they stand for.
use Rattle.std.proofs.Common.{◌≡◌, ℕ, zero, suc, ◌+◌, ◌<◌, ◌≤◌, Bool, true, false, cond, ◌&&◌, List, [], ◌∷◌, ◌++◌, length, filter, count_by, nat_lt, None, Ordering, Less, Equal, Greater, is_eq, is_lt, refl, sym, ◌∙◌, ap, subst, arith, lt-ltb}
use Rattle.std.specs.Prelude.{map as mapped}
use Rattle.std.specs.FinMap as map
use Rattle.std.specs.{Cmp.IsTotalOrder, FinMap.IsAntisymmetric, List.All, List.dedup, List.dedup_from}
use Rattle.std.specs.List.Sorted.{IsPermutation, IsSorted}
use Rattle.std.specs.Ordering.{eq_by_cmp, ordering_reverse, ordering_then}
use Rattle.std.proofs.{lemmas.Cmp.tied_itself, lemmas.List.get_or-map, lemmas.List.length-map, lemmas.List.Elements.All-get_or}
use Rattle.std.proofs.lemmas.List.Sorted.{All-permutation, IsPermutation-map, sum_by-IsPermutation}
use Rattle.std.proofs.lemmas.List.Sums.{length-filter}
use Rattle.sorted_sets.specs.Rising.{IsRising, has, sorted}
use Rattle.sorted_sets.proofs.{Bools.clash, Bools.equal, Bools.or_false_left, Filtering.filter_all, Rising.IsRising-sorted, Rising.turned}
use Rattle.sorted_sets.proofs.Sorting.{deduped}
use Rattle.rdf_term.specs.{declared.triple.Triple.Triple, declared.pattern.Pattern.Pattern}
use Rattle.rdf_term.specs.{Order.bytes_cmp, Order.triple_cmp, Order.triple_cmp-total, Pattern.agrees, Text.triple_text}
use Rattle.rdf_term.proofs.Texts.{triple_cmp-IsAntisymmetric}
use Rattle.text_region.specs.Region.{Texts}
use Rattle.term_pool.specs.{declared.pool.Pool.Pool, Pool.LiesIn}
use Rattle.slot_keys.specs.{declared.key.Key.Key, Keys.key_cmp, Keys.key_cmp-total, Keys.key_cmp-IsAntisymmetric}
use Rattle.slot_index.specs.{declared.pattern.SlotPattern.SlotPattern, Patterns.slots_agree}
use Rattle.slot_keys.proofs.Keyed.{has_key, keys_rising}
use Rattle.slot_index.proofs.Passing.{count-filter, count-map, count_by-cons, has_counted, one_if}
use Rattle.triple_texts.specs.declared.triple_text.TripleText.{TripleText}
use Rattle.triple_catalog.specs.{declared.catalog.Catalog.Catalog, Rows.line_of, Rows.text_cmp}
use Rattle.triple_catalog.specs.Slots.{HasCanonicalTexts, HasTexts, HasTriple, term_in, triple_at, triple_of}
use Rattle.triple_catalog.specs.Stored.{IsStored, image}
use Rattle.triple_catalog.proofs.{Distinct.AreDistinct, Distinct.length-distinct, Live.key_same}
use Rattle.triple_catalog.proofs.{Matched.canonical_at, Matched.count_fewer, Matched.matched, Owners.same_triple}
use Rattle.triple_catalog.proofs.{Storing.canonical_back, Storing.live_stored, Unchanged.mapped_distinct}

-- ---- the triple of three texts

-- it is the triple of the slots that have them
pub row_means : (p : Pool) (r : Texts) (k : Key) (row : TripleText) → HasTexts p r k row → triple_of row ≡ triple_at p r k
unfolding triple_at
row_means p r k row h = λ i. record {
  subject = sym (ap term_in h.subject) i;
  predicate = sym (ap term_in h.predicate) i;
  object = sym (ap term_in h.object) i;
}

-- and the texts are canonical
pub row_canonical : (p : Pool) (r : Texts) (k : Key) (row : TripleText) → LiesIn p r → HasTexts p r k row → HasCanonicalTexts row
row_canonical p r k row lies h = record {
  subject = canonical_at p r k.first row.subject.now lies h.subject;
  predicate = canonical_at p r k.second row.predicate.now lies h.predicate;
  object = canonical_at p r k.third row.object.now lies h.object;
}

-- its line is that of the texts
pub row_line : (row : TripleText) → HasCanonicalTexts row → line_of row ≡ triple_text (triple_of row)
row_line row c =
    let subject = canonical_back row.subject.now c.subject in
    let predicate = canonical_back row.predicate.now c.predicate in
    let object = canonical_back row.object.now c.object in
    λ i. (sym subject i ++ 32 ∷ []) ++ (sym predicate i ++ 32 ∷ []) ++ (sym object i ++ 32 ∷ []) ++ 46 ∷ 10 ∷ []

-- triples are ordered as their texts are
row_order : (a b : TripleText) → HasCanonicalTexts a → HasCanonicalTexts b → triple_cmp (triple_of a) (triple_of b) ≡ text_cmp a b
row_order a b c d = λ i. ordering_then
    (bytes_cmp (canonical_back a.subject.now c.subject i) (canonical_back b.subject.now d.subject i))
    (ordering_then
    (bytes_cmp (canonical_back a.predicate.now c.predicate i) (canonical_back b.predicate.now d.predicate i))
    (bytes_cmp (canonical_back a.object.now c.object i) (canonical_back b.object.now d.object i)))

pub sorted_triples : (rows : List TripleText) → All HasCanonicalTexts rows → IsSorted text_cmp rows → IsSorted triple_cmp (mapped triple_of rows)
sorted_triples [] all s = λ k d low high. absurd (omega (arith, high))
sorted_triples (row ∷ rows) all s = λ k d low high.
    let xs = row ∷ rows in
    let as_long = length-map xs triple_of in
    let next : k + 1 < length xs = omega (arith, high, as_long) in
    let here : k < length xs = omega (arith, next) in
    ap2_lt (get_or-map triple_of xs (k + 1) row d next) (get_or-map triple_of xs k row d here)
    ∙ ap is_lt (row_order _ _ (All-get_or HasCanonicalTexts xs (k + 1) row next all) (All-get_or HasCanonicalTexts xs k row here all))
    ∙ s k row low next
  where
    ap2_lt : {t u v w : Triple} → t ≡ u → v ≡ w → is_lt (triple_cmp t v) ≡ is_lt (triple_cmp u w)
    ap2_lt e f = λ i. is_lt (triple_cmp (e i) (f i))

-- ---- lists without an element that stands there twice

module _ {K : Type 0} {R : K → K → Ordering} (o : IsTotalOrder R) (same : IsAntisymmetric R) where
  none_counted : (n : ℕ) → nat_lt 0 n ≡ false → n ≡ 0
  none_counted zero e = refl
  none_counted (suc n) e = clash (lt-ltb 0 (suc n) (omega arith)) e

  counted_more : (x : K) (xs : List K) (t : K) → has R x xs ≡ false → count_by (eq_by_cmp R t) xs ≤ 1 → (b : Bool) → eq_by_cmp R t x ≡ b → count_by (eq_by_cmp R t) (x ∷ xs) ≤ 1
  counted_more x xs t none few true e =
      let is : t ≡ x = same t x (equal _ e) in
      let zero_more = none_counted (count_by (eq_by_cmp R t) xs) (sym (has_counted R t xs) ∙ ap (λ y. has R y xs) is ∙ none) in
      omega (arith, count_by-cons (eq_by_cmp R t) x xs, ap one_if e, zero_more)
  counted_more x xs t none few false e = omega (arith, count_by-cons (eq_by_cmp R t) x xs, ap one_if e, few)

  -- each is counted once at most
  counted_once : (xs : List K) (t : K) → AreDistinct o same xs → count_by (eq_by_cmp R t) xs ≤ 1
  counted_once [] t d = omega arith
  counted_once (x ∷ xs) t d = counted_more x xs t d.0 (counted_once xs t d.1) (eq_by_cmp R t x) refl

  -- and the other way round
  once_distinct : (xs : List K) → ((t : K) → count_by (eq_by_cmp R t) xs ≤ 1) → AreDistinct o same xs
  once_distinct [] few = tt
  once_distinct (x ∷ xs) few = (
    (let none : count_by (eq_by_cmp R x) xs ≡ 0 = omega (arith, few x, count_by-cons (eq_by_cmp R x) x xs, ap one_if (itself x)) in
        has_counted R x xs ∙ ap (nat_lt 0) none),
    once_distinct xs (λ t. omega (arith, few t, count_by-cons (eq_by_cmp R t) x xs)),
  )
    where
      itself : (x : K) → eq_by_cmp R x x ≡ true
      itself x = ap is_eq (tied_itself o x)

  back : (r : Ordering) → is_eq r ≡ false → is_eq (ordering_reverse r) ≡ false
  back Less e = refl
  back Equal e = e
  back Greater e = refl

  -- nothing is dropped from such a list
  kept_from : (k : K) (xs : List K) → has R k xs ≡ false → AreDistinct o same xs → dedup_from (eq_by_cmp R) k xs ≡ k ∷ xs
  kept_from k [] h d = refl
  kept_from k (x ∷ xs) h d =
      let other : eq_by_cmp R x k ≡ false = ap is_eq (turned o k x _ refl) ∙ back _ (or_false_left (eq_by_cmp R k x) (has R k xs) h) in
      ap (λ b. cond b (dedup_from (eq_by_cmp R) k xs) (k ∷ dedup_from (eq_by_cmp R) x xs)) other
      ∙ ap (λ l. k ∷ l) (kept_from x xs d.0 d.1)

  kept_all : (xs : List K) → AreDistinct o same xs → dedup (eq_by_cmp R) xs ≡ xs
  kept_all [] d = refl
  kept_all (x ∷ xs) d = kept_from x xs d.0 d.1

  -- in order it is the rising list of its elements
  pub distinct_sorted : (xs ys : List K) → IsPermutation xs ys → AreDistinct o same xs → IsSorted R ys → ys ≡ sorted R xs
  distinct_sorted xs ys p d s =
      let once : (t : K) → count_by (eq_by_cmp R t) ys ≤ 1 = λ t. omega (arith, counted_once xs t d, sum_by-IsPermutation (λ x. cond (eq_by_cmp R t x) 1 0) xs ys p) in
      sym (kept_all ys (once_distinct ys once)) ∙ deduped o same xs ys p s

-- ---- the triples of a range

-- what is found is there once
found_once : (st : Catalog) (r : Texts) (w : SlotPattern) (found : List Key) → IsStored st r
    → ((f : Key → Bool) → count_by f found ≡ count_by (λ k. slots_agree w k && f k) (map.keys st.index))
    → AreDistinct triple_cmp-total triple_cmp-IsAntisymmetric (mapped (triple_at st.pool r) found)
found_once st r w found h is =
    let m = triple_at st.pool r in
    let live = live_stored st r h in
    let has_it : (x : Key) → has key_cmp x (map.keys st.index) ≡ true → HasTriple st.pool r x (m x) = λ x e. live.live x (sym (has_key st.index x) ∙ e) in
    let apart = mapped_distinct key_cmp-total key_cmp-IsAntisymmetric triple_cmp-total triple_cmp-IsAntisymmetric m (map.keys st.index) (keys_rising st.index)
    (λ x y a b e. key_same st.pool r x y (m y) h.lies (subst (HasTriple st.pool r x) e (has_it x a)) (has_it y b)) in
    once_distinct triple_cmp-total triple_cmp-IsAntisymmetric (mapped m found) (λ t. omega (
      arith,
      count-map m (same_triple t) found,
      is (λ k. same_triple t (m k)),
      count_fewer (slots_agree w) (λ k. same_triple t (m k)) (map.keys st.index),
      count-map m (same_triple t) (map.keys st.index),
      counted_once triple_cmp-total triple_cmp-IsAntisymmetric (mapped m (map.keys st.index)) t apart,
    ))

module _ (st : Catalog) (r : Texts) (w : SlotPattern) (found : List Key) (before after : List TripleText) (h : IsStored st r)
    (is : (f : Key → Bool) → count_by f found ≡ count_by (λ k. slots_agree w k && f k) (map.keys st.index))
    (means : mapped triple_of before ≡ mapped (triple_at st.pool r) found) (canonical : All HasCanonicalTexts before) (p : IsPermutation before after) (s : IsSorted text_cmp after) where
  in_order : mapped triple_of after ≡ sorted triple_cmp (mapped (triple_at st.pool r) found)
  in_order =
      let m = triple_at st.pool r in
      let same : IsPermutation (mapped m found) (mapped triple_of after) = subst (λ ts. IsPermutation ts (mapped triple_of after)) means (IsPermutation-map triple_of before after p) in
      distinct_sorted triple_cmp-total triple_cmp-IsAntisymmetric (mapped m found) (mapped triple_of after) same (found_once st r w found h is)
      (sorted_triples after (All-permutation HasCanonicalTexts before after p canonical) s)

  -- in order they rise
  pub rows_rising : IsRising triple_cmp (mapped triple_of after)
  rows_rising = subst (IsRising triple_cmp) (sym in_order) (IsRising-sorted triple_cmp-total (mapped (triple_at st.pool r) found))

-- and they are the stored triples that agree with the pattern
pub rows_matched : (st : Catalog) (r : Texts) (pattern : Pattern) (w : SlotPattern) (found : List Key) (before after : List TripleText) → IsStored st r
    → ((k : Key) → map.contains_key st.index k ≡ true → agrees pattern (triple_at st.pool r k) ≡ slots_agree w k)
    → ((f : Key → Bool) → count_by f found ≡ count_by (λ k. slots_agree w k && f k) (map.keys st.index))
    → mapped triple_of before ≡ mapped (triple_at st.pool r) found → All HasCanonicalTexts before → IsPermutation before after → IsSorted text_cmp after
    → mapped triple_of after ≡ filter (agrees pattern) (map.keys (image (triple_at st.pool r) st.index))
rows_matched st r pattern w found before after h alike is means canonical p s =
    in_order st r w found before after h is means canonical p s ∙ matched st.pool r st.index pattern w found alike is

-- they are as many as the keys that agree with the pattern of slots
pub rows_counted : (st : Catalog) (r : Texts) (pattern : Pattern) (w : SlotPattern) → IsStored st r → ((k : Key) → map.contains_key st.index k ≡ true → agrees pattern (triple_at st.pool r k) ≡ slots_agree w k)
    → count_by (slots_agree w) (map.keys st.index) ≡ length (filter (agrees pattern) (map.keys (image (triple_at st.pool r) st.index)))
rows_counted st r pattern w h alike =
    let m = triple_at st.pool r in
    let found = filter (slots_agree w) (map.keys st.index) in
    let is : (f : Key → Bool) → count_by f found ≡ count_by (λ k. slots_agree w k && f k) (map.keys st.index) = λ f. count-filter (slots_agree w) f (map.keys st.index) in
    sym (length-filter (slots_agree w) (map.keys st.index))
    ∙ sym (length-map found m)
    ∙ sym (length-distinct triple_cmp-total triple_cmp-IsAntisymmetric (mapped m found) (found_once st r w found h is))
    ∙ ap length (matched st.pool r st.index pattern w found alike is)

-- ---- all triples

-- no term is wanted
abbrev pub free : Pattern
free = record { subject = None; predicate = None; object = None }

abbrev pub every : SlotPattern
every = record { first = None; second = None; third = None }

every_agrees : (st : Catalog) (r : Texts) (k : Key) → map.contains_key st.index k ≡ true → agrees free (triple_at st.pool r k) ≡ slots_agree every k
every_agrees st r k there = refl

module _ (st : Catalog) (r : Texts) (found : List Key) (h : IsStored st r) (is : (f : Key → Bool) → count_by f found ≡ count_by (λ k. slots_agree every k && f k) (map.keys st.index)) where
  -- the triples of the keys in order are all that are stored
  pub every_row : (after : List Triple) → IsPermutation (mapped (triple_at st.pool r) found) after → IsSorted triple_cmp after → after ≡ map.keys (image (triple_at st.pool r) st.index)
  every_row after p s =
      distinct_sorted triple_cmp-total triple_cmp-IsAntisymmetric (mapped (triple_at st.pool r) found) after p (found_once st r every found h is) s
      ∙ matched st.pool r st.index free every found (every_agrees st r) is ∙ filter_all (agrees free) (map.keys (image (triple_at st.pool r) st.index)) (λ _. refl)

  -- and rise
  pub every_rises : (after : List Triple) → IsPermutation (mapped (triple_at st.pool r) found) after → IsSorted triple_cmp after → IsRising triple_cmp after
  every_rises after p s = subst (IsRising triple_cmp) (sym (every_row after p s)) (keys_rising (image (triple_at st.pool r) st.index))

  -- by their texts too
  pub every_by_texts : (before after : List TripleText) → mapped triple_of before ≡ mapped (triple_at st.pool r) found → All HasCanonicalTexts before → IsPermutation before after → IsSorted text_cmp after → mapped triple_of after ≡ map.keys (image (triple_at st.pool r) st.index)
  every_by_texts before after means canonical p s =
      rows_matched st r free every found before after h (every_agrees st r) is means canonical p s ∙ filter_all (agrees free) (map.keys (image (triple_at st.pool r) st.index)) (λ _. refl)
