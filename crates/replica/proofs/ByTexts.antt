-- Triples by their texts: what stands at an index, their order and their lines.
use Rattle.std.proofs.Common.{◌≡◌, ◌↔◌, ℕ, zero, suc, ◌+◌, ◌-◌, ◌<◌, ◌≤◌, true, false, List, [], ◌∷◌, ◌++◌, length, take, get_or, flat_map, Some, IfSome, Less, Equal, Greater, is_eq, is_lt, refl, sym, ◌∙◌, ap, subst, arith, append_assoc, append-nil, ⊎_elim}
use Rattle.std.specs.{List.AllByRecursion, List.slice_get, Ordering.eq_by_cmp}
use Rattle.std.proofs.{lemmas.Bool.cases_lt, lemmas.Grind.flat_map-append, lemmas.List.take_more}
use Rattle.std.proofs.lemmas.List.Elements.{All-from_get_or}
use Rattle.std.proofs.lemmas.List.Folds.{list_any_at, list_any_none}
use Rattle.std.proofs.lemmas.Map.Keys.{Less-from_sorted}
use Rattle.sorted_sets.specs.Rising.{IsRising, has}
use Rattle.sorted_sets.proofs.{Rising.turned, Sorting.IsStrictlySortedBy-from_rising}
use Rattle.rdf_term.specs.{declared.triple.Triple.Triple, Order.triple_cmp, Order.triple_cmp-total, Text.triple_text}
use Rattle.rdf_term.proofs.Texts.{same_text}
use Rattle.triple_sink.specs.TermRef.{meant}
use Rattle.triple_texts.specs.{declared.triple_text.TripleText.TripleText, Texts.IsTextOf}
use Rattle.replica.specs.{declared.reader.Begun.Begun, declared.reader.PatchFault.PatchFault}
use Rattle.replica.specs.declared.reader.PatchFault.TheVariants.{Head as NoHead, Triple as NoTriple, Order as OutOfOrder, OutOfMemory}
use Rattle.replica.specs.{Reader.HasCause, Reader.IsCauseBy, Reader.is_next, Reader.text_cmp, Record.text_line}
use Rattle.replica.specs.{declared.triple_line.TripleRef.TripleRef, TripleLine.AreTermTexts, TripleLine.HasReadableTerms, TripleLine.IsTermText, TripleLine.IsTripleLine, TripleLine.borrowed}
use Rattle.replica.proofs.Records.{is_next_by_last}

-- ---- what stands at an index

pub at_slice : (xs : List Triple) (i : ℕ) (x d : Triple) → slice_get xs i ≡ Some x → get_or xs i d ≡ x
at_slice [] i x d h = cc
at_slice (y ∷ ys) zero x d h = let same : y ≡ x = cc in same
at_slice (y ∷ ys) (suc i) x d h = at_slice ys i x d h

-- the triple at an index, whose texts these are
pub record IsAt (xs : List Triple) (i : ℕ) (texts : TripleText) : Type 0 where
  pub triple : Triple
  pub at : slice_get xs i ≡ Some triple
  pub texts_are : IsTextOf texts triple

pub triple_at : (xs : List Triple) (i : ℕ) (texts : TripleText) → i < length xs → IfSome (slice_get xs i) (IsTextOf texts) → IsAt xs i texts
triple_at [] i texts low is = absurd (omega (arith, low))
triple_at (x ∷ xs) zero texts low is = record { triple = x; at = refl; texts_are = is }
triple_at (x ∷ xs) (suc i) texts low is = let later = triple_at xs i texts (omega (arith, low)) is in record { triple = later.triple; at = later.at; texts_are = later.texts_are }

readable_at : (xs : List Triple) (i : ℕ) (x : Triple) → slice_get xs i ≡ Some x → AllByRecursion HasReadableTerms xs → HasReadableTerms x
readable_at [] i x at all = cc
readable_at (y ∷ ys) zero x at all = let same : y ≡ x = cc in subst HasReadableTerms same all.0
readable_at (y ∷ ys) (suc i) x at all = readable_at ys i x at all.1

pub term_texts : (xs : List Triple) (i : ℕ) (texts : TripleText) (is : IsAt xs i texts) → AllByRecursion HasReadableTerms xs → AreTermTexts texts is.triple
term_texts xs i texts is all =
    let readable = readable_at xs i is.triple is.at all in
    record {
      subject_is = record { text = is.texts_are.subject; readable = readable.subject };
      predicate_is = record { text = is.texts_are.predicate; readable = readable.predicate };
      object_is = record { text = is.texts_are.object; readable = readable.object };
    }

pub texts_of : (texts : TripleText) (triple : Triple) → AreTermTexts texts triple → IsTextOf texts triple
texts_of texts triple is = record { subject = is.subject_is.text; predicate = is.predicate_is.text; object = is.object_is.text }

pub readable_of : (texts : TripleText) (triple : Triple) → AreTermTexts texts triple → HasReadableTerms triple
readable_of texts triple is = record { subject = is.subject_is.readable; predicate = is.predicate_is.readable; object = is.object_is.readable }

-- what is borrowed of a triple has its texts
pub borrowed_is : (texts : TripleText) (lent : TripleRef) (triple : Triple) → meant lent.subject ≡ triple.subject → meant lent.predicate ≡ triple.predicate → meant lent.object ≡ triple.object → AreTermTexts texts triple →
    AreTermTexts texts (borrowed lent)
borrowed_is texts lent triple subject predicate object is = record {
  subject_is = subst (IsTermText texts.subject.now) (sym subject) is.subject_is;
  predicate_is = subst (IsTermText texts.predicate.now) (sym predicate) is.predicate_is;
  object_is = subst (IsTermText texts.object.now) (sym object) is.object_is;
}

-- texts are those of one triple
pub only_triple : (texts : TripleText) (a b : Triple) → AreTermTexts texts a → AreTermTexts texts b → a ≡ b
only_triple texts a b is other =
    let subject = same_text a.subject b.subject (sym is.subject_is.text ∙ other.subject_is.text) in
    let predicate = same_text a.predicate b.predicate (sym is.predicate_is.text ∙ other.predicate_is.text) in
    let object = same_text a.object b.object (sym is.object_is.text ∙ other.object_is.text) in
    λ i. record { subject = subject i; predicate = predicate i; object = object i }

-- a list with the triples so far, and one more
pub one_more_read : (xs list next : List Triple) (i : ℕ) (texts : TripleText) (found : Triple) → i < length xs → AllByRecursion HasReadableTerms xs → IfSome (slice_get xs i) (IsTextOf texts) → AreTermTexts texts found →
    list ≡ take i xs → next ≡ list ++ found ∷ [] → next ≡ take (i + 1) xs
one_more_read xs list next i texts found low all is read so_far more =
    let at = triple_at xs i texts low is in
    more ∙ ap (λ l. l ++ found ∷ []) so_far
    ∙ ap (λ x. take i xs ++ x ∷ []) (only_triple texts found at.triple read (term_texts xs i texts at all) ∙ sym (at_slice xs i at.triple found at.at))
    ∙ sym (take_more xs i found low)

-- ---- lines

line_is : (texts : TripleText) (triple : Triple) → IsTextOf texts triple → text_line texts ≡ triple_text triple
line_is texts triple is = rw (is.subject, is.predicate, is.object) refl

pub one_more_line : (old now next : List ℕ) (xs : List Triple) (i : ℕ) (texts : TripleText) → i < length xs → IfSome (slice_get xs i) (IsTextOf texts) →
    now ≡ old ++ flat_map triple_text (take i xs) → next ≡ now ++ text_line texts → next ≡ old ++ flat_map triple_text (take (i + 1) xs)
one_more_line old now next xs i texts low is so_far more =
    let at = triple_at xs i texts low is in
    let front = flat_map triple_text (take i xs) in
    let lines : flat_map triple_text (take (i + 1) xs) ≡ front ++ triple_text at.triple =
    ap (flat_map triple_text) (take_more xs i at.triple low ∙ ap (λ x. take i xs ++ x ∷ []) (at_slice xs i at.triple at.triple at.at))
    ∙ flat_map-append triple_text (take i xs) (at.triple ∷ []) ∙ ap (λ l. front ++ l) (append-nil (triple_text at.triple)) in
    more ∙ ap (λ l. l ++ text_line texts) so_far ∙ append_assoc old front (text_line texts) ∙ ap (λ l. old ++ (front ++ l)) (line_is texts at.triple at.texts_are) ∙ ap (λ l. old ++ l) (sym lines)

-- ---- order

order_is : (a b : TripleText) (x y : Triple) → IsTextOf a x → IsTextOf b y → text_cmp a b ≡ triple_cmp x y
order_is a b x y is other = rw (is.subject, is.predicate, is.object, other.subject, other.predicate, other.object) refl

-- the last triple decides
pub next_by_texts : (xs : List Triple) (last texts : TripleText) (triple : Triple) → 0 < length xs → IfSome (slice_get xs (length xs - 1)) (IsTextOf last) → IsTextOf texts triple →
    is_lt (text_cmp last texts) ≡ is_next xs triple
next_by_texts xs last texts triple some is other =
    let at = triple_at xs (length xs - 1) last (omega (arith, some)) is in
    ap is_lt (order_is last texts at.triple triple at.texts_are other) ∙ sym (is_next_by_last xs at.triple triple (sym at.at))

pub none_before : (xs : List Triple) (triple : Triple) → length xs ≡ 0 → is_next xs triple ≡ true
none_before [] triple none = refl
none_before (x ∷ xs) triple none = absurd (omega (arith, none))

-- ---- a search by halves

-- before the first index are lower triples, and from the second on greater ones
pub record IsBetween (xs : List Triple) (triple : Triple) (low high : ℕ) : Type 0 where
  pub less : (i : ℕ) (d : Triple) → i < low → triple_cmp (get_or xs i d) triple ≡ Less
  pub greater : (i : ℕ) (d : Triple) → high ≤ i → i < length xs → triple_cmp (get_or xs i d) triple ≡ Greater

pub whole_between : (xs : List Triple) (triple : Triple) → IsBetween xs triple 0 (length xs)
whole_between xs triple = record { less = λ i d low. absurd (omega (arith, low)); greater = λ i d from low. absurd (omega (arith, from, low)) }

module _ (xs : List Triple) (middle : ℕ) (here texts : TripleText) (triple : Triple) (rising : IsRising triple_cmp xs) (within : middle < length xs) (is : IfSome (slice_get xs middle) (IsTextOf here)) (other : IsTextOf texts triple) where
  order_here : (d : Triple) → triple_cmp (get_or xs middle d) triple ≡ text_cmp here texts
  order_here d =
      let at = triple_at xs middle here within is in
      ap (λ x. triple_cmp x triple) (at_slice xs middle at.triple d at.at) ∙ sym (order_is here texts at.triple triple at.texts_are other)

  rises : (i j : ℕ) (d : Triple) → i < j → j < length xs → triple_cmp (get_or xs i d) (get_or xs j d) ≡ Less
  rises i j d before low = Less-from_sorted triple_cmp xs i j d (IsStrictlySortedBy-from_rising triple_cmp xs rising) before low

  pub from_here : (low high : ℕ) → text_cmp here texts ≡ Less → IsBetween xs triple low high → IsBetween xs triple (middle + 1) high
  from_here low high lower between = record {
    less = λ i d before. ⊎_elim
        (λ lower_still. triple_cmp-total.trans (get_or xs i d) (get_or xs middle d) triple (rises i middle d lower_still within) (order_here d ∙ lower))
        (λ not_lower. let same : i ≡ middle = omega (arith, before, not_lower) in subst (λ n. triple_cmp (get_or xs n d) triple ≡ Less) (sym same) (order_here d ∙ lower))
        (cases_lt i middle);
    greater = between.greater;
  }

  pub up_to_here : (low high : ℕ) → text_cmp here texts ≡ Greater → IsBetween xs triple low high → IsBetween xs triple low middle
  up_to_here low high higher between = record {
    less = between.less;
    greater = λ i d from l. ⊎_elim
        (λ behind.
        turned triple_cmp-total triple (get_or xs i d) Less
        (triple_cmp-total.trans triple (get_or xs middle d) (get_or xs i d) (turned triple_cmp-total (get_or xs middle d) triple Greater (order_here d ∙ higher)) (rises middle i d behind l)))
        (λ not_behind. let same : i ≡ middle = omega (arith, from, not_behind) in subst (λ n. triple_cmp (get_or xs n d) triple ≡ Greater) (sym same) (order_here d ∙ higher))
        (cases_lt middle i);
  }

  pub found_here : text_cmp here texts ≡ Equal → has triple_cmp triple xs ≡ true
  found_here same = list_any_at (eq_by_cmp triple_cmp triple) xs middle triple within (ap is_eq (turned triple_cmp-total (get_or xs middle triple) triple Equal (order_here triple ∙ same)))

pub not_found : (xs : List Triple) (triple : Triple) (low high : ℕ) → high ≤ low → IsBetween xs triple low high → has triple_cmp triple xs ≡ false
not_found xs triple low high met between =
    list_any_none (eq_by_cmp triple_cmp triple) xs (All-from_get_or (λ x. eq_by_cmp triple_cmp triple x ≡ false) xs triple (λ i l. ⊎_elim
    (λ before. ap is_eq (turned triple_cmp-total (get_or xs i triple) triple Less (between.less i triple before)))
    (λ from. ap is_eq (turned triple_cmp-total (get_or xs i triple) triple Greater (between.greater i triple (omega (arith, met, from)) l)))
    (cases_lt i low)))

-- ---- why a line is refused

pub cause_of : (fault : PatchFault) (begun : Begun) (line : List ℕ) (texts : TripleText) → ((triple : Triple) → IsTripleLine line triple ↔ AreTermTexts texts triple) → IsCauseBy fault begun texts → HasCause fault (Some begun) line
cause_of NoHead begun line texts split h = absurd h
cause_of NoTriple begun line texts split h = (λ e. cc, λ triple is. h triple ((split triple).0 is))
cause_of OutOfOrder begun line texts split h = (h.0, (split h.0).1 h.1, h.2)
cause_of OutOfMemory begun line texts split h = tt
