-- Rows by the ranks of their subjects are ordered as their triples.
use Rattle.std.proofs.Common.{◌≡◌, ℕ, ◌+◌, ◌-◌, ◌<◌, ◌≤◌, true, false, cond, ◌||◌, List, [], ◌∷◌, ◌++◌, length, take, get_or, Some, Option, Ordering, Less, Equal, Greater, is_eq, is_lt, refl, sym, ◌∙◌, ap, subst, arith, lt-ltb, ⊎_elim}
use Rattle.std.specs.Prelude.{map, ◌==◌, option_map, slice_get, unwrap_or, IfSome}
use Rattle.std.specs.{Cmp.nat_cmp_total, Cmp.Lexicographic.nat_list_cmp_total, List.All}
use Rattle.std.specs.{FinMap.nat_cmp-IsAntisymmetric, FinMap.slice_cmp-IsAntisymmetric}
use Rattle.std.specs.List.Sorted.{IsPermutation, IsSorted, IsPartitionPoint, IsPartitionedBy}
use Rattle.std.specs.Ordering.{eq_by_cmp, nat_cmp, ordering_index, ordering_then}
use Rattle.std.proofs.{lemmas.Bool.cases_lt, lemmas.Bool.cases_order, lemmas.Bool.false≢true, lemmas.Cmp.tied_itself}
use Rattle.std.proofs.lemmas.List.{get_or-map, length-map, map-append, take_more}
use Rattle.std.proofs.{lemmas.List.Elements.All-push, lemmas.List.Folds.Any-from_list_any}
use Rattle.std.proofs.lemmas.Option.{slice_get-get_or, slice_get-map}
use Rattle.std.proofs.lemmas.List.Sorted.{IsPermutation-map, list_any-IsPermutation, ranks_by, searchable_from_sorted, sorted_far}
use Rattle.sorted_sets.specs.Rising.{has}
use Rattle.sorted_sets.proofs.{Bools.equal, Bools.or_true, Rising.has-append, Rising.turned}
use Rattle.rdf_term.specs.declared.term.Term.{Term}
use Rattle.rdf_term.specs.declared.term.Term.TheVariants.{Blank}
use Rattle.rdf_term.specs.{declared.triple.Triple.Triple, Order.bytes_cmp, Order.triple_cmp, Text.term_text, Undo.undo}
use Rattle.rdf_term.proofs.Texts.{undo-term_text}
use Rattle.triple_texts.specs.declared.triple_text.TripleText.{TripleText}
use Rattle.triple_texts.specs.Texts.{IsTextOf, RepeatsSubject}
use Rattle.page_parts.specs.declared.row.Row.{Row}
use Rattle.page_parts.specs.declared.subjects.SubjectText.{SubjectText}
use Rattle.page_parts.specs.Row.{HasCanonicalTexts, IsFirst, IsRanked, row_cmp, row_triple, subject_cmp, subject_texts}
use Rattle.page_parts.specs.Rows.{HaveSubjects, IsRankAt}

pub some_same : {A : Type 0} (x y : A) → Some x ≡ Some y → x ≡ y
some_same x y e = ap (λ o. unwrap_or o x) e

-- a place below another one is compared so
place_less : (i j : ℕ) → i < j → nat_cmp i j ≡ Less
place_less i j l = ap (λ b. cond b Less (cond (i == j) Equal Greater)) (lt-ltb i j l)

-- the first places of texts are ordered as the texts
place_order : (texts : List (List ℕ)) (i j : ℕ) (s t : List ℕ) → IsFirst texts i s → IsFirst texts j t → nat_cmp i j ≡ bytes_cmp s t
place_order texts i j s t h k = ⊎_elim
    (λ (same : i ≡ j).
    let one : s ≡ t = some_same s t (sym h.there ∙ ap (slice_get texts) same ∙ k.there) in
    ap (nat_cmp i) (sym same) ∙ tied_itself nat_cmp_total i ∙ sym (tied_itself nat_list_cmp_total s) ∙ ap (bytes_cmp s) one)
    (λ other. ⊎_elim
    (λ (l : i < j). place_less i j l ∙ sym (k.below i s l h.there))
    (λ (g : j < i). turned nat_cmp_total j i Less (place_less j i g) ∙ sym (turned nat_list_cmp_total t s Less (h.below j t g k.there)))
    other)
    (cases_order i j)

-- so rows are ordered as their triples
pub rows_ordered : (texts : List (List ℕ)) (a b : Row) → IsRanked texts a → IsRanked texts b → row_cmp a b ≡ triple_cmp (row_triple a) (row_triple b)
rows_ordered texts a b h k =
    let place = place_order texts a.rank b.rank a.texts.subject.now b.texts.subject.now h.place k.place in
    (λ i. ordering_then (place i) (ordering_then (bytes_cmp a.texts.predicate.now b.texts.predicate.now) (bytes_cmp a.texts.object.now b.texts.object.now)))
    ∙ (λ i. ordering_then
    (bytes_cmp (sym h.canonical.subject i) (sym k.canonical.subject i))
    (ordering_then
    (bytes_cmp (sym h.canonical.predicate i) (sym k.canonical.predicate i))
    (bytes_cmp (sym h.canonical.object i) (sym k.canonical.object i))))

-- the texts of a row that are those of a triple are canonical, and mean it
module _ (rank : ℕ) (texts : TripleText) (t : Triple) (h : IsTextOf texts t) where
  pub row_means : row_triple (record { rank = rank; texts = texts }) ≡ t
  row_means =
      let subject = ap undo h.subject ∙ undo-term_text t.subject in
      let predicate = ap undo h.predicate ∙ undo-term_text t.predicate in
      let object = ap undo h.object ∙ undo-term_text t.object in
      λ i. record { subject = subject i; predicate = predicate i; object = object i }

  back : (text : List ℕ) (term : Term) → text ≡ term_text term → term_text (undo text) ≡ text
  back text term e = ap (λ x. term_text (undo x)) e ∙ ap term_text (undo-term_text term) ∙ sym e

  pub row_canonical : HasCanonicalTexts (record { rank = rank; texts = texts })
  row_canonical = record {
    subject = back texts.subject.now t.subject h.subject;
    predicate = back texts.predicate.now t.predicate h.predicate;
    object = back texts.object.now t.object h.object;
  }

-- ---- where a text stands first

abbrev text_of : SubjectText → List ℕ
text_of subject = subject.text.now

less_at_none : (r : Ordering) → is_lt r ≡ true → ordering_index r ≡ 0
less_at_none Less e = refl
less_at_none Equal e = absurd (false≢true e)
less_at_none Greater e = absurd (false≢true e)

none_is_less : (r : Ordering) → ordering_index r ≤ 0 → is_lt r ≡ true
none_is_less Less l = refl
none_is_less Equal l = absurd (omega (arith, l))
none_is_less Greater l = absurd (omega (arith, l))

less : (r : Ordering) → is_lt r ≡ true → r ≡ Less
less Less e = refl
less Equal e = absurd (false≢true e)
less Greater e = absurd (false≢true e)

-- the subjects below a text come before the others
pub parted : (subjects : List SubjectText) (text : List ℕ) → IsSorted subject_cmp subjects → IsPartitionedBy (λ (s : SubjectText). is_lt (bytes_cmp s.text.now text)) subjects
parted subjects text sorted i j d before low below =
    let far = searchable_from_sorted nat_list_cmp_total text_of subjects text sorted i j d before low in
    none_is_less _ (omega (arith, far, less_at_none _ below))

-- a text that isn't below another, nor that below it, is the other
texts_same : (a t : List ℕ) → is_lt (bytes_cmp a t) ≡ false → is_lt (bytes_cmp t a) ≡ false → a ≡ t
texts_same a t h k = by (bytes_cmp a t) refl
  where
    by : (r : Ordering) → bytes_cmp a t ≡ r → a ≡ t
    by Less e = absurd (false≢true (sym h ∙ ap is_lt e))
    by Equal e = slice_cmp-IsAntisymmetric nat_cmp-IsAntisymmetric a t e
    by Greater e = absurd (false≢true (sym k ∙ ap is_lt (turned nat_list_cmp_total a t Greater e)))

-- where a text is among subjects in order, it stands first behind those that are below it
module _ (x : SubjectText) (rest : List SubjectText) (text : List ℕ) (place : ℕ) (sorted : IsSorted subject_cmp (x ∷ rest)) where
  abbrev subjects : List SubjectText
  subjects = x ∷ rest

  abbrev at : ℕ → List ℕ
  at k = text_of (get_or subjects k x)

  text_at : (k : ℕ) → k < length subjects → slice_get (subject_texts subjects) k ≡ Some (at k)
  text_at k l = slice_get-map text_of subjects k ∙ ap (option_map text_of) (slice_get-get_or subjects k x l)

  module _ (within : place ≤ length subjects)
      (low : (k : ℕ) → k < place → is_lt (bytes_cmp (at k) text) ≡ true) (high : (k : ℕ) → place ≤ k → k < length subjects → is_lt (bytes_cmp (at k) text) ≡ false)
      (i : ℕ) (i_within : i < length subjects) (i_is : at i ≡ text) where
    itself_not_less : is_lt (bytes_cmp (at i) text) ≡ false
    itself_not_less = ap (λ t. is_lt (bytes_cmp t text)) i_is ∙ ap is_lt (tied_itself nat_list_cmp_total text)

    behind : place ≤ i
    behind = ⊎_elim (λ (l : i < place). absurd (false≢true (sym itself_not_less ∙ low i l))) (λ (g : place ≤ i). g) (cases_lt i place)

    place_within : place < length subjects
    place_within = omega (arith, behind, i_within)

    same_text : at place ≡ text
    same_text =
        let far = sorted_far (λ a b. is_lt (subject_cmp a b)) (ranks_by nat_list_cmp_total text_of) subjects sorted place i x behind i_within in
        texts_same (at place) text (high place (omega arith) place_within) (ap (λ t. is_lt (bytes_cmp t (at place))) (sym i_is) ∙ far)

    first_there : IsFirst (subject_texts subjects) place text
    first_there = record {
      there = text_at place place_within ∙ ap Some same_text;
      below = λ k other l e. ap (λ t. bytes_cmp t text) (some_same other (at k) (sym e ∙ text_at k (omega (arith, l, place_within)))) ∙ less _ (low k l);
    }

pub first_place : (subjects : List SubjectText) (text : List ℕ) (place : ℕ) → IsSorted subject_cmp subjects → place ≤ length subjects
    → IsPartitionPoint (λ (s : SubjectText). is_lt (bytes_cmp s.text.now text) ≡ true) (λ (s : SubjectText). is_lt (bytes_cmp s.text.now text) ≡ false) subjects place
    → has bytes_cmp text (subject_texts subjects) ≡ true → IsFirst (subject_texts subjects) place text
first_place [] text place sorted within point there = absurd (false≢true there)
first_place (x ∷ rest) text place sorted within point there =
    let found = Any-from_list_any (eq_by_cmp bytes_cmp text) (subject_texts (x ∷ rest)) there in
    let i = found.0 in
    let i_within : i < length (x ∷ rest) = omega (arith, found.2, length-map (x ∷ rest) text_of) in
    let here : get_or (subject_texts (x ∷ rest)) i found.1 ≡ text_of (get_or (x ∷ rest) i x) = get_or-map text_of (x ∷ rest) i x found.1 i_within in
    let is : text ≡ found.1 = slice_cmp-IsAntisymmetric nat_cmp-IsAntisymmetric text found.1 (equal _ found.4) in
    first_there x rest text place sorted within (λ k l. point.0 k x (omega arith) l) (λ k g l. point.1 k x g l) i i_within (sym here ∙ found.3 ∙ sym is)

-- ---- subjects one after the other

-- more texts still have the subjects
pub subjects_kept : (texts more : List (List ℕ)) (triples : List Triple) (count : ℕ) → ((text : List ℕ) → has bytes_cmp text texts ≡ true → has bytes_cmp text more ≡ true) → HaveSubjects texts triples count → HaveSubjects more triples count
subjects_kept texts more triples count keeps all k t l e = keeps (term_text t.subject) (all k t l e)

-- so does a list of them in another order
pub subjects_moved : (before after : List SubjectText) (triples : List Triple) (count : ℕ) → IsPermutation before after → HaveSubjects (subject_texts before) triples count → HaveSubjects (subject_texts after) triples count
subjects_moved before after triples count moved =
    subjects_kept (subject_texts before) (subject_texts after) triples count
    (λ text there. sym (list_any-IsPermutation (eq_by_cmp bytes_cmp text) (subject_texts before) (subject_texts after) (IsPermutation-map text_of before after moved)) ∙ there)

-- a subject that is that of the triple before it is among them
pub subject_again : (texts : List (List ℕ)) (triples : List Triple) (index : ℕ) → RepeatsSubject triples index → HaveSubjects texts triples index → HaveSubjects texts triples (index + 1)
subject_again texts triples index again all k t l e = ⊎_elim
    (λ (before : k < index). all k t before e)
    (λ (here : index ≤ k).
    let is : k ≡ index = omega (arith, here, l) in
    let this : t ≡ again.this = some_same t again.this (sym e ∙ ap (slice_get triples) is ∙ again.is_this) in
    ap (λ (u : Triple). has bytes_cmp (term_text u.subject) texts) this ∙ ap (λ s. has bytes_cmp (term_text s) texts) again.same ∙ all (index - 1) again.before (omega (arith, again.later)) again.is_before)
    (cases_lt k index)

-- so is one that is pushed
pub pushed_kept : (before after : List SubjectText) (s : SubjectText) → after ≡ before ++ s ∷ [] → (text : List ℕ) → has bytes_cmp text (subject_texts before) ≡ true → has bytes_cmp text (subject_texts after) ≡ true
pushed_kept before after s pushed text there =
    ap (λ l. has bytes_cmp text (subject_texts l)) pushed
    ∙ ap (has bytes_cmp text) (map-append text_of before (s ∷ []))
    ∙ has-append bytes_cmp text (subject_texts before) (text_of s ∷ [])
    ∙ ap (λ b. b || has bytes_cmp text (text_of s ∷ [])) there

pub subject_pushed : (before after : List SubjectText) (s : SubjectText) (triples : List Triple) (index : ℕ) (texts : TripleText) → after ≡ before ++ s ∷ [] → s.text.now ≡ texts.subject.now → IfSome (slice_get triples index) (IsTextOf texts)
    → HaveSubjects (subject_texts before) triples index → HaveSubjects (subject_texts after) triples (index + 1)
subject_pushed before after s triples index texts pushed same text_is all k t l e = ⊎_elim
    (λ (lower : k < index). pushed_kept before after s pushed (term_text t.subject) (all k t lower e))
    (λ (here : index ≤ k).
    let is : k ≡ index = omega (arith, here, l) in
    let its : IsTextOf texts t = subst (λ (o : Option Triple). IfSome o (IsTextOf texts)) (ap (slice_get triples) (sym is) ∙ e) text_is in
    ap (λ l. has bytes_cmp (term_text t.subject) (subject_texts l)) pushed
    ∙ ap (has bytes_cmp (term_text t.subject)) (map-append text_of before (s ∷ []))
    ∙ has-append bytes_cmp (term_text t.subject) (subject_texts before) (text_of s ∷ [])
    ∙ or_true (has bytes_cmp (term_text t.subject) (subject_texts before)) _
    (ap (λ x. eq_by_cmp bytes_cmp x (text_of s) || false) (sym its.subject ∙ sym same) ∙ ap (λ r. is_eq r || false) (tied_itself nat_list_cmp_total (text_of s))))
    (cases_lt k index)

-- ---- ranks one after the other

pub rank_again : (texts : List (List ℕ)) (triples : List Triple) (index rank : ℕ) → RepeatsSubject triples index → ((k : ℕ) → k + 1 ≡ index → IsRankAt texts triples k rank) → IsRankAt texts triples index rank
rank_again texts triples index rank again before t e =
    let this : t ≡ again.this = some_same t again.this (sym e ∙ again.is_this) in
    let first = before (index - 1) (omega (arith, again.later)) again.before again.is_before in
    subst (λ s. IsFirst texts rank (term_text s)) (sym again.same ∙ ap (λ (u : Triple). u.subject) (sym this)) first

pub rank_found : (texts : List (List ℕ)) (triples : List Triple) (index rank : ℕ) (row : TripleText) → IfSome (slice_get triples index) (IsTextOf row) → IsFirst texts rank row.subject.now → IsRankAt texts triples index rank
rank_found texts triples index rank row text_is first t e =
    let its : IsTextOf row t = subst (λ (o : Option Triple). IfSome o (IsTextOf row)) e text_is in
    subst (λ s. IsFirst texts rank s) its.subject first

-- the subject of the triple at an index is among the texts
pub subject_there : (texts : List (List ℕ)) (triples : List Triple) (index : ℕ) (row : TripleText) → index < length triples → IfSome (slice_get triples index) (IsTextOf row) → HaveSubjects texts triples (length triples) → has bytes_cmp row.subject.now texts ≡ true
subject_there texts triples index row within text_is all =
    let d : Triple = record { subject = Blank []; predicate = Blank []; object = Blank [] } in
    let here = slice_get-get_or triples index d within in
    let its : IsTextOf row (get_or triples index d) = subst (λ (o : Option Triple). IfSome o (IsTextOf row)) here text_is in
    ap (λ s. has bytes_cmp s texts) its.subject ∙ all index (get_or triples index d) within here

-- one row more
module _ (texts : List (List ℕ)) (triples : List Triple) (index rank : ℕ) (row : TripleText) (rows after : List Row) (within : index < length triples) (text_is : IfSome (slice_get triples index) (IsTextOf row)) (at_rank : IsRankAt texts triples index rank)
    (pushed : after ≡ rows ++ record { rank = rank; texts = row } ∷ []) where
  abbrev default : Triple
  default = record { subject = Blank []; predicate = Blank []; object = Blank [] }

  abbrev here : Triple
  here = get_or triples index default

  its : IsTextOf row here
  its = subst (λ (o : Option Triple). IfSome o (IsTextOf row)) (slice_get-get_or triples index default within) text_is

  pub rows_more : map row_triple rows ≡ take index triples → map row_triple after ≡ take (index + 1) triples
  rows_more so_far =
      ap (map row_triple) pushed ∙ map-append row_triple rows (record { rank = rank; texts = row } ∷ [])
      ∙ ap (λ l. l ++ row_triple (record { rank = rank; texts = row }) ∷ []) so_far
      ∙ ap (λ t. take index triples ++ t ∷ []) (row_means rank row here its)
      ∙ sym (take_more triples index default within)

  pub ranked_more : All (IsRanked texts) rows → All (IsRanked texts) after
  ranked_more all = subst (All (IsRanked texts)) (sym pushed) (All-push (IsRanked texts) rows (record { rank = rank; texts = row }) all (record {
    place = subst (IsFirst texts rank) (sym its.subject) (at_rank here (slice_get-get_or triples index default within));
    canonical = row_canonical rank row here its;
  }))
