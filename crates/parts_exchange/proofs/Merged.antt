-- The least of two rising lists comes first, and its line is the first of one of the texts.
use Rattle.std.proofs.Common.{◌≡◌, ◌≢◌, ℕ, zero, suc, ◌+◌, ◌-◌, ◌<◌, ◌≤◌, Bool, true, false, ◌||◌, ◌⊎◌, ⊎_elim, List, [], ◌∷◌, ◌++◌, length, take, drop, get_or, flat_map, Less, Equal, Greater, refl, sym, ◌∙◌, ap, subst, arith, append-nil, append_assoc}
use Rattle.std.specs.{Ordering.eq_by_cmp, Ordering.match_ordering}
use Rattle.std.specs.BTreeSet.{insert_key}
use Rattle.std.specs.Prelude.{◌==◌, slice_index}
use Rattle.std.proofs.lemmas.Bool.{cases_order}
use Rattle.std.proofs.lemmas.List.{get_or_append_left, get_or_at, length-append}
use Rattle.std.proofs.Math.Seq.{drop-append_seam, take-append_seam}
use Rattle.sorted_sets.specs.Rising.{Above, IsRising, has, sorted}
use Rattle.sorted_sets.proofs.{Bools.clash, Bools.or_false_left, Bools.or_false_right, Bools.or_swap, Filtering.Above-append, Rising.Above-weaken, Rising.has-append, Rising.sorted_same, Rising.turned}
use Rattle.wq_io.specs.Lines.{IsOneLine}
use Rattle.rdf_term.specs.{declared.triple.Triple.Triple, Order.bytes_cmp, Order.triple_cmp, Order.triple_cmp-total, Text.triple_text}
use Rattle.rdf_term.proofs.Texts.{triple_cmp-IsAntisymmetric}
use Rattle.shared_triples.proofs.LineOrder.{lines_ordered}
use Rattle.parts_exchange.specs.declared.merging.NextLine.{NextLine}
use Rattle.parts_exchange.specs.Merging.{AreOrderedLines, IsNext}
use Rattle.parts_exchange.proofs.OneLine.{line_of_fit}

-- ---- the least triple comes first

above_inserted : (x k : Triple) (xs : List Triple) → triple_cmp x k ≡ Less → Above triple_cmp x xs → Above triple_cmp x (insert_key triple_cmp xs k)
above_inserted x k [] e h = (e, tt)
above_inserted x k (y ∷ ys) e h =
    elim (triple_cmp k y) as (λ r. Above triple_cmp x (match_ordering r (k ∷ y ∷ ys) (y ∷ ys) (y ∷ insert_key triple_cmp ys k))) [
      | Less ↦ (e, h)
      | Equal ↦ h
      | Greater ↦ (h.0, above_inserted x k ys e h.1)
    ]

above_sorted : (x : Triple) (xs : List Triple) → Above triple_cmp x xs → Above triple_cmp x (sorted triple_cmp xs)
above_sorted x [] h = tt
above_sorted x (y ∷ ys) h = above_inserted x y (sorted triple_cmp ys) h.0 (above_sorted x ys h.1)

least_first : (x : Triple) (xs : List Triple) → Above triple_cmp x xs → sorted triple_cmp (x ∷ xs) ≡ x ∷ sorted triple_cmp xs
least_first x xs h = by (sorted triple_cmp xs) (above_sorted x xs h)
  where
    by : (ys : List Triple) → Above triple_cmp x ys → insert_key triple_cmp ys x ≡ x ∷ ys
    by [] h = refl
    by (y ∷ ys) h = ap (λ r. match_ordering r (x ∷ y ∷ ys) (y ∷ ys) (y ∷ insert_key triple_cmp ys x)) h.0

module _ (x y : Triple) (xs ys : List Triple) (rising : IsRising triple_cmp (x ∷ xs)) (rises : IsRising triple_cmp (y ∷ ys)) where
  from_left : triple_cmp x y ≡ Less → sorted triple_cmp ((x ∷ xs) ++ y ∷ ys) ≡ x ∷ sorted triple_cmp (xs ++ y ∷ ys)
  from_left less = least_first x (xs ++ y ∷ ys) (Above-append triple_cmp x xs (y ∷ ys) rising.0 (less, Above-weaken triple_cmp-total x y ys less rises.0))

  from_right : triple_cmp y x ≡ Less → sorted triple_cmp ((x ∷ xs) ++ y ∷ ys) ≡ y ∷ sorted triple_cmp ((x ∷ xs) ++ ys)
  from_right less =
      sorted_same triple_cmp-total triple_cmp-IsAntisymmetric ((x ∷ xs) ++ y ∷ ys) (y ∷ ((x ∷ xs) ++ ys))
      (λ q. has-append triple_cmp q (x ∷ xs) (y ∷ ys) ∙ or_swap (has triple_cmp q (x ∷ xs)) (eq_by_cmp triple_cmp q y) (has triple_cmp q ys) ∙ ap (λ b. eq_by_cmp triple_cmp q y || b) (sym (has-append triple_cmp q (x ∷ xs) ys)))
      ∙ least_first y ((x ∷ xs) ++ ys) (Above-append triple_cmp y (x ∷ xs) ys (less, Above-weaken triple_cmp-total y x xs less rising.0) rises.0)

  from_both : triple_cmp x y ≡ Equal → sorted triple_cmp ((x ∷ xs) ++ y ∷ ys) ≡ x ∷ sorted triple_cmp (xs ++ ys)
  from_both equal =
      let one : x ≡ y = triple_cmp-IsAntisymmetric x y equal in
      sorted_same triple_cmp-total triple_cmp-IsAntisymmetric ((x ∷ xs) ++ y ∷ ys) (x ∷ (xs ++ ys))
      (λ q. has-append triple_cmp q (x ∷ xs) (y ∷ ys)
      ∙ ap (λ t. has triple_cmp q (x ∷ xs) || (eq_by_cmp triple_cmp q t || has triple_cmp q ys)) (sym one)
      ∙ again (eq_by_cmp triple_cmp q x) (has triple_cmp q xs) (has triple_cmp q ys)
      ∙ ap (λ b. eq_by_cmp triple_cmp q x || b) (sym (has-append triple_cmp q xs ys)))
      ∙ least_first x (xs ++ ys) (Above-append triple_cmp x xs ys rising.0 (subst (λ t. Above triple_cmp t ys) (sym one) rises.0))
    where
      again : (a b c : Bool) → ((a || b) || (a || c)) ≡ (a || (b || c))
      again true b c = refl
      again false b c = refl

-- ---- the first line

abbrev is_feed : ℕ → Bool
is_feed b = b == 10

none_in : (body : List ℕ) → IsOneLine body → (k : ℕ) → k < length body → get_or body k 0 ≢ 10
none_in [] one k l e = omega (arith, l)
none_in (b ∷ body) one zero l e = clash (ap is_feed e) (or_false_left (is_feed b) _ one)
none_in (b ∷ body) one (suc k) l e = none_in body (or_false_right (is_feed b) _ one) k (omega (arith, l)) e

-- where a text begins with a line, its end is the line's
ends_there : (body rest text : List ℕ) (n : ℕ) → text ≡ (body ++ 10 ∷ []) ++ rest → IsOneLine body → 0 < n → n ≤ length text → ((k : ℕ) → k + 1 < n → slice_index text k ≢ 10)
    → ((k : ℕ) → k + 1 ≡ n → (slice_index text k ≡ 10) ⊎ (n ≡ length text)) → n ≡ length (body ++ 10 ∷ [])
ends_there body rest text n is one some within before ended =
    let whole : text ≡ body ++ 10 ∷ rest = is ∙ append_assoc body (10 ∷ []) rest in
    let long : length text ≡ length body + (1 + length rest) = omega (arith, ap length whole, length-append body (10 ∷ rest)) in
    let size : length (body ++ 10 ∷ []) ≡ length body + 1 = omega (arith, length-append body (10 ∷ [])) in
    let feed : slice_index text (length body) ≡ 10 = ap (λ t. get_or t (length body) 0) whole ∙ get_or_at body 10 rest 0 (length body) refl in
    ⊎_elim
    (λ (same : n ≡ length body + 1). same ∙ sym size)
    (λ other. ⊎_elim
    (λ (low : n < length body + 1).
    let k = n - 1 in
    let next : k + 1 ≡ n = omega (arith, some) in
    let early : k < length body = omega (arith, low, some) in
    absurd (⊎_elim
    (λ (at : slice_index text k ≡ 10). none_in body one k early (sym (get_or_append_left body (10 ∷ rest) 0 k early) ∙ ap (λ t. get_or t k 0) (sym whole) ∙ at))
    (λ (end : n ≡ length text). omega (arith, end, long, low))
    (ended k next)))
    (λ (high : length body + 1 < n). absurd (before (length body) high feed))
    other)
    (cases_order n (length body + 1))

-- a text of lines that isn't empty begins with one of them
pub record BeginsWith (triples : List Triple) (n : ℕ) (text : List ℕ) : Type 0 where
  pub triple : Triple
  pub rest : List Triple
  pub is : triples ≡ triple ∷ rest
  pub line : take n text ≡ triple_text triple
  pub after : drop n text ≡ flat_map triple_text rest

pub first_line : (triples : List Triple) (text : List ℕ) (n : ℕ) → text ≡ flat_map triple_text triples → AreOrderedLines triples → 0 < n → n ≤ length text → ((k : ℕ) → k + 1 < n → slice_index text k ≢ 10)
    → ((k : ℕ) → k + 1 ≡ n → (slice_index text k ≡ 10) ⊎ (n ≡ length text)) → BeginsWith triples n text
first_line [] text n is ordered some within before ended = absurd (omega (arith, ap length is, some, within))
first_line (t ∷ ts) text n is ordered some within before ended =
    let line = line_of_fit t ordered.fit.0 in
    let whole : text ≡ (line.body ++ 10 ∷ []) ++ flat_map triple_text ts = is ∙ ap (λ l. l ++ flat_map triple_text ts) line.is in
    let size : n ≡ length (triple_text t) = ends_there line.body (flat_map triple_text ts) text n whole line.one some within before ended ∙ ap length (sym line.is) in
    record {
      triple = t;
      rest = ts;
      is = refl;
      line = (λ i. take (size i) (is i)) ∙ take-append_seam (triple_text t) (flat_map triple_text ts);
      after = (λ i. drop (size i) (is i)) ∙ drop-append_seam (triple_text t) (flat_map triple_text ts);
    }

-- ---- the next line of two texts

rest_ordered : (t : Triple) (ts : List Triple) → AreOrderedLines (t ∷ ts) → AreOrderedLines ts
rest_ordered t ts h = record { rising = h.rising.1; fit = h.fit.1 }

pub empty_lines : (triples : List Triple) (text : List ℕ) → text ≡ flat_map triple_text triples → AreOrderedLines triples → length text ≡ 0 → triples ≡ []
empty_lines [] text is ordered none = refl
empty_lines (t ∷ ts) text is ordered none =
    let line = line_of_fit t ordered.fit.0 in
    absurd (omega (arith, none, ap length is, length-append (triple_text t) (flat_map triple_text ts), ap length line.is, length-append line.body (10 ∷ [])))

module _ (some others : List Triple) (left right : List ℕ) (left_is : left ≡ flat_map triple_text some) (right_is : right ≡ flat_map triple_text others) (ordered : AreOrderedLines some) (orders : AreOrderedLines others) where
  pub next_left : (n : ℕ) (next : NextLine) → BeginsWith some n left → length right ≡ 0 → next.line.now ≡ take n left → next.left.now ≡ drop n left → next.right.now ≡ right → IsNext some others next
  next_left n next b none line rest same =
      let empty = empty_lines others right right_is orders none in
      let whole : AreOrderedLines (b.triple ∷ b.rest) = subst AreOrderedLines b.is ordered in
      record {
        triple = b.triple;
        left = b.rest;
        right = [];
        line_is = line ∙ b.line;
        left_is = rest ∙ b.after;
        right_is = same ∙ right_is ∙ ap (flat_map triple_text) empty;
        left_ordered = rest_ordered b.triple b.rest whole;
        right_ordered = subst AreOrderedLines empty orders;
        all = (λ i. sorted triple_cmp (b.is i ++ empty i)) ∙ ap (sorted triple_cmp) (append-nil (b.triple ∷ b.rest)) ∙ least_first b.triple b.rest whole.rising.0 ∙ ap (λ l. b.triple ∷ sorted triple_cmp l) (sym (append-nil b.rest));
      }

  pub next_right : (n : ℕ) (next : NextLine) → BeginsWith others n right → length left ≡ 0 → next.line.now ≡ take n right → next.right.now ≡ drop n right → next.left.now ≡ left → IsNext some others next
  next_right n next b none line rest same =
      let empty = empty_lines some left left_is ordered none in
      let whole : AreOrderedLines (b.triple ∷ b.rest) = subst AreOrderedLines b.is orders in
      record {
        triple = b.triple;
        left = [];
        right = b.rest;
        line_is = line ∙ b.line;
        left_is = same ∙ left_is ∙ ap (flat_map triple_text) empty;
        right_is = rest ∙ b.after;
        left_ordered = subst AreOrderedLines empty ordered;
        right_ordered = rest_ordered b.triple b.rest whole;
        all = (λ i. sorted triple_cmp (empty i ++ b.is i)) ∙ least_first b.triple b.rest whole.rising.0;
      }

  module _ (n m : ℕ) (b : BeginsWith some n left) (d : BeginsWith others m right) where
    whole_left : AreOrderedLines (b.triple ∷ b.rest)
    whole_left = subst AreOrderedLines b.is ordered

    whole_right : AreOrderedLines (d.triple ∷ d.rest)
    whole_right = subst AreOrderedLines d.is orders

    order : bytes_cmp (take n left) (take m right) ≡ triple_cmp b.triple d.triple
    order = (λ i. bytes_cmp (b.line i) (d.line i)) ∙ lines_ordered b.triple d.triple whole_left.fit.0 whole_right.fit.0

    pub next_lesser : (next : NextLine) → bytes_cmp (take n left) (take m right) ≡ Less → next.line.now ≡ take n left → next.left.now ≡ drop n left → next.right.now ≡ right → IsNext some others next
    next_lesser next less line rest same = record {
      triple = b.triple;
      left = b.rest;
      right = others;
      line_is = line ∙ b.line;
      left_is = rest ∙ b.after;
      right_is = same ∙ right_is;
      left_ordered = rest_ordered b.triple b.rest whole_left;
      right_ordered = orders;
      all = (λ i. sorted triple_cmp (b.is i ++ d.is i)) ∙ from_left b.triple d.triple b.rest d.rest whole_left.rising whole_right.rising (sym order ∙ less) ∙ ap (λ l. b.triple ∷ sorted triple_cmp (b.rest ++ l)) (sym d.is);
    }

    pub next_greater : (next : NextLine) → bytes_cmp (take n left) (take m right) ≡ Greater → next.line.now ≡ take m right → next.left.now ≡ left → next.right.now ≡ drop m right → IsNext some others next
    next_greater next greater line same rest = record {
      triple = d.triple;
      left = some;
      right = d.rest;
      line_is = line ∙ d.line;
      left_is = same ∙ left_is;
      right_is = rest ∙ d.after;
      left_ordered = ordered;
      right_ordered = rest_ordered d.triple d.rest whole_right;
      all = (λ i. sorted triple_cmp (b.is i ++ d.is i)) ∙ from_right b.triple d.triple b.rest d.rest whole_left.rising whole_right.rising (turned triple_cmp-total b.triple d.triple Greater (sym order ∙ greater)) ∙ ap (λ l. d.triple ∷ sorted triple_cmp (l ++ d.rest)) (sym b.is);
    }

    pub next_same : (next : NextLine) → bytes_cmp (take n left) (take m right) ≡ Equal → next.line.now ≡ take n left → next.left.now ≡ drop n left → next.right.now ≡ drop m right → IsNext some others next
    next_same next equal line rest rests = record {
      triple = b.triple;
      left = b.rest;
      right = d.rest;
      line_is = line ∙ b.line;
      left_is = rest ∙ b.after;
      right_is = rests ∙ d.after;
      left_ordered = rest_ordered b.triple b.rest whole_left;
      right_ordered = rest_ordered d.triple d.rest whole_right;
      all = (λ i. sorted triple_cmp (b.is i ++ d.is i)) ∙ from_both b.triple d.triple b.rest d.rest whole_left.rising whole_right.rising (sym order ∙ equal);
    }
