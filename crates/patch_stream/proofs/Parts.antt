-- The lines of both parts of a change, merged, are those of the change.
use Rattle.std.proofs.Common.{◌≡◌, refl, sym, ◌∙◌, ap, ℕ, zero, suc, ◌+◌, ◌<◌, Bool, true, false, ◌||◌, ◌⊎◌, inl, inr, ⊎_elim, nat_lt, List, [], ◌∷◌, ◌++◌, length, flat_map, Less, Equal, Greater, is_eq, Result, Ok, Err, subst, arith, append-nil, length-append, true≢false}
use Rattle.std.specs.{BTreeSet.insert_key, Ordering.eq_by_cmp, Ordering.match_ordering}
use Rattle.std.proofs.lemmas.Bool.Decides.{Decides-ltb}
use Rattle.sorted_sets.specs.Rising.{IsRising, difference, has, sorted}
use Rattle.sorted_sets.proofs.Bools.{clash, or_false, or_false_left, or_false_right, or_true}
use Rattle.sorted_sets.proofs.Rising.{has-above, has-append, has-sorted, has_itself, sorted_rising}
use Rattle.rdf_term.specs.{declared.triple.Triple.Triple, Order.triple_cmp, Order.triple_cmp-total, Text.triple_text}
use Rattle.rdf_term.proofs.Texts.{triple_cmp-IsAntisymmetric}
use Rattle.triple_store.specs.Telling.{is_changed}
use Rattle.parts_exchange.specs.declared.exchanging.PartsChange.{PartsChange}
use Rattle.parts_exchange.specs.declared.merging.NextLine.{NextLine}
use Rattle.parts_exchange.specs.{Exchanged.AreMerged, Merging.AreOrderedLines, Merging.IsNext}
use Rattle.parts_exchange.proofs.Merged.{empty_lines}
use Rattle.triple_catalog.specs.declared.lines.TripleLines.{TripleLines}
use Rattle.lean_holdings.specs.Changing.{IsChangeOf}
use Rattle.replica.specs.{declared.head.Head.Head, Head.head_line, Record.record_text}
use Rattle.replica.proofs.Records.{record_parts}
use Rattle.text_output.specs.{declared.write.Unwritten.Unwritten, Printing.Output, Printing.Prints, Printing.Puts}
use Rattle.text_output.proofs.Parts.{IsWriting, not_handed, prints_both, prints_first, some_text, writing_nothing}
use Rattle.patch_stream.specs.Stream.{merged_text, record_of_step, step}
use Rattle.patch_stream.proofs.Texts.{writing_cut_short, writing_line}

-- ---- lists of which no triple is in both

longer : (k : Triple) (xs : List Triple) → has triple_cmp k xs ≡ false → length (insert_key triple_cmp xs k) ≡ length xs + 1
longer k [] none = omega arith
longer k (x ∷ xs) none =
    elim (triple_cmp k x) as (λ r. triple_cmp k x ≡ r → length (match_ordering r (k ∷ x ∷ xs) (x ∷ xs) (x ∷ insert_key triple_cmp xs k)) ≡ length (x ∷ xs) + 1) [
      | Less ↦ λ e. omega arith
      | Equal ↦ λ e. clash (ap is_eq e) (or_false_left (eq_by_cmp triple_cmp k x) _ none)
      | Greater ↦ λ e. omega (arith, longer k xs (or_false_right (eq_by_cmp triple_cmp k x) _ none))
    ] refl

-- together they have as many triples as both
as_many : (some others : List Triple) → IsRising triple_cmp some → IsRising triple_cmp others → ((t : Triple) → has triple_cmp t some ≡ true → has triple_cmp t others ≡ false)
    → length (sorted triple_cmp (some ++ others)) ≡ length some + length others
as_many [] others rising rises once =
    let same : length (sorted triple_cmp others) ≡ 0 + length others = omega (arith, ap length (sorted_rising triple_cmp-total triple_cmp-IsAntisymmetric others rises)) in
    same
as_many (x ∷ xs) others rising rises once =
    let fresh = has-sorted triple_cmp-total x (xs ++ others) ∙ has-append triple_cmp x xs others
    ∙ or_false (has triple_cmp x xs) _ (has-above triple_cmp x xs rising.0) (once x (has_itself triple_cmp-total x xs)) in
    omega (arith, longer x (sorted triple_cmp (xs ++ others)) fresh, as_many xs others rising.1 rises (λ t there. once t (or_true (eq_by_cmp triple_cmp t x) _ there)))

-- so the lines are counted by those of both texts
counted : (first second : TripleLines) (triples : List Triple) (merged : AreMerged first second triples) → AreOrderedLines merged.some → AreOrderedLines merged.others → first.count + second.count ≡ length triples
counted first second triples merged ordered orders =
    omega (arith, merged.first_are.count, merged.second_are.count, ap length merged.all, as_many merged.some merged.others ordered.rising orders.rising merged.once)

-- whether there is one of two numbers of things
some_of : (a b : ℕ) → (nat_lt 0 a || nat_lt 0 b) ≡ nat_lt 0 (a + b)
some_of zero b = let same : b ≡ 0 + b = omega arith in ap (nat_lt 0) same
some_of (suc a) b = ap (λ t. t || nat_lt 0 b) ((Decides-ltb 0 (suc a)).1 (omega arith)) ∙ sym ((Decides-ltb 0 (suc a + b)).1 (omega arith))

-- ---- the change of a step

module _ (before after : List Triple) (change : PartsChange) (is : IsChangeOf before after change) where
  came_count : change.own.came.count + change.stored.came.count ≡ length (difference triple_cmp after before)
  came_count = counted change.own.came change.stored.came _ is.came is.came_own is.came_stored

  gone_count : change.own.gone.count + change.stored.gone.count ≡ length (difference triple_cmp before after)
  gone_count = counted change.own.gone change.stored.gone _ is.gone is.gone_own is.gone_stored

  -- the lines tell whether something changes
  pub by_parts : ((nat_lt 0 change.own.came.count || nat_lt 0 change.stored.came.count) || (nat_lt 0 change.own.gone.count || nat_lt 0 change.stored.gone.count)) ≡ is_changed before after
  by_parts =
      (λ i. some_of change.own.came.count change.stored.came.count i || some_of change.own.gone.count change.stored.gone.count i)
      ∙ (λ i. nat_lt 0 (came_count i) || nat_lt 0 (gone_count i))

  -- a head that counts both, and the lines of both, are the text of the record of the step
  module _ (number : ℕ) (head : Head) (numbered : head.number ≡ number) (adds : head.adds ≡ change.own.came.count + change.stored.came.count) (removes : head.removes ≡ change.own.gone.count + change.stored.gone.count) where
    abbrev opening : List ℕ
    opening = head_line head ++ 10 ∷ []

    abbrev came : List ℕ
    came = merged_text is.came.some is.came.others

    abbrev gone : List ℕ
    gone = merged_text is.gone.some is.gone.others

    abbrev whole : List ℕ
    whole = record_text (record_of_step number (step before after))

    parts_text : opening ++ (came ++ gone) ≡ whole
    parts_text =
        (λ i. (head_line (record { number = numbered i; adds = (adds ∙ came_count) i; removes = (removes ∙ gone_count) i }) ++ 10 ∷ [])
        ++ (flat_map triple_text (sym is.came.all i) ++ flat_map triple_text (sym is.gone.all i)))
        ∙ sym (record_parts (record_of_step number (step before after)))

    has_byte : 0 < length whole
    has_byte = omega (arith, ap length parts_text, length-append opening (came ++ gone), length-append (head_line head) (10 ∷ []))

    pub no_head : (why : Unwritten) (old new : Output) → Puts opening old new (Err why) → Prints whole old new (Err why)
    no_head why old new x = not_handed why whole old new (subst (λ l. Puts l old new (Err why)) parts_text (prints_first why opening (came ++ gone) old new x))

    pub no_came : (why : Unwritten) (old between new : Output) → Puts opening old between (Ok tt) → Puts came between new (Err why) → Prints whole old new (Err why)
    no_came why old between new x y =
        not_handed why whole old new (subst (λ l. Puts l old new (Err why)) parts_text (prints_both (Err why) opening (came ++ gone) old between new x (prints_first why came gone between new y)))

    module _ (result : Result (Unit {0}) Unwritten) (old between later new : Output) (x : Puts opening old between (Ok tt)) (y : Puts came between later (Ok tt)) (z : Puts gone later new result) where
      pub parts_put : Puts whole old new result
      parts_put = subst (λ l. Puts l old new result) parts_text (prints_both result opening (came ++ gone) old between new x (prints_both result came gone between later new y z))

    pub some_whole : true ≡ nat_lt 0 (length whole)
    some_whole = some_text whole has_byte

-- a head has a byte, whatever follows it
pub some_behind : (line rest : List ℕ) → true ≡ nat_lt 0 (length ((line ++ 10 ∷ []) ++ rest))
some_behind line rest = some_text ((line ++ 10 ∷ []) ++ rest) (omega (arith, length-append (line ++ 10 ∷ []) rest, length-append line (10 ∷ [])))

-- of two answers the first, or the second
pub by_first : (a b changed : Bool) → a ≡ true → (a || b) ≡ changed → a ≡ changed
by_first true b changed h is = is
by_first false b changed h is = absurd (true≢false (sym h))

pub by_second : (a b changed : Bool) → a ≡ false → (a || b) ≡ changed → b ≡ changed
by_second true b changed h is = absurd (true≢false h)
by_second false b changed h is = is

-- ---- lines that are written one after the other

-- the lines so far were written, and the rest are those of what is left of both lists
pub record IsMergingOn (some others : List Triple) (left right : List ℕ) (old new : Output) : Type 0 where
  pub some_left : List Triple
  pub others_left : List Triple
  pub left_is : left ≡ flat_map triple_text some_left
  pub right_is : right ≡ flat_map triple_text others_left
  pub ordered : AreOrderedLines some_left
  pub orders : AreOrderedLines others_left
  pub writing : IsWriting (merged_text some others) (merged_text some_left others_left) old new

-- so it is for each two lists in order whose lines the texts are
abbrev pub MergesOn : List ℕ → List ℕ → List ℕ → List ℕ → Output → Output → Type 0
MergesOn first second left right old new =
    (some others : List Triple) → first ≡ flat_map triple_text some → second ≡ flat_map triple_text others → AreOrderedLines some → AreOrderedLines others → IsMergingOn some others left right old new

pub merging_begun : (first second : List ℕ) (old : Output) → MergesOn first second first second old old
merging_begun first second old some others are those ordered orders = record {
  some_left = some;
  others_left = others;
  left_is = are;
  right_is = those;
  ordered = ordered;
  orders = orders;
  writing = writing_nothing (merged_text some others) old;
}

-- the next line and what is left after it
abbrev pub GivesNext : List ℕ → List ℕ → NextLine → Type 0
GivesNext left right next =
    (some others : List Triple) → left ≡ flat_map triple_text some → right ≡ flat_map triple_text others → AreOrderedLines some → AreOrderedLines others → IsNext some others next

module _ (first second left right : List ℕ) (old between : Output) (so_far : MergesOn first second left right old between) (next : NextLine) (gives : GivesNext left right next) where
  module _ (some others : List Triple) (are : first ≡ flat_map triple_text some) (those : second ≡ flat_map triple_text others) (ordered : AreOrderedLines some) (orders : AreOrderedLines others) where
    m : IsMergingOn some others left right old between
    m = so_far some others are those ordered orders

    n : IsNext m.some_left m.others_left next
    n = gives m.some_left m.others_left m.left_is m.right_is m.ordered m.orders

    -- the line comes first
    led : merged_text m.some_left m.others_left ≡ next.line.now ++ merged_text n.left n.right
    led = ap (flat_map triple_text) n.all ∙ ap (λ l. l ++ merged_text n.left n.right) (sym n.line_is)

    standing : IsWriting (merged_text some others) (next.line.now ++ merged_text n.left n.right) old between
    standing = subst (λ l. IsWriting (merged_text some others) l old between) led m.writing

  -- it was written
  pub merging_on : (new : Output) → Puts next.line.now between new (Ok tt) → MergesOn first second next.left.now next.right.now old new
  merging_on new put some others are those ordered orders =
      let step = n some others are those ordered orders in
      record {
        some_left = step.left;
        others_left = step.right;
        left_is = step.left_is;
        right_is = step.right_is;
        ordered = step.left_ordered;
        orders = step.right_ordered;
        writing = writing_line (merged_text some others) next.line.now (merged_text step.left step.right) old between new (standing some others are those ordered orders) put;
      }

  -- it wasn't written wholly
  pub merging_cut_short : (why : Unwritten) (new : Output) → Puts next.line.now between new (Err why) → (some others : List Triple) → first ≡ flat_map triple_text some → second ≡ flat_map triple_text others
      → AreOrderedLines some → AreOrderedLines others → Puts (merged_text some others) old new (Err why)
  merging_cut_short why new put some others are those ordered orders =
      let step = n some others are those ordered orders in
      writing_cut_short why (merged_text some others) next.line.now (merged_text step.left step.right) old between new (standing some others are those ordered orders) put

-- where one of both lists is empty, the other one is merged already
merged_alone : (some others : List Triple) → AreOrderedLines some → AreOrderedLines others → (some ≡ []) ⊎ (others ≡ []) → merged_text some others ≡ flat_map triple_text some ++ flat_map triple_text others
merged_alone some others ordered orders either = ⊎_elim
    (λ (none : some ≡ []). ap (λ l. merged_text l others) none ∙ ap (flat_map triple_text) (sorted_rising triple_cmp-total triple_cmp-IsAntisymmetric others orders.rising)
    ∙ ap (λ l. flat_map triple_text l ++ flat_map triple_text others) (sym none))
    (λ (none : others ≡ []). ap (merged_text some) none ∙ ap (λ l. flat_map triple_text (sorted triple_cmp l)) (append-nil some)
    ∙ ap (flat_map triple_text) (sorted_rising triple_cmp-total triple_cmp-IsAntisymmetric some ordered.rising)
    ∙ sym (append-nil (flat_map triple_text some)) ∙ ap (λ l. flat_map triple_text some ++ flat_map triple_text l) (sym none))
    either

-- one text is empty, and the other one is written
pub merging_done : (result : Result (Unit {0}) Unwritten) (first second left right : List ℕ) (old between new : Output) → (length left ≡ 0) ⊎ (length right ≡ 0) → MergesOn first second left right old between
    → Puts (left ++ right) between new result
    → (some others : List Triple) → first ≡ flat_map triple_text some → second ≡ flat_map triple_text others → AreOrderedLines some → AreOrderedLines others → Puts (merged_text some others) old new result
merging_done result first second left right old between new either so_far put some others are those ordered orders =
    let m = so_far some others are those ordered orders in
    let empty : (m.some_left ≡ []) ⊎ (m.others_left ≡ []) = ⊎_elim
    (λ (none : length left ≡ 0). inl (empty_lines m.some_left left m.left_is m.ordered none))
    (λ (none : length right ≡ 0). inr (empty_lines m.others_left right m.right_is m.orders none))
    either in
    let rest : left ++ right ≡ merged_text m.some_left m.others_left = (λ i. m.left_is i ++ m.right_is i) ∙ sym (merged_alone m.some_left m.others_left m.ordered m.orders empty) in
    let w = m.writing in
    rw w.is (prints_both result w.written (merged_text m.some_left m.others_left) old between new w.puts (subst (λ l. Puts l between new result) rest put))
