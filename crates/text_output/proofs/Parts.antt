-- What is written in parts is written as a whole.
use Rattle.std.proofs.Common.{refl, sym, ◌∙◌, ap, ◌≡◌, ℕ, zero, suc, ◌+◌, ◌-◌, ◌<◌, List, [], ◌∷◌, ◌++◌, length, take, drop, get_or, flat_map, Option, None, Some, IfOk, ⊎_elim, Bool, true, false, not, ◌||◌, ◌==◌, nat_lt, ◌≤◌, Result, Ok, Err, append_assoc, append-nil, add-one, arith, length-append}
use Rattle.std.proofs.{Math.Seq.take-length, Math.Seq.take-suc, lemmas.List.Concat.flat_map-append}
use Rattle.std.proofs.lemmas.Bool.Decides.{Decides-ltb, nat_tests}
use Rattle.std.proofs.lemmas.Option.{get_or_from_slice_get, slice_get_cases}
use Rattle.std.proofs.lemmas.List.{length-drop, length-take, take-append-drop}
use Rattle.std.specs.{List.slice_get, Option.option_map, Option.unwrap_or}
use Rattle.rdf_term.specs.{Text.spaced, Text.triple_text, declared.triple.Triple.Triple}
use Rattle.wq_io.specs.Streams.{Rose, after_known}
use Rattle.text_output.specs.{Printing.Leaves, Printing.Output, Printing.Prints, Printing.Puts, Printing.Writes, declared.write.Unwritten.Unwritten}
use Rattle.text_output.specs.declared.write.Unwritten.TheVariants.{WriteFault, OutOfMemory}

-- two parts, one after the other
pub after_twice : (bytes : Option (List ℕ)) (first second : List ℕ) → after_known (after_known bytes first) second ≡ after_known bytes (first ++ second)
after_twice None first second = refl
after_twice (Some bytes) first second = ap Some (append_assoc bytes first second)

-- nothing was written
pub after_nothing : (bytes : Option (List ℕ)) → after_known bytes [] ≡ bytes
after_nothing None = refl
after_nothing (Some bytes) = ap Some (append-nil bytes)

-- what waits where nothing is written
leaves_nothing : (handed : Bool) (old : Output) → Leaves handed [] old old (Ok tt)
leaves_nothing true old = λ quiet. quiet
leaves_nothing false old = λ _. refl

-- what waits where a fault comes before the first byte
leaves_same : (handed : Bool) (why : Unwritten) (whole : List ℕ) (old : Output) → Leaves handed whole old old (Err why)
leaves_same true why whole old = λ _. tt
leaves_same false why whole old = λ _. refl

-- what waits where the first part wasn't written wholly
leaves_first : (handed : Bool) (why : Unwritten) (first second : List ℕ) (old new : Output) → Leaves handed first old new (Err why) → Leaves handed (first ++ second) old new (Err why)
leaves_first true why first second old new x = λ _. tt
leaves_first false why first second old new x = λ none. x (omega (arith, none, length-append first second))

-- what waits after two parts
leaves_both : (handed : Bool) (result : Result (Unit {0}) Unwritten) (first second : List ℕ) (old between new : Output) →
    Leaves handed first old between (Ok tt) → Leaves handed second between new result → Leaves handed (first ++ second) old new result
leaves_both true result first second old between new x y = λ quiet. y (x quiet)
leaves_both false result first second old between new x y = λ none.
    y (omega (arith, none, length-append first second)) ∙ x (omega (arith, none, length-append first second))

-- nothing is printed
pub prints_nothing : {handed : Bool} (old : Output) → Writes handed [] old old (Ok tt)
prints_nothing old = record { later = omega arith; most = refl; outcome = sym (after_nothing old.bytes); leaves = leaves_nothing _ old }

-- want of memory before the first byte
pub cut_short_at_once : {handed : Bool} (whole : List ℕ) (old : Output) → Writes handed whole old old (Err OutOfMemory)
cut_short_at_once whole old = record {
  later = omega arith;
  most = refl;
  outcome = record { written = []; unwritten = whole; is = refl; bytes = sym (after_nothing old.bytes); failed = λ never. cc };
  leaves = leaves_same _ OutOfMemory whole old;
}

-- the first part wasn't printed wholly
pub prints_first : {handed : Bool} (why : Unwritten) (first second : List ℕ) (old new : Output) → Writes handed first old new (Err why) → Writes handed (first ++ second) old new (Err why)
prints_first why first second old new x =
    let cut = x.outcome in
    record {
      later = x.later;
      most = x.most;
      outcome = record {
        written = cut.written;
        unwritten = cut.unwritten ++ second;
        is = ap (λ l. l ++ second) cut.is ∙ append_assoc cut.written cut.unwritten second;
        bytes = cut.bytes;
        failed = λ fault. (omega (arith, (cut.failed fault).0, length-append cut.unwritten second), (cut.failed fault).1);
      };
      leaves = leaves_first _ why first second old new x.leaves;
    }

-- the first part was printed, and then the second
pub prints_both : {handed : Bool} (result : Result (Unit {0}) Unwritten) (first second : List ℕ) (old between new : Output) → Writes handed first old between (Ok tt) → Writes handed second between new result → Writes handed (first ++ second) old new result
prints_both (Ok done) first second old between new x y = record {
  later = omega (arith, x.later, y.later);
  most = y.most ∙ x.most;
  outcome = y.outcome ∙ ap (λ b. after_known b second) x.outcome ∙ after_twice old.bytes first second;
  leaves = leaves_both _ (Ok done) first second old between new x.leaves y.leaves;
}
prints_both (Err why) first second old between new x y =
    let cut = y.outcome in
    record {
      later = omega (arith, x.later, y.later);
      most = y.most ∙ x.most;
      outcome = record {
        written = first ++ cut.written;
        unwritten = cut.unwritten;
        is = ap (λ l. first ++ l) cut.is ∙ sym (append_assoc first cut.written cut.unwritten);
        bytes = cut.bytes ∙ ap (λ b. after_known b cut.written) x.outcome ∙ after_twice old.bytes first cut.written;
        failed = λ fault. ((cut.failed fault).0, omega (arith, x.later, (cut.failed fault).1));
      };
      leaves = leaves_both _ (Err why) first second old between new x.leaves y.leaves;
    }

-- bytes that are cut short aren't handed on
pub not_handed : (why : Unwritten) (whole : List ℕ) (old new : Output) → Puts whole old new (Err why) → Prints whole old new (Err why)
not_handed why whole old new x = record { later = x.later; most = x.most; outcome = x.outcome; leaves = λ _. tt }

-- a prefix was written, and this is the rest
pub record IsWriting (whole rest : List ℕ) (old new : Output) : Type 0 where
  pub written : List ℕ
  pub is : whole ≡ written ++ rest
  pub puts : Puts written old new (Ok tt)

pub writing_nothing : (whole : List ℕ) (old : Output) → IsWriting whole whole old old
writing_nothing whole old = record { written = []; is = refl; puts = prints_nothing old }

-- the rest after a prefix is whole
whole_rest : (n : ℕ) (xs : List ℕ) → take (length xs - n) (drop n xs) ≡ drop n xs
whole_rest n xs = ap (λ m. take m (drop n xs)) (sym (length-drop n xs)) ∙ take-length (drop n xs)

-- one write more of the rest
pub writing_more : (whole rest : List ℕ) (n : ℕ) (old between new : Output) → IsWriting whole rest old between → (0 < n) × (n ≤ length rest) → new.bytes ≡ after_known between.bytes (take n rest) → between.faults ≤ new.faults → new.most_faults ≡ between.most_faults →
    IsWriting whole (take (length rest - n) (drop n rest)) old new
writing_more whole rest n old between new x some more later most = record {
  written = x.written ++ take n rest;
  is = x.is ∙ ap (λ l. x.written ++ l) (sym (take-append-drop n rest)) ∙ sym (append_assoc x.written (take n rest) (drop n rest))
      ∙ ap (λ l. (x.written ++ take n rest) ++ l) (sym (whole_rest n rest));
  puts = prints_both (Ok tt) x.written (take n rest) old between new x.puts (record {
    later = later;
    most = most;
    outcome = more;
    leaves = λ none. absurd (omega (arith, none, some.0, some.1, length-take n rest));
  });
}

-- nothing is left to write
pub writing_done : (whole rest : List ℕ) (old new : Output) → IsWriting whole rest old new → length rest ≡ 0 → Puts whole old new (Ok tt)
writing_done whole [] old new x none =
    let all : whole ≡ x.written = x.is ∙ append-nil x.written in
    rw all x.puts
writing_done whole (b ∷ bs) old new x none = cc

-- a write that failed
pub writing_failed : (why : Unwritten) (whole rest : List ℕ) (old between new : Output) → IsWriting whole rest old between → 0 < length rest → new.bytes ≡ between.bytes → between.faults ≤ new.faults → new.most_faults ≡ between.most_faults →
    (why ≡ WriteFault → Rose between.faults new.faults) → Puts whole old new (Err why)
writing_failed why whole rest old between new x more same later most cause = record {
  later = omega (arith, x.puts.later, later);
  most = most ∙ x.puts.most;
  outcome = record { written = x.written; unwritten = rest; is = x.is; bytes = same ∙ x.puts.outcome; failed = λ fault. (more, omega (arith, x.puts.later, cause fault)) };
  leaves = λ none. absurd (omega (arith, none, more, ap length x.is, length-append x.written rest));
}

-- a list with an element
above : {X : Type 0} (x : X) (xs : List X) → nat_lt 0 (length (x ∷ xs)) ≡ true
above x xs = (Decides-ltb 0 (length (x ∷ xs))).1 (omega arith)

not_none : {X : Type 0} (x : X) (xs : List X) → (length (x ∷ xs) == 0) ≡ false
not_none x xs = grind (arith, nat_tests)

-- whether a list is empty says whether it has an element
pub some_unless_empty : {X : Type 0} (empty : Bool) (xs : List X) → empty ≡ (length xs == 0) → not empty ≡ nat_lt 0 (length xs)
some_unless_empty empty [] is = ap not is
some_unless_empty empty (x ∷ xs) is = ap not (is ∙ not_none x xs) ∙ sym (above x xs)

-- a text with a byte
pub some_text : (text : List ℕ) → 0 < length text → true ≡ nat_lt 0 (length text)
some_text [] some = absurd (omega (arith, some))
some_text (x ∷ xs) some = sym (above x xs)

-- the texts so far and one more, where it is known whether any byte was there before and whether this text is empty
pub some_more : (was empty : Bool) (before text : List ℕ) → was ≡ nat_lt 0 (length before) → empty ≡ (length text == 0) → (was || not empty) ≡ nat_lt 0 (length (before ++ text))
some_more was empty [] text some is = ap (λ w. w || not empty) some ∙ some_unless_empty empty text is
some_more was empty (x ∷ xs) text some is = ap (λ w. w || not empty) (some ∙ above x xs) ∙ sym (above x (xs ++ text))

-- a head, and texts behind it
pub some_parts : (empty some : Bool) (front back : List ℕ) → empty ≡ (length front == 0) → some ≡ nat_lt 0 (length back) → (not empty || some) ≡ nat_lt 0 (length (front ++ back))
some_parts empty some [] back is there = ap (λ e. not e || some) is ∙ there
some_parts empty some (x ∷ xs) back is there = ap (λ e. not e || some) (is ∙ not_none x xs) ∙ sym (above x (xs ++ back))

-- a text with a byte, and another behind it
some_front : (front back : List ℕ) → 0 < length front → true ≡ nat_lt 0 (length (front ++ back))
some_front [] back some = absurd (omega (arith, some))
some_front (x ∷ xs) back some = sym (above x (xs ++ back))

-- texts that have a byte each
pub some_texts : {X : Type 0} (f : X → List ℕ) → ((x : X) → 0 < length (f x)) → (xs : List X) → nat_lt 0 (length xs) ≡ nat_lt 0 (length (flat_map f xs))
some_texts f some [] = refl
some_texts f some (x ∷ xs) = above x xs ∙ some_front (f x) (flat_map f xs) (some x)

-- the line of a triple has a byte
pub some_triple : (triple : Triple) → 0 < length (triple_text triple)
some_triple triple = omega (arith, length-append (spaced triple.subject ++ spaced triple.predicate ++ spaced triple.object) (46 ∷ 10 ∷ []))

-- the texts of the elements of a list, one after the other
module _ {X : Type 0} (f : X → List ℕ) (xs : List X) (index : ℕ) where
  -- the text of the next element
  pub text_more : (x : X) → index < length xs → flat_map f (take (index + 1) xs) ≡ flat_map f (take index xs) ++ f (get_or xs index x)
  text_more x within =
      ap (λ n. flat_map f (take n xs)) (add-one index)
      ∙ ap (flat_map f) (take-suc xs index x within)
      ∙ flat_map-append f (take index xs) (get_or xs index x ∷ [])
      ∙ ap (λ l. flat_map f (take index xs) ++ l) (append-nil (f (get_or xs index x)))

  -- the same, where the element is known by its index
  pub text_more_at : index < length xs → flat_map f (take (index + 1) xs) ≡ flat_map f (take index xs) ++ unwrap_or (option_map f (slice_get xs index)) []
  text_more_at within = by (slice_get xs index) refl
    where
      by : (o : Option X) → slice_get xs index ≡ o → flat_map f (take (index + 1) xs) ≡ flat_map f (take index xs) ++ unwrap_or (option_map f o) []
      by None none = ⊎_elim (λ w. let never : Some w.0 ≡ None = sym w.2 ∙ none in cc) (λ w. let past : length xs ≤ index = w.0 in absurd (omega arith)) (slice_get_cases xs index).1
      by (Some x) some = text_more x within ∙ ap (λ y. flat_map f (take index xs) ++ f y) (get_or_from_slice_get xs index x x some)

  cut : (n : ℕ) → flat_map f xs ≡ flat_map f (take n xs) ++ flat_map f (drop n xs)
  cut n = ap (flat_map f) (sym (take-append-drop n xs)) ∙ flat_map-append f (take n xs) (drop n xs)

  -- the next text was printed
  pub text_printed : {handed : Bool} (text : List ℕ) (old between new : Output) → flat_map f (take (index + 1) xs) ≡ flat_map f (take index xs) ++ text →
      Writes handed (flat_map f (take index xs)) old between (Ok tt) → Writes handed text between new (Ok tt) → Writes handed (flat_map f (take (index + 1) xs)) old new (Ok tt)
  text_printed text old between new more before x = rw more (prints_both (Ok tt) (flat_map f (take index xs)) text old between new before x)

  -- the next text wasn't printed wholly
  pub text_cut_short : {handed : Bool} (why : Unwritten) (text : List ℕ) (old between new : Output) → flat_map f (take (index + 1) xs) ≡ flat_map f (take index xs) ++ text →
      Writes handed (flat_map f (take index xs)) old between (Ok tt) → Writes handed text between new (Err why) → Writes handed (flat_map f xs) old new (Err why)
  text_cut_short why text old between new more before x =
      let parts : flat_map f xs ≡ (flat_map f (take index xs) ++ text) ++ flat_map f (drop (index + 1) xs) = cut (index + 1) ∙ ap (λ l. l ++ flat_map f (drop (index + 1) xs)) more in
      rw parts (prints_first why (flat_map f (take index xs) ++ text) (flat_map f (drop (index + 1) xs)) old new (prints_both (Err why) (flat_map f (take index xs)) text old between new before x))

  -- the next text wasn't begun
  pub text_not_begun : {handed : Bool} (old now : Output) → Writes handed (flat_map f (take index xs)) old now (Ok tt) → Writes handed (flat_map f xs) old now (Err OutOfMemory)
  text_not_begun old now before = rw (cut index) (prints_both (Err OutOfMemory) (flat_map f (take index xs)) (flat_map f (drop index xs)) old now now before (cut_short_at_once (flat_map f (drop index xs)) now))
