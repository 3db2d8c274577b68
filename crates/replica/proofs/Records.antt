-- What is read of a record as it grows, and the texts of records.
use Rattle.std.proofs.Common.{◌≡◌, ℕ, zero, suc, ◌+◌, ◌-◌, ◌<◌, ◌≤◌, Bool, true, false, not, cond, ◌&&◌, ◌||◌, ◌==◌, nat_lt, List, [], ◌∷◌, ◌++◌, length, map, flat_map, Option, Some, None, IfSome, MatchOption, Result, Ok, Err, Ordering, Less, Equal, Greater, is_lt, refl, sym, ◌∙◌, ap, subst, arith, append_assoc, append-nil, length-append, true≢false}
use Rattle.std.specs.{List.AllByRecursion, List.slice_get, Ordering.eq_by_cmp}
use Rattle.std.proofs.{lemmas.Bool.and_parts, lemmas.Bool.Decides.nat_tests, lemmas.List.map-append, lemmas.Grind.flat_map-append}
use Rattle.sorted_sets.specs.Rising.{IsRising, has}
use Rattle.sorted_sets.proofs.{Bools.equal, Rising.Above-weaken, Rising.has-append}
use Rattle.base.specs.declared.memory.OutOfMemory.{OutOfMemory}
use Rattle.rdf_term.specs.{declared.triple.Triple.Triple, Append.Appends, Order.triple_cmp, Order.triple_cmp-total, Text.triple_text}
use Rattle.rdf_term.proofs.{Appending.still_front, Texts.triple_cmp-IsAntisymmetric}
use Rattle.replica.specs.{declared.head.Head.Head, declared.reader.Begun.Begun, declared.record.PatchRecord.PatchRecord}
use Rattle.replica.specs.Head.{IsHead, head_line}
use Rattle.replica.specs.Record.{IsSound, head_of, lines_with, record_lines, record_text}
use Rattle.replica.specs.Reader.{Grows, IsPart, IsUnfinished, given, may_come_next, is_adding, is_next, all_read, left, lines_read, opened, patch_read, with_triple}
use Rattle.replica.specs.TripleLine.{HasReadableTerms, triple_line}
use Rattle.replica.proofs.TripleLines.{line_text}

-- ---- texts

lines_text : (triples : List Triple) → flat_map (λ line. line ++ 10 ∷ []) (map triple_line triples) ≡ flat_map triple_text triples
lines_text [] = refl
lines_text (t ∷ ts) = ap (λ line. line ++ flat_map (λ l. l ++ 10 ∷ []) (map triple_line ts)) (line_text t) ∙ ap (λ others. triple_text t ++ others) (lines_text ts)

-- the text of a record is that of its head and those of its triples
pub record_parts : (item : PatchRecord) →
    record_text item ≡ (head_line (head_of item) ++ 10 ∷ []) ++ (flat_map triple_text item.adds ++ flat_map triple_text item.removes)
record_parts item =
    ap (λ text. (head_line (head_of item) ++ 10 ∷ []) ++ text) (lines_text (item.adds ++ item.removes) ∙ flat_map-append triple_text item.adds item.removes)

-- one step that appends after another
pub appends_on : (old mid new xs ys : List ℕ) (r : Result (Unit {0}) OutOfMemory) → mid ≡ old ++ xs → Appends mid new ys r → Appends old new (xs ++ ys) r
appends_on old mid new xs ys (Ok done) first next = next ∙ ap (λ l. l ++ ys) first ∙ append_assoc old xs ys
appends_on old mid new xs ys (Err refused) first next = still_front old xs new (rw (← first) next)

-- ---- lists

all_append : {A : Type 0} (P : A → Type 0) (xs ys : List A) → AllByRecursion P xs → AllByRecursion P ys → AllByRecursion P (xs ++ ys)
all_append P [] ys hx hy = hy
all_append P (x ∷ xs) ys hx hy = (hx.0, all_append P xs ys hx.1 hy)

all_left : {A : Type 0} (P : A → Type 0) (xs ys : List A) → AllByRecursion P (xs ++ ys) → AllByRecursion P xs
all_left P [] ys h = tt
all_left P (x ∷ xs) ys h = (h.0, all_left P xs ys h.1)

is_less : (r : Ordering) → is_lt r ≡ true → r ≡ Less
is_less Less h = refl
is_less Equal h = cc
is_less Greater h = cc

-- a triple that is greater than the last one goes on rising
rising_next : (xs : List Triple) (t : Triple) → IsRising triple_cmp xs → is_next xs t ≡ true → IsRising triple_cmp (xs ++ t ∷ [])
rising_next [] t h next = (tt, tt)
rising_next (x ∷ []) t h next = ((is_less (triple_cmp x t) next, tt), (tt, tt))
rising_next (x ∷ y ∷ ys) t h next =
    let rest = rising_next (y ∷ ys) t h.1 next in
    ((h.0.0, Above-weaken triple_cmp-total x y (ys ++ t ∷ []) h.0.0 rest.0), rest)

-- the last of a list decides whether a triple is greater
last_decides : (n : ℕ) (xs : List Triple) (x t : Triple) → length xs ≡ n + 1 → slice_get xs n ≡ Some x → is_next xs t ≡ is_lt (triple_cmp x t)
last_decides n [] x t long at = cc
last_decides zero (y ∷ []) x t long at = let same : y ≡ x = cc in ap (λ z. is_lt (triple_cmp z t)) same
last_decides (suc n) (y ∷ []) x t long at = absurd (omega arith)
last_decides zero (y ∷ z ∷ zs) x t long at = absurd (omega arith)
last_decides (suc n) (y ∷ z ∷ zs) x t long at = last_decides n (z ∷ zs) x t (omega arith) at

pub is_next_by_last : (xs : List Triple) (x t : Triple) → Some x ≡ slice_get xs (length xs - 1) → is_next xs t ≡ is_lt (triple_cmp x t)
is_next_by_last [] x t at = cc
is_next_by_last (y ∷ ys) x t at = last_decides (length (y ∷ ys) - 1) (y ∷ ys) x t (omega arith) (sym at)

-- ---- one more line

lacking : (a most_a r most_r : ℕ) → a ≤ most_a → nat_lt a most_a ≡ false → r ≤ most_r → ((a == most_a) && (r == most_r)) ≡ false → r < most_r
lacking a most_a r most_r few full few_r lacks = grind (arith, nat_tests)

below : (a b : ℕ) → nat_lt a b ≡ true → a < b
below a b h = grind (arith, nat_tests)

still_apart : (x y : Bool) → x ≡ false → y ≡ false → (x || y) ≡ false
still_apart x y hx hy = rw (hx, hy) refl

-- a triple that isn't among those that come is in both parts nowhere
apart_with : (adds removes : List Triple) (t : Triple) → ((s : Triple) → has triple_cmp s adds ≡ true → has triple_cmp s removes ≡ false) → has triple_cmp t adds ≡ false →
    (s : Triple) → has triple_cmp s adds ≡ true → has triple_cmp s (removes ++ t ∷ []) ≡ false
apart_with adds removes t apart absent s there =
    has-append triple_cmp s removes (t ∷ []) ∙ still_apart (has triple_cmp s removes) (eq_by_cmp triple_cmp s t || false) (apart s there) (other (eq_by_cmp triple_cmp s t) refl)
  where
    other : (b : Bool) → eq_by_cmp triple_cmp s t ≡ b → (eq_by_cmp triple_cmp s t || false) ≡ false
    other true same =
        let is : s ≡ t = triple_cmp-IsAntisymmetric s t (equal (triple_cmp s t) same) in
        absurd (true≢false (sym there ∙ ap (λ x. has triple_cmp x adds) is ∙ absent))
    other false same = rw same refl

not_there : (x y : Bool) → (x && not y) ≡ true → y ≡ false
not_there true true h = cc
not_there true false h = refl
not_there false y h = cc

-- with a triple that may follow it is a part of a record
pub grown : (before : Begun) (t : Triple) → IsUnfinished before → may_come_next before t ≡ true → HasReadableTerms t → IsPart (with_triple before t)
unfolding may_come_next with_triple
grown before t unfinished follows readable = by (is_adding before) refl follows
  where
    part : IsPart before
    part = unfinished.part

    adding : is_adding before ≡ true → is_next before.adds t ≡ true → IsPart (record { head = before.head; adds = before.adds ++ t ∷ []; removes = before.removes })
    adding due next =
        let none : before.removes ≡ [] = part.in_turn due in
        record {
          head = part.head;
          few_adds = omega (arith, length-append before.adds (t ∷ []), below (length before.adds) before.head.adds due);
          few_removes = part.few_removes;
          in_turn = λ _. none;
          adds = rising_next before.adds t part.adds next;
          removes = part.removes;
          readable = rw none (rw (append-nil (before.adds ++ t ∷ [])) (all_append HasReadableTerms before.adds (t ∷ []) (all_left HasReadableTerms before.adds before.removes part.readable) (readable, tt)));
          apart = λ s _. rw none refl;
        }

    removing : is_adding before ≡ false → (is_next before.removes t && not (has triple_cmp t before.adds)) ≡ true → IsPart (record { head = before.head; adds = before.adds; removes = before.removes ++ t ∷ [] })
    removing full next = record {
      head = part.head;
      few_adds = part.few_adds;
      few_removes =
          let more = lacking (length before.adds) before.head.adds (length before.removes) before.head.removes part.few_adds full part.few_removes unfinished.lacks in
          omega (arith, length-append before.removes (t ∷ []), more);
      in_turn = λ due. absurd (true≢false (sym due ∙ full));
      adds = part.adds;
      removes = rising_next before.removes t part.removes (and_parts (is_next before.removes t) (not (has triple_cmp t before.adds)) next).0;
      readable = subst (AllByRecursion HasReadableTerms) (append_assoc before.adds before.removes (t ∷ [])) (all_append HasReadableTerms (before.adds ++ before.removes) (t ∷ []) part.readable (readable, tt));
      apart = apart_with before.adds before.removes t part.apart (not_there (is_next before.removes t) (has triple_cmp t before.adds) next);
    }

    by : (b : Bool) → is_adding before ≡ b → cond b (is_next before.adds t) (is_next before.removes t && not (has triple_cmp t before.adds)) ≡ true →
        IsPart (cond b (record { head = before.head; adds = before.adds ++ t ∷ []; removes = before.removes }) (record { head = before.head; adds = before.adds; removes = before.removes ++ t ∷ [] }))
    by true due next = adding due next
    by false full next = removing full next

-- before the first triple, too
pub opened_part : (line : List ℕ) (head : Head) → IsHead line head → IsPart (opened head)
opened_part line head is = record {
  head = record { text = refl; numbered = is.numbered; number = is.number; adds = is.adds; removes = is.removes };
  few_adds = omega arith;
  few_removes = omega arith;
  in_turn = λ _. refl;
  adds = tt;
  removes = tt;
  readable = tt;
  apart = λ s _. refl;
}

-- ---- what is given, and what is left

-- the lines of what is given or left are those that were read
settled_lines : (begun : Begun) → MatchOption (given begun) (lines_read (left begun) ≡ lines_read (Some begun)) (λ item. record_lines item ≡ lines_read (Some begun))
unfolding given left
settled_lines begun = by (all_read begun) refl
  where
    counted : all_read begun ≡ true → head_of (patch_read begun) ≡ begun.head
    counted whole =
        let adds : length begun.adds ≡ begun.head.adds = grind (arith, nat_tests) in
        let removes : length begun.removes ≡ begun.head.removes = grind (arith, nat_tests) in
        λ i. record { number = begun.head.number; adds = adds i; removes = removes i }

    by : (b : Bool) → all_read begun ≡ b → MatchOption (cond b (Some (patch_read begun)) None) (lines_read (cond b None (Some begun)) ≡ lines_read (Some begun)) (λ item. record_lines item ≡ lines_read (Some begun))
    by true whole = ap (λ head. lines_with head (begun.adds ++ begun.removes)) (counted whole)
    by false lacks = refl

-- the line stands behind those that were read
grown_lines : (old : Option Begun) (line : List ℕ) (begun : Begun) → IfSome old IsUnfinished → Grows old line begun → lines_read (Some begun) ≡ lines_read old ++ line ∷ []
unfolding with_triple
grown_lines None line begun unfinished grows = rw grows.1 (ap (λ l. l ∷ []) (sym grows.0.text))
grown_lines (Some before) line begun unfinished grows =
    let t = grows.0 in
    ap (λ b. lines_with b.head (b.adds ++ b.removes)) grows.3 ∙ by (is_adding before) refl ∙ ap (λ l. lines_read (Some before) ++ l ∷ []) (sym grows.1.text)
  where
    by : (b : Bool) → is_adding before ≡ b →
        lines_read (Some (cond b (record { head = before.head; adds = before.adds ++ grows.0 ∷ []; removes = before.removes }) (record { head = before.head; adds = before.adds; removes = before.removes ++ grows.0 ∷ [] })))
        ≡ lines_read (Some before) ++ triple_line grows.0 ∷ []
    by true due =
        let none : before.removes ≡ [] = unfinished.part.in_turn due in
        ap (λ l. head_line before.head ∷ map triple_line l) (ap (λ rs. (before.adds ++ grows.0 ∷ []) ++ rs) none ∙ append-nil (before.adds ++ grows.0 ∷ []) ∙ ap (λ l. l ++ grows.0 ∷ []) (sym (ap (λ rs. before.adds ++ rs) none ∙ append-nil before.adds)))
        ∙ ap (λ l. head_line before.head ∷ l) (map-append triple_line (before.adds ++ before.removes) (grows.0 ∷ []))
    by false full =
        ap (λ l. head_line before.head ∷ map triple_line l) (sym (append_assoc before.adds before.removes (grows.0 ∷ [])))
        ∙ ap (λ l. head_line before.head ∷ l) (map-append triple_line (before.adds ++ before.removes) (grows.0 ∷ []))

-- a line that was taken stands behind those before it, in what is left or in the record that is given
pub taken_lines : (old : Option Begun) (line : List ℕ) (begun : Begun) → IfSome old IsUnfinished → Grows old line begun →
    MatchOption (given begun) (lines_read (left begun) ≡ lines_read old ++ line ∷ []) (λ item. record_lines item ≡ lines_read old ++ line ∷ [])
taken_lines old line begun unfinished grows = by (given begun) (settled_lines begun)
  where
    by : (found : Option PatchRecord) → MatchOption found (lines_read (left begun) ≡ lines_read (Some begun)) (λ item. record_lines item ≡ lines_read (Some begun)) →
        MatchOption found (lines_read (left begun) ≡ lines_read old ++ line ∷ []) (λ item. record_lines item ≡ lines_read old ++ line ∷ [])
    by None is = is ∙ grown_lines old line begun unfinished grows
    by (Some item) is = is ∙ grown_lines old line begun unfinished grows

-- what is given is sound
pub given_sound : (begun : Begun) → IsPart begun → IfSome (given begun) IsSound
unfolding given
given_sound begun part = by (all_read begun)
  where
    by : (b : Bool) → IfSome (cond b (Some (patch_read begun)) None) IsSound
    by true = record { numbered = part.head.numbered; adds = part.adds; removes = part.removes; readable = part.readable; apart = part.apart }
    by false = tt

-- what is left lacks lines
pub left_unfinished : (begun : Begun) → IsPart begun → IfSome (left begun) IsUnfinished
unfolding left
left_unfinished begun part = by (all_read begun) refl
  where
    by : (b : Bool) → all_read begun ≡ b → IfSome (cond b None (Some begun)) IsUnfinished
    by true whole = tt
    by false lacks = record { part = part; lacks = lacks }
