-- The text of a line is no longer than a reader of lines allows: a byte of a string is at most six, and a page has at most 8,388,608.
use Rattle.std.proofs.Common.{◌≡◌, ℕ, ℤ, pos, negsuc, zero, suc, ◌+◌, ◌-◌, ◌*◌, ◌/◌, ◌%◌, ◌≤◌, ◌==◌, Bool, true, false, cond, codes, List, [], ◌∷◌, ◌++◌, length, take, Option, None, Some, IfSome, Err, refl, nat_lt, arith, length-append, length-take}
use Rattle.std.specs.Prelude.{decimal}
use Rattle.std.specs.{Fmt.digits, Fmt.digits_onto, Fmt.digit_glyph, Char.digit_char}
use Rattle.std.proofs.lemmas.Bool.Decides.{nat_tests}
use Rattle.json.specs.Print.{escape_letter, escape_byte, escape, quoted}
use Rattle.json_spell.specs.Scan.{is_deep_text}
use Rattle.serde_json.specs.Data.{Num, unsigned, negative, float, Data, null, boolean, number, string, array, object, Items, no_items, item, Members, no_members, member}
use Rattle.serde_json.specs.Written.{number_text, comma_if, compact_text, items_text, members_text}
use Rattle.entity_model.specs.{declared.id.EntityId.EntityId, declared.event.Event.Event, declared.event.Kind.Kind}
use Rattle.entity_model.specs.declared.event.Kind.TheVariants.{Edit, Delete, Undelete, ReconcileDeleted, ReconcileKept}
use Rattle.entity_model.specs.declared.unfit.Unfit.TheVariants.{Large, Deep, NotJson, Shape, Foreign}
use Rattle.entity_model.specs.EntityId.{id_text}
use Rattle.entity_state.specs.{declared.record.Held.Held, declared.state.Mode.Mode}
use Rattle.entity_state.specs.declared.state.Mode.TheVariants.{Unknown, Kept, Deleted}
use Rattle.entity_json.specs.Document.{page_limit, tree_of, document_in, document_or_cause, unfit_by, unfit_of}
use Rattle.entity_state.specs.declared.entry.Cause.{Cause}
use Rattle.entity_state.specs.declared.entry.Cause.TheVariants.{Missing, Failed, Unfit as NoDocument}
use Rattle.entity_state.specs.declared.entry.Entry.TheVariants.{Late, Revision}
use Rattle.replay_model.specs.{Records.Bytes, Replies.HoldsDocument, Transcript.kind_word, Transcript.cause_word, Transcript.unfit_word}
use Rattle.snapshot.specs.declared.line.Line.{Line}
use Rattle.snapshot.specs.declared.line.Line.TheVariants.{Head as Begins, Remembered, Entity, Side, End}
use Rattle.snapshot.specs.Fit.{HasDocument}
use Rattle.snapshot.specs.LineData.{has_line_feed, held_members, if_some, nat_data, int_data, event_data, held_data, line_data}
use Rattle.snapshot.specs.{LineText.line_text, LineText.page_behind, LineText.page_of, LineText.with_page, Words.mode_word}
use Rattle.snapshot.proofs.PageText.{some_none}

either_length : (b : Bool) (xs ys : List ℕ) (m : ℕ) → length xs ≤ m → length ys ≤ m → length (cond b xs ys) ≤ m
either_length true xs ys m first second = first
either_length false xs ys m first second = second

-- ---- numbers

onto_length : (k n : ℕ) (acc : List ℕ) → length (digits_onto k 10 false n acc) ≤ k + length acc
onto_length zero n acc = omega arith
onto_length (suc k) n acc =
    let more : length (digits_onto k 10 false (n / 10) (digit_glyph false (n % 10) ∷ acc)) ≤ k + length (digit_glyph false (n % 10) ∷ acc) = onto_length k (n / 10) (digit_glyph false (n % 10) ∷ acc) in
    either_length (n / 10 == 0) (digit_glyph false (n % 10) ∷ acc) (digits_onto k 10 false (n / 10) (digit_glyph false (n % 10) ∷ acc)) (suc k + length acc) (omega arith) (omega arith)

decimal_length : (n : ℕ) → length (decimal n) ≤ 64
unfolding digits
decimal_length n = onto_length 64 n []

number_length : (n : Num) → length (number_text n) ≤ 65
number_length (unsigned n) = omega (arith, decimal_length n)
number_length (negative (pos n)) = omega (arith, decimal_length n)
number_length (negative (negsuc n)) = omega (arith, decimal_length (suc n))
number_length (float x) = omega arith

-- ---- strings

byte_length : (x : ℕ) → length (escape_byte x) ≤ 6
unfolding escape_byte
byte_length x =
    either_length (nat_lt 0 (escape_letter x)) (92 ∷ escape_letter x ∷ []) _ 6 (omega arith)
    (either_length (nat_lt x 32) (92 ∷ 117 ∷ 48 ∷ 48 ∷ digit_char (x / 16) ∷ digit_char (x % 16) ∷ []) (x ∷ []) 6 (omega arith) (omega arith))

escape_length : (s : List ℕ) → length (escape s) ≤ 6 * length s
escape_length [] = omega arith
escape_length (x ∷ s) = omega (arith, length-append (escape_byte x) (escape s), byte_length x, escape_length s)

quoted_length : (s : List ℕ) → length (quoted s) ≤ 6 * length s + 2
quoted_length s = omega (arith, length-append (escape s) (34 ∷ []), escape_length s)

-- ---- a value

-- no more bytes than these
abbrev mutual
  bound : Data → ℕ
  bound null = 4
  bound (boolean b) = 5
  bound (number n) = 65
  bound (string s) = 6 * length s + 2
  bound (array ds) = 1 + items_bound ds
  bound (object ms) = 1 + members_bound ms

  items_bound : Items → ℕ
  items_bound no_items = 1
  items_bound (item d ds) = 1 + (bound d + items_bound ds)

  members_bound : Members → ℕ
  members_bound no_members = 1
  members_bound (member k d ms) = 6 * length k + 4 + (bound d + members_bound ms)

comma_length : (later : Bool) → length (comma_if later) ≤ 1
comma_length true = omega arith
comma_length false = omega arith

mutual
  text_length : (d : Data) → length (compact_text d) ≤ bound d
  text_length null = omega arith
  text_length (boolean true) = omega arith
  text_length (boolean false) = omega arith
  text_length (number n) = number_length n
  text_length (string s) = quoted_length s
  text_length (array ds) = omega (arith, items_length false ds)
  text_length (object ms) = omega (arith, members_length false ms)

  items_length : (later : Bool) (ds : Items) → length (items_text later ds) ≤ items_bound ds
  items_length later no_items = omega arith
  items_length later (item d ds) =
      omega (
        arith,
        length-append (comma_if later) (compact_text d ++ items_text true ds),
        length-append (compact_text d) (items_text true ds),
        comma_length later,
        text_length d,
        items_length true ds,
      )

  members_length : (later : Bool) (ms : Members) → length (members_text later ms) ≤ members_bound ms
  members_length later no_members = omega arith
  members_length later (member k d ms) =
      omega (
        arith,
        length-append (comma_if later) (quoted k ++ 58 ∷ (compact_text d ++ members_text true ms)),
        length-append (quoted k) (58 ∷ (compact_text d ++ members_text true ms)),
        length-append (compact_text d) (members_text true ms),
        comma_length later,
        quoted_length k,
        text_length d,
        members_length true ms,
      )

-- ---- the words

kind_length : (k : Kind) → length (kind_word k) ≤ 32
unfolding kind_word
kind_length Edit = omega arith
kind_length Delete = omega arith
kind_length Undelete = omega arith
kind_length ReconcileDeleted = omega arith
kind_length ReconcileKept = omega arith

mode_length : (m : Mode) → length (mode_word m) ≤ 32
unfolding mode_word
mode_length Unknown = omega arith
mode_length Kept = omega arith
mode_length Deleted = omega arith

cause_length : (c : Cause) → length (cause_word c) ≤ 32
unfolding cause_word unfit_word
cause_length Missing = omega arith
cause_length Failed = omega arith
cause_length (NoDocument Large) = omega arith
cause_length (NoDocument Deep) = omega arith
cause_length (NoDocument NotJson) = omega arith
cause_length (NoDocument Shape) = omega arith
cause_length (NoDocument Foreign) = omega arith

id_length : (x : EntityId) → length (id_text x) ≤ 65
id_length x = omega (arith, decimal_length x.number)

-- ---- a page

page_length : (x : EntityId) (bytes : List ℕ) → unfit_of x bytes ≡ None → length bytes ≤ 8388608
unfolding document_or_cause tree_of
page_length x bytes h = by (nat_lt page_limit (length bytes)) refl h
  where
    by : (a : Bool) → nat_lt page_limit (length bytes) ≡ a → unfit_by (cond a (Err Large) (cond (is_deep_text bytes) (Err Deep) (document_in x (tree_of bytes)))) ≡ None → length bytes ≤ 8388608
    by true is h = some_none Large h
    by false is h = grind (arith, nat_tests)

-- ---- a line

nat_bound : (o : Option ℕ) → bound (if_some nat_data o) ≤ 65
nat_bound None = omega arith
nat_bound (Some n) = omega arith

int_bound : (o : Option ℤ) → bound (if_some int_data o) ≤ 65
int_bound None = omega arith
int_bound (Some z) = omega arith

event_bound : (e : Event) → bound (event_data e) ≤ 4096
event_bound e = omega (arith, id_length e.entity, kind_length e.kind)

event_some_bound : (o : Option Event) → bound (if_some event_data o) ≤ 4096
event_some_bound None = omega arith
event_some_bound (Some e) = event_bound e

members_bounded : (b : Bool) (h : Held Bytes) → length h.content ≤ 8388608 → bound (object (held_members b h)) ≤ 50335744
members_bounded true h short = omega arith
members_bounded false h short = omega arith

held_bound : (x : EntityId) (o : Option (Held Bytes)) → HoldsDocument unfit_of x o → bound (if_some held_data o) ≤ 50335744
held_bound x None document = omega arith
held_bound x (Some h) document = members_bounded (has_line_feed h.content) h (page_length x h.content document)

line_bound : (line : Line) → HasDocument line → bound (line_data line) ≤ 58720000
line_bound (Begins h) document = omega (arith, nat_bound h.horizon, int_bound h.mark)
line_bound (Remembered e) document = omega (arith, event_bound e)
line_bound (Entity x r) document = omega (arith, id_length x, mode_length r.state.mode, event_some_bound r.reconciled, held_bound x r.held document)
line_bound (Side (Late e)) document = omega (arith, event_bound e)
line_bound (Side (Revision e r cause)) document = omega (arith, event_bound e, cause_length cause)
line_bound (End n) document = omega arith

page_of_length : (x : EntityId) (o : Option (Held Bytes)) → HoldsDocument unfit_of x o → IfSome (page_of o) (λ page. length page ≤ 8388608)
page_of_length x None document = tt
page_of_length x (Some h) document = by (has_line_feed h.content)
  where
    by : (b : Bool) → IfSome (cond b None (Some h.content)) (λ page. length page ≤ 8388608)
    by true = tt
    by false = page_length x h.content document

behind_length : (line : Line) → HasDocument line → IfSome (page_behind line) (λ page. length page ≤ 8388608)
behind_length (Begins h) document = tt
behind_length (Remembered e) document = tt
behind_length (Entity x r) document = page_of_length x r.held document
behind_length (Side entry) document = tt
behind_length (End n) document = tt

with_page_length : (behind : Option Bytes) (text : List ℕ) → IfSome behind (λ page. length page ≤ 8388608) → length (with_page behind text) ≤ length text + 8388618
with_page_length None text short = omega arith
with_page_length (Some page) text short =
    let front : List ℕ = take (length text - 1) text in
    omega (
      arith,
      length-append (front ++ codes ",\t\"page\":" ++ page) (codes "}"),
      length-append (front ++ codes ",\t\"page\":") page,
      length-append front (codes ",\t\"page\":"),
      length-take (length text - 1) text,
    )

pub line_length : (line : Line) → HasDocument line → length (line_text line) ≤ 67108864
line_length line document =
    omega (arith, text_length (line_data line), line_bound line document, with_page_length (page_behind line) (compact_text (line_data line)) (behind_length line document))
