-- The text of a line is UTF-8 where its strings are, and a page is as a document.
use Rattle.std.proofs.Common.{◌≡◌, ℕ, ℤ, pos, negsuc, zero, suc, ◌-◌, ◌/◌, ◌%◌, ◌<◌, ◌==◌, Bool, true, false, cond, codes, List, [], ◌∷◌, ◌++◌, length, take, Option, None, Some, IfSome, refl, sym, subst, arith}
use Rattle.std.specs.Prelude.{⊤, decimal}
use Rattle.std.specs.{Fmt.digits, Fmt.digits_onto, Fmt.digit_glyph, Str.IsUtf8}
use Rattle.std.proofs.{lemmas.Bool.Decides.nat_tests, lemmas.List.take_at}
use Rattle.std.proofs.lemmas.Str.{IsCharBoundary-at_seam, IsUtf8-append, IsUtf8-nil, IsUtf8-take}
use Rattle.json.specs.Print.{quoted}
use Rattle.json.proofs.Printed.Utf8.{IsUtf8-are_ascii, IsUtf8-quoted, are_ascii}
use Rattle.serde_json.specs.Data.{Num, unsigned, negative, float, Data, null, boolean, number, string, array, object, Items, no_items, item, Members, no_members, member}
use Rattle.serde_json.specs.Written.{number_text, comma_if, compact_text, items_text, members_text}
use Rattle.entity_model.specs.{declared.id.EntityId.EntityId, declared.id.IdKind.IdKind, declared.event.Event.Event}
use Rattle.entity_model.specs.declared.event.Kind.{Kind}
use Rattle.entity_model.specs.declared.event.Kind.TheVariants.{Edit, Delete, Undelete, ReconcileDeleted, ReconcileKept}
use Rattle.entity_model.specs.declared.unfit.Unfit.TheVariants.{Large, Deep, NotJson, Shape, Foreign}
use Rattle.entity_model.specs.{EntityId.id_text, IdKind.letter_of}
use Rattle.entity_model.specs.declared.id.IdKind.TheVariants.{P, Q, L}
use Rattle.entity_state.specs.{declared.record.Held.Held, declared.state.Mode.Mode}
use Rattle.entity_state.specs.declared.state.Mode.TheVariants.{Unknown, Kept, Deleted}
use Rattle.entity_json.specs.Document.{unfit_of}
use Rattle.entity_state.specs.declared.entry.Cause.{Cause}
use Rattle.entity_state.specs.declared.entry.Cause.TheVariants.{Missing, Failed, Unfit as NoDocument}
use Rattle.entity_state.specs.declared.entry.Entry.TheVariants.{Late, Revision}
use Rattle.replay_model.specs.{Records.Bytes, Replies.HoldsDocument, Transcript.kind_word, Transcript.cause_word, Transcript.unfit_word}
use Rattle.snapshot.specs.declared.line.Line.{Line}
use Rattle.snapshot.specs.declared.line.Line.TheVariants.{Head as Begins, Remembered, Entity, Side, End}
use Rattle.snapshot.specs.Fit.{HasDocument}
use Rattle.snapshot.specs.LineData.{has_line_feed, held_members, if_some, nat_data, int_data, event_data, held_data, line_data}
use Rattle.snapshot.specs.LineText.{IsClosed, line_text, page_behind, page_of, with_page}
use Rattle.snapshot.specs.Words.{mode_word}
use Rattle.snapshot.proofs.{LineShape.line_closed, LineTextBack.front_is, PageText.page_utf8, PageUtf8.before_rest}

-- the strings are UTF-8, and the keys ASCII
abbrev mutual
  IsText : Data → Type 0
  IsText null = ⊤
  IsText (boolean b) = ⊤
  IsText (number n) = ⊤
  IsText (string s) = IsUtf8 s
  IsText (array ds) = AreTextItems ds
  IsText (object ms) = AreText ms

  AreTextItems : Items → Type 0
  AreTextItems no_items = ⊤
  AreTextItems (item d ds) = IsText d × AreTextItems ds

  AreText : Members → Type 0
  AreText no_members = ⊤
  AreText (member k d ms) = (are_ascii k ≡ true) × (IsText d × AreText ms)

-- ---- numbers

glyph_low : (n : ℕ) → n < 10 → digit_glyph false n < 128
glyph_low n small = grind (arith, nat_tests)

either_utf8 : (b : Bool) (xs ys : List ℕ) → IsUtf8 xs → IsUtf8 ys → IsUtf8 (cond b xs ys)
either_utf8 true xs ys first second = first
either_utf8 false xs ys first second = second

onto_utf8 : (k n : ℕ) (acc : List ℕ) → IsUtf8 acc → IsUtf8 (digits_onto k 10 false n acc)
onto_utf8 zero n acc text = text
onto_utf8 (suc k) n acc text =
    let more : IsUtf8 (digit_glyph false (n % 10) ∷ acc) = before_rest (digit_glyph false (n % 10)) acc (glyph_low (n % 10) (omega arith)) text in
    either_utf8 (n / 10 == 0) (digit_glyph false (n % 10) ∷ acc) _ more (onto_utf8 k (n / 10) (digit_glyph false (n % 10) ∷ acc) more)

decimal_utf8 : (n : ℕ) → IsUtf8 (decimal n)
unfolding digits
decimal_utf8 n = onto_utf8 64 n [] IsUtf8-nil

number_utf8 : (n : Num) → IsUtf8 (number_text n)
number_utf8 (unsigned n) = decimal_utf8 n
number_utf8 (negative (pos n)) = decimal_utf8 n
number_utf8 (negative (negsuc n)) = before_rest 45 (decimal (suc n)) (omega arith) (decimal_utf8 (suc n))
number_utf8 (float x) = IsUtf8-nil

-- ---- a value

comma_utf8 : (later : Bool) → IsUtf8 (comma_if later)
comma_utf8 true = IsUtf8-are_ascii (44 ∷ []) refl
comma_utf8 false = IsUtf8-nil

mutual
  text_utf8 : (d : Data) → IsText d → IsUtf8 (compact_text d)
  text_utf8 null is = IsUtf8-are_ascii _ refl
  text_utf8 (boolean true) is = IsUtf8-are_ascii _ refl
  text_utf8 (boolean false) is = IsUtf8-are_ascii _ refl
  text_utf8 (number n) is = number_utf8 n
  text_utf8 (string s) is = IsUtf8-quoted s is
  text_utf8 (array ds) is = before_rest 91 (items_text false ds) (omega arith) (items_utf8 false ds is)
  text_utf8 (object ms) is = before_rest 123 (members_text false ms) (omega arith) (members_utf8 false ms is)

  items_utf8 : (later : Bool) (ds : Items) → AreTextItems ds → IsUtf8 (items_text later ds)
  items_utf8 later no_items is = IsUtf8-are_ascii (93 ∷ []) refl
  items_utf8 later (item d ds) is =
      IsUtf8-append (comma_if later) (compact_text d ++ items_text true ds) (comma_utf8 later) (IsUtf8-append (compact_text d) (items_text true ds) (text_utf8 d is.0) (items_utf8 true ds is.1))

  members_utf8 : (later : Bool) (ms : Members) → AreText ms → IsUtf8 (members_text later ms)
  members_utf8 later no_members is = IsUtf8-are_ascii (125 ∷ []) refl
  members_utf8 later (member k d ms) is =
      IsUtf8-append (comma_if later) (quoted k ++ 58 ∷ (compact_text d ++ members_text true ms)) (comma_utf8 later)
      (IsUtf8-append (quoted k) (58 ∷ (compact_text d ++ members_text true ms)) (IsUtf8-quoted k (IsUtf8-are_ascii k is.0))
      (before_rest 58 (compact_text d ++ members_text true ms) (omega arith) (IsUtf8-append (compact_text d) (members_text true ms) (text_utf8 d is.1.0) (members_utf8 true ms is.1.1))))

-- ---- the words

kind_utf8 : (k : Kind) → IsUtf8 (kind_word k)
unfolding kind_word
kind_utf8 Edit = IsUtf8-are_ascii _ refl
kind_utf8 Delete = IsUtf8-are_ascii _ refl
kind_utf8 Undelete = IsUtf8-are_ascii _ refl
kind_utf8 ReconcileDeleted = IsUtf8-are_ascii _ refl
kind_utf8 ReconcileKept = IsUtf8-are_ascii _ refl

mode_utf8 : (m : Mode) → IsUtf8 (mode_word m)
unfolding mode_word
mode_utf8 Unknown = IsUtf8-are_ascii _ refl
mode_utf8 Kept = IsUtf8-are_ascii _ refl
mode_utf8 Deleted = IsUtf8-are_ascii _ refl

cause_utf8 : (c : Cause) → IsUtf8 (cause_word c)
unfolding cause_word unfit_word
cause_utf8 Missing = IsUtf8-are_ascii _ refl
cause_utf8 Failed = IsUtf8-are_ascii _ refl
cause_utf8 (NoDocument Large) = IsUtf8-are_ascii _ refl
cause_utf8 (NoDocument Deep) = IsUtf8-are_ascii _ refl
cause_utf8 (NoDocument NotJson) = IsUtf8-are_ascii _ refl
cause_utf8 (NoDocument Shape) = IsUtf8-are_ascii _ refl
cause_utf8 (NoDocument Foreign) = IsUtf8-are_ascii _ refl

letter_low : (k : IdKind) → letter_of k < 128
letter_low P = omega arith
letter_low Q = omega arith
letter_low L = omega arith

id_utf8 : (x : EntityId) → IsUtf8 (id_text x)
id_utf8 x = before_rest (letter_of x.kind) (decimal x.number) (letter_low x.kind) (decimal_utf8 x.number)

-- ---- a line

nat_text : (o : Option ℕ) → IsText (if_some nat_data o)
nat_text None = tt
nat_text (Some n) = tt

int_text : (o : Option ℤ) → IsText (if_some int_data o)
int_text None = tt
int_text (Some z) = tt

event_text : (e : Event) → IsText (event_data e)
event_text e = (refl, (id_utf8 e.entity, (refl, (kind_utf8 e.kind, (refl, (tt, (refl, (tt, tt))))))))

event_some_text : (o : Option Event) → IsText (if_some event_data o)
event_some_text None = tt
event_some_text (Some e) = event_text e

held_text : (x : EntityId) (o : Option (Held Bytes)) → HoldsDocument unfit_of x o → IsText (if_some held_data o)
held_text x None document = tt
held_text x (Some h) document = by (has_line_feed h.content)
  where
    by : (b : Bool) → AreText (held_members b h)
    by true = (refl, (page_utf8 x h.content document, (refl, (tt, tt))))
    by false = (refl, (tt, tt))

line_is_text : (line : Line) → HasDocument line → IsText (line_data line)
line_is_text (Begins h) document =
    (refl, (tt, (refl, (nat_text h.horizon, (refl, (tt, (refl, (tt, (refl, (int_text h.mark, (refl, (tt, (refl, (tt, (refl, (tt, tt))))))))))))))))
line_is_text (Remembered e) document = event_text e
line_is_text (Entity x r) document =
    (refl, (id_utf8 x, (refl, (held_text x r.held document, (refl, (event_some_text r.reconciled, (refl, (tt, (refl, (mode_utf8 r.state.mode, tt))))))))))
line_is_text (Side (Late e)) document = (refl, (IsUtf8-are_ascii _ refl, (refl, (event_text e, tt))))
line_is_text (Side (Revision e r cause)) document = (refl, (cause_utf8 cause, (refl, (event_text e, (refl, (tt, tt))))))
line_is_text (End n) document = (refl, (tt, tt))

page_of_utf8 : (x : EntityId) (o : Option (Held Bytes)) → HoldsDocument unfit_of x o → IfSome (page_of o) IsUtf8
page_of_utf8 x None document = tt
page_of_utf8 x (Some h) document = by (has_line_feed h.content)
  where
    by : (b : Bool) → IfSome (cond b None (Some h.content)) IsUtf8
    by true = tt
    by false = page_utf8 x h.content document

behind_utf8 : (line : Line) → HasDocument line → IfSome (page_behind line) IsUtf8
behind_utf8 (Begins h) document = tt
behind_utf8 (Remembered e) document = tt
behind_utf8 (Entity x r) document = page_of_utf8 x r.held document
behind_utf8 (Side entry) document = tt
behind_utf8 (End n) document = tt

-- the text without its closing brace
front_utf8 : (front : List ℕ) → IsUtf8 (front ++ codes "}") → IsUtf8 front
front_utf8 front text =
    let brace : List ℕ = 125 ∷ [] in
    subst IsUtf8 (take_at front brace (length front) refl)
    (IsUtf8-take (front ++ brace) (length front) text (IsCharBoundary-at_seam (front ++ brace) front brace refl (IsUtf8-are_ascii brace refl)))

with_page_utf8 : (behind : Option Bytes) (text : List ℕ) → IsClosed text → IsUtf8 text → IfSome behind IsUtf8 → IsUtf8 (with_page behind text)
with_page_utf8 None text closed utf8 page = utf8
with_page_utf8 (Some p) text closed utf8 page =
    let front : IsUtf8 (take (length text - 1) text) = subst IsUtf8 (sym (front_is closed.0 text closed.1)) (front_utf8 closed.0 (subst IsUtf8 closed.1 utf8)) in
    IsUtf8-append (take (length text - 1) text ++ codes ",\t\"page\":" ++ p) (codes "}")
    (IsUtf8-append (take (length text - 1) text ++ codes ",\t\"page\":") p
    (IsUtf8-append (take (length text - 1) text) (codes ",\t\"page\":") front (IsUtf8-are_ascii _ refl)) page) (IsUtf8-are_ascii _ refl)

pub line_utf8 : (line : Line) → HasDocument line → IsUtf8 (line_text line)
line_utf8 line document =
    with_page_utf8 (page_behind line) (compact_text (line_data line)) (line_closed line) (text_utf8 (line_data line) (line_is_text line document)) (behind_utf8 line document)
