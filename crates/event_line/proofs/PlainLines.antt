-- Lines in the form in which most programs write them have the values that are read of their parts.
use Rattle.std.proofs.Common.{◌≡◌, ℕ, ◌<◌, ◌≤◌, ◌==◌, nat_lt, nat_le, not, Bool, true, false, cond, List, [], ◌∷◌, ◌++◌, length, map, take, suc, ◌+◌, Option, None, Some, IfSome, MatchOption, codes, decimal, inl, refl, sym, ◌∙◌, ap, ap₂, subst, arith, append_assoc, append-nil, le-ltb, lt-ltb, ltb-true, leb-true, ne_eqb}
use Rattle.std.specs.Prelude.{ℤ, Err, Ok, option_and_then}
use Rattle.std.specs.List.{list_all, position, prefix_len}
use Rattle.std.specs.Str.{IsUtf8, is_utf8}
use Rattle.std.proofs.lemmas.List.Sums.{prefix_len-le-length}
use Rattle.std.proofs.lemmas.Bool.{and_parts, not-true, eqb-true}
use Rattle.std.proofs.lemmas.Str.{IsUtf8-append, IsUtf8-nil, IsUtf8-from_ascii, is_utf8-from_IsUtf8}
use Rattle.std.proofs.lemmas.Str.Ascii.{IsAscii-nil, IsAscii-cons}
use Rattle.json.specs.Json as json
use Rattle.json.specs.Lex.{tokens}
use Rattle.json.specs.Print.{ArePrintable, ends, escape, escape_byte, separator, token_text}
use Rattle.json.specs.Spaced.{AreGaps, print_spaced}
use Rattle.json.specs.Token.{Token, begin_array, begin_object, end_array, end_object, key, number, string}
use Rattle.json.specs.Tree.{HasNumbers, depth, json_tokens}
use Rattle.json.proofs.Printed.Tokens.{tokens-print_spaced}
use Rattle.json.proofs.Printed.Trees.{value-json_tokens, ArePrintable-json_tokens}
use Rattle.json.proofs.Printed.Decimals.{IsNumber-decimal}
use Rattle.json.proofs.Printed.Utf8.{IsUtf8-IsGap, IsUtf8-key, IsUtf8-quoted, IsUtf8-separator}
use Rattle.serde_json.specs.Data as datum
use Rattle.serde_json.specs.Data.{Data}
use Rattle.serde_json.specs.Read.{max_depth, of_json, read}
use Rattle.serde_json.proofs.Numbers.{number_of-decimal}
use Rattle.rdf_term.specs.declared.pattern.Pattern.{Pattern}
use Rattle.entity_model.specs.declared.event.Kind.{Kind}
use Rattle.entity_model.specs.declared.id.EntityId.{EntityId}
use Rattle.entity_model.specs.IdOf.{id_of}
use Rattle.delivery.specs.declared.Delivery.TheVariants.{Event as Told, Watermark as Raised, Ask}
use Rattle.event_line.specs.declared.faults.LineCause.TheVariants.{NotJson, Kind as BadKind, Entity, Rev, Time, Mode, Pattern as BadPattern}
use Rattle.event_line.specs.declared.faults.LineCause.{LineCause}
use Rattle.event_line.specs.declared.faults.DeliveryFault.{DeliveryFault}
use Rattle.event_line.specs.declared.faults.DeliveryFault.TheVariants.{Bad, OutOfMemory}
use Rattle.event_line.specs.declared.line.KindName.{KindName}
use Rattle.event_line.specs.Line.{Answers, AnswersPart, data_of, delivered, delivery_in, delivery_of, else_cause, from_one, kind_named, pattern_with, whole_kind}
use Rattle.event_line.specs.Time.{time_of}
use Rattle.event_line.specs.Pieces.{Begins, Closes, HasKey, HasNextText, HasNumber, HasNumberMember, HasText, HasTextMember, is_plain, past_spaces}
use Rattle.event_line.specs.Plain.{ask_data, event_data, watermark_data}

-- ---- spaces

-- what stands behind the spaces follows them
past : (bytes : List ℕ) → Begins [] bytes (past_spaces bytes)
past [] = record { gap = []; is_gap = tt; is = refl }
past (x ∷ xs) = by (x == 32) refl (past xs)
  where
    by : (b : Bool) → (x == 32) ≡ b → Begins [] xs (past_spaces xs) → Begins [] (x ∷ xs) (cond b (past_spaces xs) (x ∷ xs))
    by true same more = record { gap = x ∷ more.gap; is_gap = (inl (eqb-true x 32 same), more.is_gap); is = ap (λ l. x ∷ l) more.is }
    by false other more = record { gap = []; is_gap = tt; is = refl }

-- a front that stands behind the spaces
pub begins : (front bytes rest : List ℕ) → past_spaces bytes ≡ front ++ rest → Begins front bytes rest
begins front bytes rest is =
    let spaces = past bytes in
    record { gap = spaces.gap; is_gap = spaces.is_gap; is = spaces.is ∙ ap (λ l. spaces.gap ++ l) is }

-- what follows from what a clause says of the value in a `Some`
pub some_then : {X : Type 0} (N : Type 0) (o : Option X) {P Q : X → Type 0} → MatchOption o N P → ((x : X) → P x → Q x) → IfSome o Q
some_then N None h f = tt
some_then N (Some x) h f = f x h

-- a text between quotes
pub text_at : (bytes inner text after rest : List ℕ) → Begins (34 ∷ []) bytes inner → inner ≡ text ++ after → after ≡ 34 ∷ rest → list_all is_plain text ≡ true → HasText text bytes rest
text_at bytes inner text after rest quote whole close plain =
    let is : inner ≡ text ++ 34 ∷ rest = whole ∙ ap (λ l. text ++ l) close in
    record {
      is = record {
        gap = quote.gap;
        is_gap = quote.is_gap;
        is = quote.is ∙ ap (λ l. quote.gap ++ 34 ∷ l) (is ∙ sym (append_assoc text (34 ∷ []) rest));
      };
      plain = plain;
    }

-- nothing behind the end of an object
pub closes_at : (bytes rest : List ℕ) → Begins (125 ∷ []) bytes rest → (length rest == 0) ≡ true → Closes bytes
closes_at bytes [] front empty = front
closes_at bytes (x ∷ rest) front empty = absurd (omega (arith, eqb-true (suc (length rest)) 0 empty))

-- ---- plain bytes

-- the bytes before the first one that isn't plain
abbrev before_other : List ℕ → ℕ
before_other bytes = prefix_len (λ b. not (not (is_plain b))) bytes

one_more : (n : ℕ) → 1 + n ≡ suc n
one_more n = omega arith

all_case : (x : ℕ) (xs : List ℕ) (n : ℕ) (b : Bool) → is_plain x ≡ b → list_all is_plain (take n xs) ≡ true → list_all is_plain (take (cond (not (not b)) (1 + n) 0) (x ∷ xs)) ≡ true
all_case x xs n false is h = refl
all_case x xs n true is h = rw (one_more n) (rw is h)

all_before : (bytes : List ℕ) → list_all is_plain (take (before_other bytes) bytes) ≡ true
all_before [] = refl
all_before (x ∷ xs) = all_case x xs (before_other xs) (is_plain x) refl (all_before xs)

place_of : (bytes : List ℕ) (b : Bool) → IfSome (cond b (Some (before_other bytes)) None) (λ end. (end ≤ length bytes) × (list_all is_plain (take end bytes) ≡ true))
place_of bytes true = (prefix_len-le-length _ bytes, all_before bytes)
place_of bytes false = tt

pub plain_place : (bytes : List ℕ) → IfSome (position (λ b. not (is_plain b)) bytes) (λ end. (end ≤ length bytes) × (list_all is_plain (take end bytes) ≡ true))
plain_place bytes = place_of bytes (nat_lt (before_other bytes) (length bytes))

record Plain (x : ℕ) : Type 0 where
  above : 32 ≤ x
  below : x < 128
  no_quote : (x == 34) ≡ false
  no_backslash : (x == 92) ≡ false

plain_byte : (x : ℕ) → is_plain x ≡ true → Plain x
plain_byte x plain =
    let one = and_parts (nat_le 32 x) _ plain in
    let two = and_parts (nat_lt x 128) _ one.1 in
    let three = and_parts (not (x == 34)) _ two.1 in
    record { above = leb-true 32 x one.0; below = ltb-true x 128 two.0; no_quote = not-true (x == 34) three.0; no_backslash = not-true (x == 92) three.1 }

-- one has no escape
escape_byte-plain : (x : ℕ) → Plain x → escape_byte x ≡ x ∷ []
unfolding escape_byte
escape_byte-plain x its =
    let above = its.above in
    rw (its.no_quote, its.no_backslash, ne_eqb x 8 (λ e. omega arith), ne_eqb x 12 (λ e. omega arith), ne_eqb x 10 (λ e. omega arith), ne_eqb x 13 (λ e. omega arith), ne_eqb x 9 (λ e. omega arith), le-ltb x 32 above) refl

escape-plain : (text : List ℕ) → list_all is_plain text ≡ true → escape text ≡ text
escape-plain [] all = refl
escape-plain (x ∷ text) all =
    let parts = and_parts (is_plain x) (list_all is_plain text) all in
    ap₂ (λ a b. a ++ b) (escape_byte-plain x (plain_byte x parts.0)) (escape-plain text parts.1)

-- the texts of tokens that are plain
key_text : (name : List ℕ) → list_all is_plain name ≡ true → token_text (key name) ≡ 34 ∷ (name ++ 34 ∷ 58 ∷ [])
key_text name all = ap (λ l. 34 ∷ ((l ++ 34 ∷ []) ++ 58 ∷ [])) (escape-plain name all) ∙ ap (λ l. 34 ∷ l) (append_assoc name (34 ∷ []) (58 ∷ []))

string_text : (text : List ℕ) → list_all is_plain text ≡ true → token_text (string text) ≡ 34 ∷ (text ++ 34 ∷ [])
string_text text all = ap (λ l. 34 ∷ (l ++ 34 ∷ [])) (escape-plain text all)

ascii_before : (x : ℕ) (xs : List ℕ) → x < 128 → IsUtf8 xs → IsUtf8 (x ∷ xs)
ascii_before x xs low h = IsUtf8-append (x ∷ []) xs (IsUtf8-from_ascii (x ∷ []) (IsAscii-cons x [] low IsAscii-nil)) h

utf8_plain : (text : List ℕ) → list_all is_plain text ≡ true → IsUtf8 text
utf8_plain [] all = IsUtf8-nil
utf8_plain (x ∷ text) all = let parts = and_parts (is_plain x) (list_all is_plain text) all in ascii_before x text (plain_byte x parts.0).below (utf8_plain text parts.1)

-- ---- lines as tokens with spaces before them

-- the bytes are these tokens, each with spaces before it
record Prints (after_value : Bool) (ts : List Token) (bytes : List ℕ) : Type 0 where
  printed : List (List ℕ × Token)
  gaps : AreGaps printed
  tokens_are : map (λ p. p.1) printed ≡ ts
  is : bytes ≡ print_spaced after_value printed
  utf8 : IsUtf8 bytes

nothing : (c : Bool) → Prints c [] []
unfolding print_spaced
nothing c = record { printed = []; gaps = tt; tokens_are = refl; is = refl; utf8 = IsUtf8-nil }

-- one more token in front
one : (c : Bool) (t : Token) (ts : List Token) (bytes inner rest : List ℕ) → bytes ≡ separator c t ++ inner → Begins (token_text t) inner rest → IsUtf8 (token_text t) → Prints (ends t) ts rest → Prints c (t ∷ ts) bytes
unfolding print_spaced
one c t ts bytes inner rest is front utf8 more =
    let whole : bytes ≡ separator c t ++ (front.gap ++ (token_text t ++ rest)) = is ∙ ap (λ l. separator c t ++ l) front.is in
    record {
      printed = (front.gap, t) ∷ more.printed;
      gaps = (front.is_gap, more.gaps);
      tokens_are = ap (λ l. t ∷ l) more.tokens_are;
      is = whole ∙ ap (λ l. separator c t ++ (front.gap ++ (token_text t ++ l))) more.is;
      utf8 = subst IsUtf8 (sym whole) (IsUtf8-append _ _ (IsUtf8-separator c t) (IsUtf8-append _ _ (IsUtf8-IsGap front.gap front.is_gap) (IsUtf8-append _ _ utf8 more.utf8)));
    }

-- a text, which may stand behind a comma
a_text : (c : Bool) (text : List ℕ) (ts : List Token) (bytes inner rest : List ℕ) → bytes ≡ separator c (string text) ++ inner → HasText text inner rest → Prints true ts rest → Prints c (string text ∷ ts) bytes
a_text c text ts bytes inner rest is has more =
    one c (string text) ts bytes inner rest is (subst (λ f. Begins f inner rest) (sym (string_text text has.plain)) has.is) (IsUtf8-quoted text (utf8_plain text has.plain)) more

-- a number
a_number : (n : ℕ) (ts : List Token) (bytes rest : List ℕ) → HasNumber n bytes rest → Prints true ts rest → Prints false (number (decimal n) ∷ ts) bytes
a_number n ts bytes rest has more = one false (number (decimal n)) ts bytes bytes rest refl has.is has.utf8 more

-- a bracket
a_bracket : (c : Bool) (t : Token) (x : ℕ) (ts : List Token) (bytes rest : List ℕ) → separator c t ≡ [] → token_text t ≡ x ∷ [] → x < 128 → Begins (x ∷ []) bytes rest → Prints (ends t) ts rest → Prints c (t ∷ ts) bytes
a_bracket c t x ts bytes rest no_comma is low front more =
    one c t ts bytes bytes rest (ap (λ l. l ++ bytes) (sym no_comma)) (subst (λ f. Begins f bytes rest) (sym is) front) (subst IsUtf8 (sym is) (ascii_before x [] low IsUtf8-nil)) more

-- a key behind a brace, and one behind a comma
module _ (name : List ℕ) (plain : list_all is_plain name ≡ true) (ts : List Token) (bytes rest : List ℕ) where
  first_key : HasKey 123 (34 ∷ (name ++ 34 ∷ 58 ∷ [])) bytes rest → Prints false ts rest → Prints false (begin_object ∷ key name ∷ ts) bytes
  first_key has more =
      a_bracket false begin_object 123 (key name ∷ ts) bytes has.inner refl refl (omega arith) (record { gap = []; is_gap = tt; is = has.is })
      (one false (key name) ts has.inner has.inner rest refl (subst (λ f. Begins f has.inner rest) (sym (key_text name plain)) has.key_is) (IsUtf8-key name (utf8_plain name plain)) more)

  next_key : HasKey 44 (34 ∷ (name ++ 34 ∷ 58 ∷ [])) bytes rest → Prints false ts rest → Prints true (key name ∷ ts) bytes
  next_key has more =
      one true (key name) ts bytes has.inner rest has.is (subst (λ f. Begins f has.inner rest) (sym (key_text name plain)) has.key_is) (IsUtf8-key name (utf8_plain name plain)) more

-- the end of the object, and of the line
the_end : (bytes : List ℕ) → Closes bytes → Prints true (end_object ∷ []) bytes
the_end bytes closes = a_bracket true end_object 125 [] bytes [] refl refl (omega arith) closes (nothing true)

-- ---- their values

-- what is read of tokens that are one value and no more
abbrev whole : Option (json.Json × List Token) → Option Data
whole o = option_and_then of_json (option_and_then (λ p. json.if_last p.0 p.1) o)

line_value : (tree : json.Json) (value : Data) (line : List ℕ) → Prints false (json_tokens tree) line → HasNumbers tree → depth tree ≤ max_depth → of_json tree ≡ Some value → data_of line ≡ Some value
line_value tree value line prints numbers low is =
    let printable : ArePrintable (map (λ p. p.1) prints.printed) = subst ArePrintable (sym prints.tokens_are) (ArePrintable-json_tokens tree numbers) in
    let told : tokens line ≡ json_tokens tree = ap tokens prints.is ∙ tokens-print_spaced prints.printed prints.gaps printable ∙ prints.tokens_are in
    let told_value : read line ≡ Some value =
    ap whole (ap (json.value max_depth) (told ∙ sym (append-nil _)) ∙ value-json_tokens tree max_depth [] low) ∙ is in
    let valid : is_utf8 line ≡ true = is_utf8-from_IsUtf8 line prints.utf8 in
    rw valid told_value

abbrev event_tree : List ℕ → List ℕ → ℕ → List ℕ → json.Json
event_tree kind entity rev time =
    json.object (json.member (codes "kind") (json.string kind)
    (json.member (codes "entity") (json.string entity)
    (json.member (codes "rev") (json.number (decimal rev))
    (json.member (codes "time") (json.string time) json.no_members))))

-- an event's line
pub event_value : (line kind entity : List ℕ) (rev : ℕ) (time b c d e : List ℕ) → HasTextMember 123 (codes "\"kind\":") kind line b → HasTextMember 44 (codes "\"entity\":") entity b c →
    HasNumberMember 44 (codes "\"rev\":") rev c d → HasTextMember 44 (codes "\"time\":") time d e → Closes e → data_of line ≡ Some (event_data kind entity rev time)
event_value line kind entity rev time b c d e first second third fourth closes =
    let prints : Prints false (json_tokens (event_tree kind entity rev time)) line =
    first_key (codes "kind") refl _ line first.value first.key_is (a_text false kind _ first.value first.value b refl first.text_is
    (next_key (codes "entity") refl _ b second.value second.key_is (a_text false entity _ second.value second.value c refl second.text_is
    (next_key (codes "rev") refl _ c third.value third.key_is (a_number rev _ third.value d third.number_is
    (next_key (codes "time") refl _ d fourth.value fourth.key_is (a_text false time _ fourth.value fourth.value e refl fourth.text_is
    (the_end e closes)))))))) in
    line_value (event_tree kind entity rev time) (event_data kind entity rev time) line prints (tt, (tt, (IsNumber-decimal rev third.number_is.small, (tt, tt)))) (omega arith) (rw (number_of-decimal rev third.number_is.small) refl)

-- a watermark's line
pub watermark_value : (line time rest : List ℕ) → HasTextMember 123 (codes "\"watermark\":") time line rest → Closes rest → data_of line ≡ Some (watermark_data time)
watermark_value line time rest only closes =
    let tree = json.object (json.member (codes "watermark") (json.string time) json.no_members) in
    let prints : Prints false (json_tokens tree) line =
    first_key (codes "watermark") refl _ line only.value only.key_is (a_text false time _ only.value only.value rest refl only.text_is (the_end rest closes)) in
    line_value tree (watermark_data time) line prints (tt, tt) (omega arith) refl

-- a question's line
pub ask_value : (line s p o list a b c d e : List ℕ) → HasKey 123 (codes "\"ask\":") line list → Begins (codes "[") list a → HasText s a b → HasNextText p b c → HasNextText o c d → Begins (codes "]") d e → Closes e →
    data_of line ≡ Some (ask_data s p o)
ask_value line s p o list a b c d e key_is opens first second third shuts closes =
    let tree = json.object (json.member (codes "ask") (json.array (json.item (json.string s) (json.item (json.string p) (json.item (json.string o) json.no_items)))) json.no_members) in
    let prints : Prints false (json_tokens tree) line =
    first_key (codes "ask") refl _ line list key_is (a_bracket false begin_array 91 _ list a refl refl (omega arith) opens
    (a_text false s _ a a b refl first
    (a_text true p _ b second.inner c second.is second.text_is
    (a_text true o _ c third.inner d third.is third.text_is
    (a_bracket true end_array 93 _ d e refl refl (omega arith) shuts
    (the_end e closes)))))) in
    line_value tree (ask_data s p o) line prints ((tt, (tt, (tt, tt))), tt) (omega arith) refl

-- ---- what they deliver

-- by the value of a line
pub delivers : (line : List ℕ) (value : Data) → data_of line ≡ Some value → delivery_of line ≡ delivery_in value
delivers line value is = ap (λ (o : Option Data). else_cause NotJson o delivery_in) is

members_deliver : (k : Option KindName) (e : Option EntityId) (r : Option ℕ) (t : Option ℤ) (w : KindName → Option Kind) (name : KindName) (id : EntityId) (rev : ℕ) (at : ℤ) (what : Kind) →
    k ≡ Some name → e ≡ Some id → r ≡ Some rev → t ≡ Some at → w name ≡ Some what →
    delivered (else_cause BadKind k (λ n. else_cause Entity e (λ entity. else_cause Rev r (λ number. else_cause Time t (λ time. else_cause Mode (w n) (λ kind. Ok (record { entity = entity; time = time; rev = number; kind = kind })))))))
    ≡ Ok (Told (record { entity = id; time = at; rev = rev; kind = what }))
members_deliver k e r t w name id rev at what a b c d f = rw (a, b, c, d, f) refl

-- an event by its members
pub event_delivers : (kind entity time : List ℕ) (rev : ℕ) (name : KindName) (id : EntityId) (at : ℤ) (what : Kind) → kind_named kind ≡ Some name → id_of entity ≡ Some id → 0 < rev → time_of time ≡ Some at →
    ((json : Data) → whole_kind json name ≡ Some what) → delivery_in (event_data kind entity rev time) ≡ Ok (Told (record { entity = id; time = at; rev = rev; kind = what }))
event_delivers kind entity time rev name id at what is named positive timed whole_is =
    let json = event_data kind entity rev time in
    members_deliver (kind_named kind) (id_of entity) (from_one rev) (time_of time) (whole_kind json) name id rev at what is named (ap (λ b. cond b (Some rev) None) (lt-ltb 0 rev positive)) timed (whole_is json)

-- a watermark by its time
pub watermark_delivers : (line time : List ℕ) (at : Option ℤ) → data_of line ≡ Some (watermark_data time) → at ≡ time_of time → IfSome at (λ t. delivery_of line ≡ Ok (Raised t))
watermark_delivers line time None value is = tt
watermark_delivers line time (Some at) value is = delivers line (watermark_data time) value ∙ ap (λ (o : Option ℤ). else_cause Time o (λ t. Ok (Raised t))) (sym is)

pattern_refused : (o : Option Pattern) (cause : LineCause) → else_cause BadPattern o Ok ≡ Err cause → else_cause BadPattern o (λ pattern. Ok (Ask pattern)) ≡ Err cause
pattern_refused None cause refused = let same : BadPattern ≡ cause = cc in ap Err same
pattern_refused (Some pattern) cause refused = cc

-- a question that is refused
pub ask_refused : (line s p o : List ℕ) (fault : DeliveryFault) → data_of line ≡ Some (ask_data s p o) →
    AnswersPart (else_cause BadPattern (pattern_with (datum.string s) (datum.string p) (datum.string o)) Ok) (Err fault) → Answers line (Err fault)
ask_refused line s p o OutOfMemory value answers = tt
ask_refused line s p o (Bad cause) value answers = delivers line (ask_data s p o) value ∙ pattern_refused (pattern_with (datum.string s) (datum.string p) (datum.string o)) cause answers
