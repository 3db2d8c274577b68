-- How the reader goes over bytes, step by step: functions from the bytes to what is read at their front and what follows it.
-- Clauses of the readers cite them, and what a document of an entity is stands on them; that they agree with the grammar is
-- proved.
use Rattle.std.specs.Prelude.{ℕ, zero, suc, ◌-◌, List, [], ◌∷◌, ◌++◌, length, take, Bool, true, false, cond, ◌&&◌, ◌==◌, Option, Some, None, option_map, option_and_then, encode_utf8}
use Rattle.std.specs.Char.{is_ascii_digit}
use Rattle.std.specs.Str.{is_utf8}
use lib.Utf8.{scalar}
use Rattle.json_spell.specs.Tree.{Tree, null, boolean, number, string, array, object, Trees, no_trees, tree, Pairs, no_pairs, pair, first_there}
use Rattle.json_spell.specs.Number.{is_digit1_9, is_minus, is_sign, is_point, is_e}
use Rattle.json_spell.specs.Text.{is_unescaped, short_escape, code_unit, is_high_surrogate, is_low_surrogate, surrogate_pair}
use Rattle.json_spell.specs.Grammar.{is_ws, null_name, true_name, false_name}

-- what is read, and the bytes that follow
abbrev pub Parse : Type 0 → Type 0
Parse A = List ℕ → Option (A × List ℕ)

-- the same with what is read changed
abbrev pub read_map : {A B : Type 0} → (A → B) → Option (A × List ℕ) → Option (B × List ℕ)
read_map f r = option_map (λ p. (f p.0, p.1)) r

infixl 10 ◌>>=◌
abbrev pub ◌>>=◌ : {A B : Type 0} → Option A → (A → Option B) → Option B
o >>= f = option_and_then f o

-- what follows the bytes at the front that pass a test
abbrev pub skip : (ℕ → Bool) → List ℕ → List ℕ
skip test [] = []
skip test (x ∷ s) = cond (test x) (skip test s) (x ∷ s)

-- what follows a byte, where it stands at the front
abbrev pub after_byte : ℕ → List ℕ → Option (List ℕ)
after_byte byte [] = None
after_byte byte (x ∷ s) = cond (x == byte) (Some s) None

-- the bytes before what is left of them
abbrev pub before : List ℕ → List ℕ → List ℕ
before rest s = take (length s - length rest) s

-- what follows a byte that passes a test, where one stands at the front
abbrev pub skip_one : (ℕ → Bool) → List ℕ → List ℕ
skip_one test [] = []
skip_one test (x ∷ s) = cond (test x) s (x ∷ s)

-- what follows one digit or more
abbrev pub after_digits : List ℕ → Option (List ℕ)
after_digits [] = None
after_digits (x ∷ s) = cond (is_ascii_digit x) (Some (skip is_ascii_digit s)) None

abbrev pub after_int : List ℕ → Option (List ℕ)
after_int [] = None
after_int (x ∷ s) = cond (x == 0x30) (Some s) (cond (is_digit1_9 x) (Some (skip is_ascii_digit s)) None)

abbrev pub after_frac : List ℕ → Option (List ℕ)
after_frac [] = Some []
after_frac (x ∷ s) = cond (is_point x) (after_digits s) (Some (x ∷ s))

abbrev pub after_exp : List ℕ → Option (List ℕ)
after_exp [] = Some []
after_exp (x ∷ s) = cond (is_e x) (after_digits (skip_one is_sign s)) (Some (x ∷ s))

unfoldable pub after_number : List ℕ → Option (List ℕ)
after_number s = do
  int ← after_int (skip_one is_minus s)
  frac ← after_frac int
  after_exp frac

-- a number, as it is spelled
unfoldable pub number_at : Parse (List ℕ)
number_at s = option_map (λ rest. (before rest s, rest)) (after_number s)

-- the character of a surrogate pair, after its high surrogate
unfoldable pub low_half : ℕ → Parse ℕ
low_half high (x ∷ y ∷ e ∷ f ∷ g ∷ h ∷ s) =
    cond ((x == 0x5C) && (y == 0x75)) (code_unit e f g h >>= λ v. cond (is_low_surrogate v) (Some (surrogate_pair high v, s)) None) None
low_half high s = None

-- the character of an escape, after `\u`
unfoldable pub unicode_at : Parse ℕ
unicode_at (a ∷ b ∷ c ∷ d ∷ s) =
    code_unit a b c d >>= λ u. cond (is_high_surrogate u) (low_half u s) (cond (scalar u) (Some (u, s)) None)
unicode_at s = None

-- the character of an escape, after its backslash
unfoldable pub escape_at : Parse ℕ
escape_at [] = None
escape_at (x ∷ s) = cond (x == 0x75) (unicode_at s) (option_map (λ c. (c, s)) (short_escape x))

-- what follows a run of bytes that stand for themselves, which is UTF-8
abbrev pub run_at : List ℕ → Option (List ℕ)
run_at s = let rest = skip is_unescaped s in cond (is_utf8 (before rest s)) (Some rest) None

-- the content of a string from an unescaped run on, up to the closing quotation mark
abbrev pub after_run : Parse (List ℕ) → List ℕ → Parse (List ℕ)
after_run more run [] = None
after_run more run (x ∷ s) =
    cond (x == 0x22) (Some (run, s))
    (cond (x == 0x5C) (escape_at s >>= λ p. read_map (λ m. run ++ (encode_utf8 p.0 ++ m)) (more p.1)) None)

abbrev pub content_by : Parse (List ℕ) → Parse (List ℕ)
content_by more s = run_at s >>= λ rest. after_run more (before rest s) rest

-- the content of a string, after its opening quotation mark; the number bounds the escapes
unfoldable pub content : ℕ → Parse (List ℕ)
content zero s = None
content (suc n) s = content_by (content n) s

unfoldable pub content_at : Parse (List ℕ)
content_at s = content (suc (length s)) s

-- what follows a word, where it stands at the front
abbrev pub after_word : List ℕ → List ℕ → Option (List ℕ)
after_word [] s = Some s
after_word (c ∷ cs) [] = None
after_word (c ∷ cs) (x ∷ s) = cond (x == c) (after_word cs s) None

-- a value that a literal name stands for
abbrev pub literal_named : List ℕ → Tree → Parse Tree
literal_named name t s = option_map (λ rest. (t, rest)) (after_word name s)

-- a literal name
unfoldable pub literal_at : Parse Tree
literal_at s = first_there (literal_named null_name null s) (first_there (literal_named true_name (boolean true) s) (literal_named false_name (boolean false) s))

-- what is read with white space after it
abbrev pub ended : {A : Type 0} → Parse A → Parse A
ended part s = option_map (λ p. (p.0, skip is_ws p.1)) (part s)

-- what is read with white space around it
abbrev pub spaced : {A : Type 0} → Parse A → Parse A
spaced part s = option_map (λ p. (p.0, skip is_ws p.1)) (part (skip is_ws s))

-- what a part's separator or the closing bracket makes of the part
abbrev pub after_part : {A L : Type 0} → (A → L → L) → L → ℕ → Parse L → A → Parse L
after_part cons none close more a [] = None
after_part cons none close more a (x ∷ s) =
    cond (x == 0x2C) (read_map (cons a) (more s)) (cond (x == close) (Some (cons a none, s)) None)

-- what stands behind a part: a separator, and more parts follow, or else the closing bracket
abbrev pub ending_at : ℕ → Parse Bool
ending_at close [] = None
ending_at close (x ∷ s) = cond (x == 0x2C) (Some (true, s)) (cond (x == close) (Some (false, s)) None)

abbrev pub parts_by : {A L : Type 0} → Parse A → (A → L → L) → L → ℕ → Parse L → Parse L
parts_by part cons none close more s = part s >>= λ p. after_part cons none close more p.0 p.1

-- parts with separators between them, up to the closing bracket; the number bounds the parts
unfoldable pub parts : {A L : Type 0} → Parse A → (A → L → L) → L → ℕ → ℕ → Parse L
parts part cons none close zero s = None
parts part cons none close (suc n) s = parts_by part cons none close (parts part cons none close n) s

-- a list that closes at once, or else what its parts give
abbrev pub closed : {L : Type 0} → L → Option (L × List ℕ) → Option (List ℕ) → Option (L × List ℕ)
closed none more (Some rest) = Some (none, rest)
closed none more None = more

-- a list of parts after its opening bracket, which may be empty
abbrev pub list_by : {L : Type 0} → L → ℕ → Parse L → Parse L
list_by none close more s = closed none (more s) (after_byte close (skip is_ws s))

-- a name in quotation marks
abbrev pub name_at : Parse (List ℕ)
name_at s = after_byte 0x22 s >>= content_at

-- the name of a member, and its colon
abbrev pub key_at : Parse (List ℕ)
key_at s = spaced name_at s >>= λ p. option_map (λ rest. (p.0, rest)) (after_byte 0x3A p.1)

-- the value of a member, after its name
abbrev pub after_name : Parse Tree → List ℕ → Parse (List ℕ × Tree)
after_name value name s = after_byte 0x3A s >>= λ rest. read_map (λ t. (name, t)) (spaced value rest)

abbrev pub member_by : Parse Tree → Parse (List ℕ × Tree)
member_by value s = spaced name_at s >>= λ p. after_name value p.0 p.1

abbrev pub add_pair : List ℕ × Tree → Pairs → Pairs
add_pair p ps = pair p.0 p.1 ps

abbrev pub values : Parse Tree → ℕ → Parse Trees
values value n = parts (spaced value) tree no_trees 0x5D n

abbrev pub members : Parse Tree → ℕ → Parse Pairs
members value n = parts (member_by value) add_pair no_pairs 0x7D n

-- a literal name or a number
unfoldable pub scalar_at : Parse Tree
scalar_at s = first_there (literal_at s) (read_map number (number_at s))

-- a value whose lists are read as given
abbrev pub value_by : Parse Trees → Parse Pairs → Parse Tree
value_by values members [] = None
value_by values members (x ∷ s) =
    cond (x == 0x22) (read_map string (content_at s))
    (cond (x == 0x5B) (read_map array (list_by no_trees 0x5D values s))
    (cond (x == 0x7B) (read_map object (list_by no_pairs 0x7D members s))
    (scalar_at (x ∷ s))))

-- a value, with nesting bounded by the number
unfoldable pub value : ℕ → Parse Tree
value zero s = None
value (suc n) s = value_by (values (value n) (suc n)) (members (value n) (suc n)) s

unfoldable pub value_at : Parse Tree
value_at s = value (suc (length s)) s

unfoldable pub values_at : Parse Trees
values_at s = values value_at (suc (length s)) s

unfoldable pub members_at : Parse Pairs
members_at s = members value_at (suc (length s)) s
