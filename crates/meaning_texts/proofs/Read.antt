-- The value that a JSON text has is UTF-8 in all its texts.
use Rattle.std.proofs.Common.{◌≡◌, ℕ, ◌<◌, true, List, [], ◌∷◌, Some, sym, subst, arith}
use Rattle.std.specs.Char.{IsScalar}
use Rattle.std.specs.Str.{IsUtf8}
use Rattle.std.proofs.lemmas.Bool.Decides.{nat_tests}
use Rattle.std.proofs.lemmas.Str.{IsUtf8-append, IsUtf8-encode, IsUtf8-from_ascii, IsUtf8-nil}
use Rattle.json_spell.specs.Tree.{Tree, null, boolean, number, string, array, object, Trees, no_trees, tree, Pairs, no_pairs, pair}
use Rattle.json_spell.specs.Text.{Char, unescaped, short, unicode, surrogates, short_escape, surrogate_pair, is_high_surrogate, is_low_surrogate, IsChar, code_point, AreChars, all_utf8, IsString}
use Rattle.json_spell.specs.Grammar.{IsValue, AreValues, AreMoreValues, AreMembers, AreMoreMembers, Reads}
use Rattle.json_spell.proofs.Numbers.{number-ascii}
use Rattle.meaning_texts.specs.Trees.{AreUtf8Pairs, AreUtf8Trees, IsUtf8Tree}

-- ---- strings

low_scalar : (c : ℕ) → c < 128 → IsScalar c
low_scalar c low = grind (arith, nat_tests)

-- what a short escape stands for is ASCII
short_low : (x c : ℕ) → short_escape x ≡ Some c → c < 128
unfolding short_escape
short_low x c is = grind (arith, nat_tests)

pair_scalar : (high low : ℕ) → is_high_surrogate high ≡ true → is_low_surrogate low ≡ true → IsScalar (surrogate_pair high low)
pair_scalar high low h l = grind (arith, nat_tests)

char_scalar : (p : Char) → IsChar p → IsScalar (code_point p)
char_scalar (unescaped c) is = is.0
char_scalar (short x c) is = low_scalar c (short_low x c is)
char_scalar (unicode a b c d u) is = is.1
char_scalar (surrogates a b c d u e f g h v) is = pair_scalar u v is.1 is.3

chars_utf8 : (ps : List Char) → AreChars ps → IsUtf8 (all_utf8 ps)
chars_utf8 [] are = IsUtf8-nil
chars_utf8 (p ∷ ps) are = IsUtf8-append _ (all_utf8 ps) (IsUtf8-encode (code_point p) (char_scalar p are.0)) (chars_utf8 ps are.1)

string_utf8 : (content text : List ℕ) → IsString content text → IsUtf8 content
string_utf8 content text is = subst IsUtf8 (sym is.content_is) (chars_utf8 is.chars is.are_chars)

-- ---- values

mutual
  value_utf8 : (t : Tree) (text : List ℕ) → IsValue t text → IsUtf8Tree t
  value_utf8 null text is = tt
  value_utf8 (boolean b) text is = tt
  value_utf8 (number spelling) text is = subst IsUtf8 is.0 (IsUtf8-from_ascii text (number-ascii text is.1))
  value_utf8 (string content) text is = string_utf8 content text is
  value_utf8 (array values) text is = values_utf8 values is.inside is.holds
  value_utf8 (object members) text is = members_utf8 members is.inside is.holds

  values_utf8 : (ts : Trees) (text : List ℕ) → AreValues ts text → AreUtf8Trees ts
  values_utf8 no_trees text are = tt
  values_utf8 (tree t ts) text are = (value_utf8 t are.holds.inside are.holds.holds, more_values_utf8 ts are.second are.then_holds)

  more_values_utf8 : (ts : Trees) (text : List ℕ) → AreMoreValues ts text → AreUtf8Trees ts
  more_values_utf8 no_trees text are = tt
  more_values_utf8 (tree t ts) text are = (value_utf8 t are.holds.holds.inside are.holds.holds.holds, more_values_utf8 ts are.holds.second are.holds.then_holds)

  members_utf8 : (ps : Pairs) (text : List ℕ) → AreMembers ps text → AreUtf8Pairs ps
  members_utf8 no_pairs text are = tt
  members_utf8 (pair k t ps) text are =
      (string_utf8 k are.holds.holds.inside are.holds.holds.holds, value_utf8 t are.holds.then_holds.holds.inside are.holds.then_holds.holds.holds, more_members_utf8 ps are.second are.then_holds)

  more_members_utf8 : (ps : Pairs) (text : List ℕ) → AreMoreMembers ps text → AreUtf8Pairs ps
  more_members_utf8 no_pairs text are = tt
  more_members_utf8 (pair k t ps) text are =
      (string_utf8 k are.holds.holds.holds.inside are.holds.holds.holds.holds, value_utf8 t are.holds.holds.then_holds.holds.inside are.holds.holds.then_holds.holds.holds, more_members_utf8 ps are.holds.second are.holds.then_holds)

-- the value of a whole text
pub text_utf8 : (bytes : List ℕ) (t : Tree) → Reads bytes t → IsUtf8Tree t
text_utf8 bytes t reads = value_utf8 t reads.inside reads.holds
