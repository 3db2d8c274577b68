-- Trees of plain texts, written without white space.
use Rattle.std.proofs.Common.{◌≡◌, ◌∙◌, refl, sym, ap, subst, ℕ, ◌+◌, ◌%◌, ◌<◌, ◌^◌, true, List, [], ◌∷◌, ◌++◌, append_assoc, append-nil, map, arith}
use Rattle.std.specs.Prelude.{decimal}
use Rattle.std.specs.Char.{IsScalar}
use Rattle.std.proofs.{lemmas.Bool.Decides.nat_tests, lemmas.Fmt.decimal_by_steps, lemmas.Str.encode_ascii}
use Rattle.json_spell.specs.Number.{EachPasses}
use Rattle.json_spell.specs.Text.{unescaped, is_unescaped, AreChars, all_spelled, all_utf8, IsString}
use Rattle.json_spell.specs.Tree.{Tree, null, boolean, number, string, array, object, Trees, no_trees, tree, Pairs, no_pairs, pair}
use Rattle.json_spell.specs.Grammar.{AreMembers, AreMoreMembers, AreMoreValues, AreValues, IsMember, IsValue, Reads, Spaced}
use Rattle.json_spell.specs.Runs.{is_plain}

-- ---- texts

plain-low : (x : ℕ) → is_plain x ≡ true → x < 128
plain-low x h = grind (arith, nat_tests)

plain-unescaped : (x : ℕ) → is_plain x ≡ true → is_unescaped x ≡ true
plain-unescaped x h = grind (arith, nat_tests)

plain-scalar : (x : ℕ) → is_plain x ≡ true → IsScalar x
plain-scalar x h = grind (arith, nat_tests)

-- each byte is an ASCII character that stands for itself
abbrev pub IsPlain : List ℕ → Type 0
IsPlain = EachPasses is_plain

pub plain-append : (xs ys : List ℕ) → IsPlain xs → IsPlain ys → IsPlain (xs ++ ys)
plain-append [] ys h g = g
plain-append (x ∷ xs) ys h g = (h.0, plain-append xs ys h.1 g)

digit-plain : (n : ℕ) → n < 10 → is_plain (48 + n) ≡ true
digit-plain n h = grind (arith, nat_tests)

-- a number as it is written is plain
pub decimal-plain : (n : ℕ) → n < 2 ^ 64 → IsPlain (decimal n)
decimal-plain n h =
    decimal_by_steps (λ _ ds. IsPlain ds) (λ d small. (digit-plain d small, tt)) (λ d ds _ before. plain-append ds _ before (digit-plain (d % 10) (omega arith), tt)) n h

chars-of : (xs : List ℕ) → IsPlain xs → AreChars (map unescaped xs)
chars-of [] h = tt
chars-of (x ∷ xs) h = ((plain-scalar x h.0, plain-unescaped x h.0), chars-of xs h.1)

spelled-of : (xs : List ℕ) → IsPlain xs → all_spelled (map unescaped xs) ≡ xs
spelled-of [] h = refl
spelled-of (x ∷ xs) h = rw (encode_ascii x (plain-low x h.0), spelled-of xs h.1) refl

all_utf8-of : (xs : List ℕ) → IsPlain xs → all_utf8 (map unescaped xs) ≡ xs
all_utf8-of [] h = refl
all_utf8-of (x ∷ xs) h = rw (encode_ascii x (plain-low x h.0), all_utf8-of xs h.1) refl

-- a plain text between quotation marks
abbrev quoted : List ℕ → List ℕ
quoted xs = 0x22 ∷ (xs ++ 0x22 ∷ [])

quoted-string : (xs : List ℕ) → IsPlain xs → IsString xs (quoted xs)
quoted-string xs h = record {
  chars = map unescaped xs;
  are_chars = chars-of xs h;
  text_is = ap quoted (sym (spelled-of xs h));
  content_is = sym (all_utf8-of xs h);
}

-- ---- trees

abbrev mutual
  -- what stands before the rest of a text where a tree of plain texts is written
  pub onto : Tree → List ℕ → List ℕ
  onto null rest = rest
  onto (boolean b) rest = rest
  onto (number spelling) rest = rest
  onto (string xs) rest = 0x22 ∷ (xs ++ 0x22 ∷ rest)
  onto (array ts) rest = 0x5B ∷ values_onto ts (0x5D ∷ rest)
  onto (object ps) rest = 0x7B ∷ members_onto ps (0x7D ∷ rest)

  pub values_onto : Trees → List ℕ → List ℕ
  values_onto no_trees rest = rest
  values_onto (tree t ts) rest = onto t (more_values_onto ts rest)

  pub more_values_onto : Trees → List ℕ → List ℕ
  more_values_onto no_trees rest = rest
  more_values_onto (tree t ts) rest = 0x2C ∷ onto t (more_values_onto ts rest)

  pub members_onto : Pairs → List ℕ → List ℕ
  members_onto no_pairs rest = rest
  members_onto (pair k t ps) rest = 0x22 ∷ (k ++ 0x22 ∷ 0x3A ∷ onto t (more_members_onto ps rest))

  pub more_members_onto : Pairs → List ℕ → List ℕ
  more_members_onto no_pairs rest = rest
  more_members_onto (pair k t ps) rest = 0x2C ∷ 0x22 ∷ (k ++ 0x22 ∷ 0x3A ∷ onto t (more_members_onto ps rest))

abbrev mutual
  -- all texts of a tree are plain, and it has nothing but texts
  pub AllPlain : Tree → Type 0
  AllPlain null = ⊥
  AllPlain (boolean b) = ⊥
  AllPlain (number spelling) = ⊥
  AllPlain (string xs) = IsPlain xs
  AllPlain (array ts) = ValuesPlain ts
  AllPlain (object ps) = MembersPlain ps

  pub ValuesPlain : Trees → Type 0
  ValuesPlain no_trees = Unit {0}
  ValuesPlain (tree t ts) = AllPlain t × ValuesPlain ts

  pub MembersPlain : Pairs → Type 0
  MembersPlain no_pairs = Unit {0}
  MembersPlain (pair k t ps) = IsPlain k × AllPlain t × MembersPlain ps

-- a text that has P, before the rest
record Front (P : List ℕ → Type 0) (whole : List ℕ → List ℕ) : Type 0 where
  text : List ℕ
  holds : P text
  is : (rest : List ℕ) → whole rest ≡ text ++ rest

spaced : {P : List ℕ → Type 0} (text : List ℕ) → P text → Spaced P text
spaced text holds = record { before = []; inside = text; after = []; ws_before = tt; holds = holds; ws_after = tt; is = sym (append-nil text) }

quoted-onto : (xs rest : List ℕ) → 0x22 ∷ (xs ++ 0x22 ∷ rest) ≡ quoted xs ++ rest
quoted-onto xs rest = ap (λ q. 0x22 ∷ q) (sym (append_assoc xs (0x22 ∷ []) rest))

member : (k : List ℕ) (t : Tree) (after : List ℕ → List ℕ) → IsPlain k → Front (IsValue t) (onto t) → Front (IsMember k (IsValue t)) (λ rest. 0x22 ∷ (k ++ 0x22 ∷ 0x3A ∷ onto t rest))
member k t after plain value = record {
  text = quoted k ++ 0x3A ∷ value.text;
  holds = record {
    first = quoted k;
    second = 0x3A ∷ value.text;
    holds = spaced (quoted k) (quoted-string k plain);
    then_holds = record { rest = value.text; holds = spaced value.text value.holds; is = refl };
    is = refl;
  };
  is = λ rest. quoted-onto k (0x3A ∷ onto t rest) ∙ ap (λ q. quoted k ++ 0x3A ∷ q) (value.is rest) ∙ sym (append_assoc (quoted k) (0x3A ∷ value.text) rest);
}

mutual
  value_front : (t : Tree) → AllPlain t → Front (IsValue t) (onto t)
  value_front null h = absurd h
  value_front (boolean b) h = absurd h
  value_front (number spelling) h = absurd h
  value_front (string xs) h = record { text = quoted xs; holds = quoted-string xs h; is = quoted-onto xs }
  value_front (array ts) h =
      let inside = values_front ts h in record {
        text = 0x5B ∷ (inside.text ++ 0x5D ∷ []);
        holds = record { inside = inside.text; holds = inside.holds; is = refl };
        is = λ rest. ap (λ q. 0x5B ∷ q) (inside.is (0x5D ∷ rest) ∙ sym (append_assoc inside.text (0x5D ∷ []) rest));
      }
  value_front (object ps) h =
      let inside = members_front ps h in record {
        text = 0x7B ∷ (inside.text ++ 0x7D ∷ []);
        holds = record { inside = inside.text; holds = inside.holds; is = refl };
        is = λ rest. ap (λ q. 0x7B ∷ q) (inside.is (0x7D ∷ rest) ∙ sym (append_assoc inside.text (0x7D ∷ []) rest));
      }

  values_front : (ts : Trees) → ValuesPlain ts → Front (AreValues ts) (values_onto ts)
  values_front no_trees h = record { text = []; holds = tt; is = λ rest. refl }
  values_front (tree t ts) h =
      let first = value_front t h.0 in
      let more = more_values_front ts h.1 in record {
        text = first.text ++ more.text;
        holds = record { first = first.text; second = more.text; holds = spaced first.text first.holds; then_holds = more.holds; is = refl };
        is = λ rest. first.is (more_values_onto ts rest) ∙ ap (λ q. first.text ++ q) (more.is rest) ∙ sym (append_assoc first.text more.text rest);
      }

  more_values_front : (ts : Trees) → ValuesPlain ts → Front (AreMoreValues ts) (more_values_onto ts)
  more_values_front no_trees h = record { text = []; holds = refl; is = λ rest. refl }
  more_values_front (tree t ts) h =
      let first = value_front t h.0 in
      let more = more_values_front ts h.1 in record {
        text = 0x2C ∷ (first.text ++ more.text);
        holds = record {
          rest = first.text ++ more.text;
          holds = record { first = first.text; second = more.text; holds = spaced first.text first.holds; then_holds = more.holds; is = refl };
          is = refl;
        };
        is = λ rest. ap (λ q. 0x2C ∷ q) (first.is (more_values_onto ts rest) ∙ ap (λ q. first.text ++ q) (more.is rest) ∙ sym (append_assoc first.text more.text rest));
      }

  members_front : (ps : Pairs) → MembersPlain ps → Front (AreMembers ps) (members_onto ps)
  members_front no_pairs h = record { text = []; holds = tt; is = λ rest. refl }
  members_front (pair k t ps) h =
      let first = member k t (more_members_onto ps) h.0 (value_front t h.1) in
      let more = more_members_front ps h.2 in record {
        text = first.text ++ more.text;
        holds = record { first = first.text; second = more.text; holds = first.holds; then_holds = more.holds; is = refl };
        is = λ rest. first.is (more_members_onto ps rest) ∙ ap (λ q. first.text ++ q) (more.is rest) ∙ sym (append_assoc first.text more.text rest);
      }

  more_members_front : (ps : Pairs) → MembersPlain ps → Front (AreMoreMembers ps) (more_members_onto ps)
  more_members_front no_pairs h = record { text = []; holds = refl; is = λ rest. refl }
  more_members_front (pair k t ps) h =
      let first = member k t (more_members_onto ps) h.0 (value_front t h.1) in
      let more = more_members_front ps h.2 in record {
        text = 0x2C ∷ (first.text ++ more.text);
        holds = record {
          rest = first.text ++ more.text;
          holds = record { first = first.text; second = more.text; holds = first.holds; then_holds = more.holds; is = refl };
          is = refl;
        };
        is = λ rest. ap (λ q. 0x2C ∷ q) (first.is (more_members_onto ps rest) ∙ ap (λ q. first.text ++ q) (more.is rest) ∙ sym (append_assoc first.text more.text rest));
      }

-- what is written is read
pub written_read : (t : Tree) (text : List ℕ) → AllPlain t → text ≡ onto t [] → Reads text t
written_read t text h is =
    let f = value_front t h in
    let same : f.text ≡ text = sym (append-nil f.text) ∙ sym (f.is []) ∙ sym is in
    subst (λ q. Reads q t) same (spaced f.text f.holds)
