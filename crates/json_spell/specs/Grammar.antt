-- RFC 8259: which texts are JSON texts, as a relation of a tree and the whole text of bytes that it is read from.
-- There is no byte order mark (section 8.1), as no production has one.
use Rattle.std.specs.Prelude.{ℕ, List, [], ◌∷◌, ◌++◌, Bool, true, false, ◌≡◌, ◌||◌, ◌==◌}
use Rattle.json_spell.specs.Tree.{Tree, null, boolean, number, string, array, object, Trees, no_trees, tree, Pairs, no_pairs, pair}
use Rattle.json_spell.specs.Number.{EachPasses, IsNumber}
use Rattle.json_spell.specs.Text.{IsString}

-- Section 2, ws: space, tab, line feed or carriage return.
abbrev pub is_ws : ℕ → Bool
is_ws x = (x == 0x20) || (x == 0x09) || (x == 0x0A) || (x == 0x0D)

-- ws
abbrev pub IsWs : List ℕ → Type 0
IsWs = EachPasses is_ws

-- ws P ws. The RFC counts white space with the structural character beside it, and here it goes with what stands between them.
pub record Spaced (P : List ℕ → Type 0) (text : List ℕ) : Type 0 where
  pub before : List ℕ
  pub inside : List ℕ
  pub after : List ℕ
  pub ws_before : IsWs before
  pub holds : P inside
  pub ws_after : IsWs after
  pub is : text ≡ before ++ (inside ++ after)

-- P between an opening and a closing bracket
pub record Within (opening closing : ℕ) (P : List ℕ → Type 0) (text : List ℕ) : Type 0 where
  pub inside : List ℕ
  pub holds : P inside
  pub is : text ≡ opening ∷ (inside ++ closing ∷ [])

-- P and then Q
pub record Then (P Q : List ℕ → Type 0) (text : List ℕ) : Type 0 where
  pub first : List ℕ
  pub second : List ℕ
  pub holds : P first
  pub then_holds : Q second
  pub is : text ≡ first ++ second

-- a separator and then P
pub record After (separator : ℕ) (P : List ℕ → Type 0) (text : List ℕ) : Type 0 where
  pub rest : List ℕ
  pub holds : P rest
  pub is : text ≡ separator ∷ rest

-- Section 3: the literal names.
abbrev pub null_name : List ℕ
null_name = 0x6E ∷ 0x75 ∷ 0x6C ∷ 0x6C ∷ []

abbrev pub true_name : List ℕ
true_name = 0x74 ∷ 0x72 ∷ 0x75 ∷ 0x65 ∷ []

abbrev pub false_name : List ℕ
false_name = 0x66 ∷ 0x61 ∷ 0x6C ∷ 0x73 ∷ 0x65 ∷ []

-- Section 4: member = string name-separator value.
abbrev pub IsMember : List ℕ → (List ℕ → Type 0) → List ℕ → Type 0
IsMember name Value text = Then (Spaced (IsString name)) (After 0x3A (Spaced Value)) text

abbrev mutual
  -- Section 3: value = false / null / true / object / array / number / string.
  pub IsValue : Tree → List ℕ → Type 0
  IsValue null text = text ≡ null_name
  IsValue (boolean true) text = text ≡ true_name
  IsValue (boolean false) text = text ≡ false_name
  IsValue (number spelling) text = (text ≡ spelling) × IsNumber text
  IsValue (string content) text = IsString content text
  IsValue (array values) text = Within 0x5B 0x5D (AreValues values) text
  IsValue (object members) text = Within 0x7B 0x7D (AreMembers members) text

  -- Section 5, between the brackets: [ value *( value-separator value ) ].
  pub AreValues : Trees → List ℕ → Type 0
  AreValues no_trees text = IsWs text
  AreValues (tree t ts) text = Then (Spaced (IsValue t)) (AreMoreValues ts) text

  -- *( value-separator value )
  pub AreMoreValues : Trees → List ℕ → Type 0
  AreMoreValues no_trees text = text ≡ []
  AreMoreValues (tree t ts) text = After 0x2C (Then (Spaced (IsValue t)) (AreMoreValues ts)) text

  -- Section 4, between the brackets: [ member *( value-separator member ) ].
  pub AreMembers : Pairs → List ℕ → Type 0
  AreMembers no_pairs text = IsWs text
  AreMembers (pair k t ps) text = Then (IsMember k (IsValue t)) (AreMoreMembers ps) text

  -- *( value-separator member )
  pub AreMoreMembers : Pairs → List ℕ → Type 0
  AreMoreMembers no_pairs text = text ≡ []
  AreMoreMembers (pair k t ps) text = After 0x2C (Then (IsMember k (IsValue t)) (AreMoreMembers ps)) text

-- Section 2: JSON-text = ws value ws.
abbrev pub Reads : List ℕ → Tree → Type 0
Reads bytes t = Spaced (IsValue t) bytes
