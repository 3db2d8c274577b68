-- Parts of lines in the form in which most programs write them: spaces stand only before a token, and no escape stands in a text.
use Rattle.std.specs.Prelude.{◌≡◌, ℕ, ◌<◌, ◌^◌, Bool, true, not, ◌&&◌, ◌==◌, nat_le, nat_lt, if◌then◌else◌, List, [], ◌∷◌, ◌++◌, decimal}
use Rattle.std.specs.{List.list_all, Str.IsUtf8}
use Rattle.json.specs.Spaced.{IsGap}

-- a byte in ASCII that stands for itself in a JSON string
abbrev pub is_plain : ℕ → Bool
is_plain x = nat_le 32 x && (nat_lt x 128 && (not (x == 34) && not (x == 92)))

-- what stands behind the spaces
abbrev pub past_spaces : List ℕ → List ℕ
past_spaces [] = []
past_spaces (x ∷ xs) = if x == 32 then past_spaces xs else x ∷ xs

-- the front stands there, behind spaces or none, and then the rest
pub record Begins (front bytes rest : List ℕ) : Type 0 where
  pub gap : List ℕ
  pub is_gap : IsGap gap
  pub is : bytes ≡ gap ++ (front ++ rest)

-- a mark and a key stand there
pub record HasKey (mark : ℕ) (key bytes rest : List ℕ) : Type 0 where
  pub inner : List ℕ
  pub is : bytes ≡ mark ∷ inner
  pub key_is : Begins key inner rest

-- a text in quotes stands there
pub record HasText (text bytes rest : List ℕ) : Type 0 where
  pub is : Begins (34 ∷ (text ++ 34 ∷ [])) bytes rest
  pub plain : list_all is_plain text ≡ true

-- a number from 1 stands there
pub record HasNumber (number : ℕ) (bytes rest : List ℕ) : Type 0 where
  pub is : Begins (decimal number) bytes rest
  pub utf8 : IsUtf8 (decimal number)
  pub positive : 0 < number
  pub small : number < 2 ^ 64

-- a member whose value is a text
pub record HasTextMember (mark : ℕ) (key text bytes rest : List ℕ) : Type 0 where
  pub value : List ℕ
  pub key_is : HasKey mark key bytes value
  pub text_is : HasText text value rest

-- a member whose value is a number
pub record HasNumberMember (mark : ℕ) (key : List ℕ) (number : ℕ) (bytes rest : List ℕ) : Type 0 where
  pub value : List ℕ
  pub key_is : HasKey mark key bytes value
  pub number_is : HasNumber number value rest

-- a comma stands there, and then a text
pub record HasNextText (text bytes rest : List ℕ) : Type 0 where
  pub inner : List ℕ
  pub is : bytes ≡ 44 ∷ inner
  pub text_is : HasText text inner rest

-- the end of an object stands there, and nothing behind it
abbrev pub Closes : List ℕ → Type 0
Closes bytes = Begins (125 ∷ []) bytes []
