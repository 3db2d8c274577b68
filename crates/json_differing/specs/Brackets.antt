-- How far a value in brackets goes, told without reading it. It stands in clauses of private functions alone.
use Rattle.std.specs.Prelude.{ℕ, ◌+◌, ◌-◌, ◌==◌, List, [], ◌∷◌, Bool, not, ◌||◌, cond, Option, Some, None}
use Rattle.json_spell.specs.declared.deep.Position.{Position}
use Rattle.json_spell.specs.declared.deep.Position.TheVariants.{Outside, Inside, Escaped}
use Rattle.json_spell.specs.Deep.{position_after, is_opening, is_closing}

-- what follows the bracket that closes the last of so many that are open
unfoldable pub past_from : Position → ℕ → List ℕ → Option (List ℕ)
past_from position opened [] = None
past_from Outside opened (x ∷ xs) =
    cond (is_closing x) (cond (opened == 1) (Some xs) (past_from Outside (opened - 1) xs)) (past_from (position_after Outside x) (opened + cond (is_opening x) 1 0) xs)
past_from Inside opened (x ∷ xs) = past_from (position_after Inside x) opened xs
past_from Escaped opened (x ∷ xs) = past_from (position_after Escaped x) opened xs

-- a quotation mark or a backslash
abbrev pub is_mark : ℕ → Bool
is_mark x = (x == 0x22) || (x == 0x5C)

abbrev pub is_inner : ℕ → Bool
is_inner x = not (is_mark x)

-- a colon or a comma
abbrev pub parts_strings : ℕ → Bool
parts_strings x = (x == 0x3A) || (x == 0x2C)
