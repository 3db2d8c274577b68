-- How deep brackets open outside of strings.
use Rattle.std.specs.Prelude.{ℕ, ◌+◌, ◌<◌, List, [], ◌∷◌, Bool, false, cond, ◌||◌, ◌==◌, nat_lt, count_by, take}
use Rattle.json_spell.specs.declared.deep.Position.{Position}
use Rattle.json_spell.specs.declared.deep.Position.TheVariants.{Outside, Inside, Escaped}

-- where the next byte stands: a string starts and ends at a quotation mark, and in it a backslash passes over one byte
abbrev pub position_after : Position → ℕ → Position
position_after Outside x = cond (x == 0x22) Inside Outside
position_after Inside x = cond (x == 0x22) Outside (cond (x == 0x5C) Escaped Inside)
position_after Escaped x = Inside

-- the bytes that don't stand in a string, from a position on
abbrev pub outside_from : Position → List ℕ → List ℕ
outside_from position [] = []
outside_from Outside (x ∷ xs) = x ∷ outside_from (position_after Outside x) xs
outside_from Inside (x ∷ xs) = outside_from (position_after Inside x) xs
outside_from Escaped (x ∷ xs) = outside_from (position_after Escaped x) xs

-- `[` or `{`
abbrev pub is_opening : ℕ → Bool
is_opening x = (x == 0x5B) || (x == 0x7B)

-- `]` or `}`
abbrev pub is_closing : ℕ → Bool
is_closing x = (x == 0x5D) || (x == 0x7D)

-- after some byte, more than 64 brackets have opened beyond those that have closed
abbrev pub IsDeep : List ℕ → Type 0
IsDeep bytes =
    let outside = outside_from Outside bytes in
    (n : ℕ) × (count_by is_closing (take n outside) + 64 < count_by is_opening (take n outside))

-- the same as a scan, after brackets that opened and closed
unfoldable pub deep_from : Position → ℕ → ℕ → List ℕ → Bool
deep_from position opened closed [] = false
deep_from Outside opened closed (x ∷ xs) =
    let more_opened = opened + cond (is_opening x) 1 0 in
    let more_closed = closed + cond (is_closing x) 1 0 in
    nat_lt (more_closed + 64) more_opened || deep_from (position_after Outside x) more_opened more_closed xs
deep_from Inside opened closed (x ∷ xs) = deep_from (position_after Inside x) opened closed xs
deep_from Escaped opened closed (x ∷ xs) = deep_from (position_after Escaped x) opened closed xs
