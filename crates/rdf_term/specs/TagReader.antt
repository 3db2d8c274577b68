-- A reader of language tags, byte by byte.
use Rattle.std.specs.Prelude.{ℕ, Bool, true, false, List, [], ◌∷◌, ◌==◌, if◌then◌else◌, Option, Some, None}
use Rattle.std.specs.Char.{is_ascii_alphabetic, is_ascii_alphanumeric}
use Rattle.std.specs.Option.{option_map_or}
use Rattle.rdf_term.specs.declared.tag.TagState.{TagState}
use Rattle.rdf_term.specs.declared.tag.TagState.TheVariants.{Start, First, Dash, Later}

-- the state behind a byte, where it may stand here
abbrev pub tag_state_after : TagState → ℕ → Option TagState
tag_state_after Start c = if is_ascii_alphabetic c then Some First else None
tag_state_after First c = if is_ascii_alphabetic c then Some First else (if c == 45 then Some Dash else None)
tag_state_after Dash c = if is_ascii_alphanumeric c then Some Later else None
tag_state_after Later c = if is_ascii_alphanumeric c then Some Later else (if c == 45 then Some Dash else None)

-- whether a tag may end here
abbrev pub is_end : TagState → Bool
is_end Start = false
is_end First = true
is_end Dash = false
is_end Later = true

-- whether the rest of a tag is read to its end from here
abbrev pub is_rest_of_tag : TagState → List ℕ → Bool
is_rest_of_tag state [] = is_end state
is_rest_of_tag state (c ∷ cs) = option_map_or (λ next. is_rest_of_tag next cs) (tag_state_after state c) false
