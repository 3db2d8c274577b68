-- Where a term ends in a line: at the first space that isn't between quotes.
use Rattle.std.specs.Prelude.{ℕ, Bool, ◌||◌, List, [], ◌∷◌, ◌==◌, if◌then◌else◌, Option, None, Some}
use Rattle.term_reading.specs.Reader.{with_front}
use Rattle.replica.specs.declared.term_end.TermState.{TermState}
use Rattle.replica.specs.declared.term_end.TermState.TheVariants.{Outside, Quoted, Escaped}

-- the state behind a byte: a quote opens and closes, but for one behind a backslash
unfoldable pub term_state_after : TermState → ℕ → TermState
term_state_after Outside b = if b == 34 then Quoted else Outside
term_state_after Quoted b = if b == 34 then Outside else (if b == 92 then Escaped else Quoted)
term_state_after Escaped b = Quoted

-- whether a byte outside quotes ends a term or opens quotes
abbrev pub is_edge : ℕ → Bool
is_edge b = (b == 32) || (b == 34)

-- what a byte is to be followed by: nothing, where it is a space outside quotes
unfoldable pub next_state : TermState → ℕ → Option TermState
next_state Outside b = if b == 32 then None else Some (term_state_after Outside b)
next_state Quoted b = Some (term_state_after Quoted b)
next_state Escaped b = Some (term_state_after Escaped b)

abbrev pub split_on : (TermState → Option (List ℕ × List ℕ)) → ℕ → List ℕ → Option TermState → Option (List ℕ × List ℕ)
split_on more b rest None = Some ([], rest)
split_on more b rest (Some state) = with_front (b ∷ []) (more state)

-- the bytes before the first space outside quotes, and those behind it, where there is one
unfoldable pub split_term : TermState → List ℕ → Option (List ℕ × List ℕ)
split_term state [] = None
split_term state (b ∷ bs) = split_on (λ next. split_term next bs) b bs (next_state state b)
