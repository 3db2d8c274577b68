-- The rows of matches: those that the words gave, and those that are there by default.
use Rattle.std.proofs.Common.{◌≡◌, ◌∙◌, ◌||◌, Bool, cond, true, false, refl, sym, ap, List, [], ◌∷◌, ◌++◌, Option, Some, None, append-nil}
use Rattle.std.specs.Prelude.{filter}
use Rattle.std.specs.List.{find, fold}
use Rattle.std.specs.Str.{bytes_eq}
use Rattle.std.proofs.lemmas.Slice.Eq.{bytes_eq-Decides}
use Rattle.clap.specs.declared.builder.value_parser.Reading.{Reading}
use Rattle.clap.specs.declared.parser.matches.ValueSource.TheVariants.{CommandLine, DefaultValue}
use Rattle.clap.specs.Facts.{explicit_source}
use Rattle.clap.specs.Walk.{Row, Rule, Text, at_row, default_rows, has_row, more_values, reading_by, with_default, with_values, without}

or_false : (a b : Bool) → (a || b) ≡ false → (a ≡ false) × (b ≡ false)
or_false true b e = absurd (cc e)
or_false false b e = (refl, e)

-- an id that has no row yet gets it at the end
at_none : (id : Text) (change : Row → List Row) (missing : List Row) (rows : List Row) → has_row id rows ≡ false → at_row id change missing rows ≡ rows ++ missing
at_none id change missing [] none = refl
at_none id change missing (r ∷ rs) none =
    let parts = or_false (bytes_eq r.id id) (has_row id rs) none in
    ap (λ b. cond b (change r ++ rs) (r ∷ at_row id change missing rs)) parts.0 ∙ ap (λ l. r ∷ l) (at_none id change missing rs parts.1)

-- the row of a use
abbrev pub use_row : Text → Reading → Text → Row
use_row id how value = record { id = id; values = value ∷ []; count = None; source = Some CommandLine; reading = how }

pub used_new : (id : Text) (how : Reading) (value : Text) (rows : List Row) → has_row id rows ≡ false
    → with_values id how CommandLine (value ∷ []) (without id rows) ≡ rows ++ use_row id how value ∷ []
used_new id how value rows none =
    ap (with_values id how CommandLine (value ∷ [])) (at_none id (λ _. []) [] rows none ∙ append-nil rows) ∙ at_none id (more_values CommandLine (value ∷ [])) (use_row id how value ∷ []) rows none

pub has_row-append : (id : Text) (rows more : List Row) → has_row id (rows ++ more) ≡ (has_row id rows || has_row id more)
has_row-append id [] more = refl
has_row-append id (r ∷ rs) more = by (bytes_eq r.id id) (has_row-append id rs more)
  where
    by : (b : Bool) → has_row id (rs ++ more) ≡ (has_row id rs || has_row id more) → (b || has_row id (rs ++ more)) ≡ ((b || has_row id rs) || has_row id more)
    by true rest = refl
    by false rest = rest

-- ---- the row of an id

abbrev pub or_else : Option Row → Option Row → Option Row
or_else None other = other
or_else (Some row) other = Some row

or_else-none : (o : Option Row) → or_else o None ≡ o
or_else-none None = refl
or_else-none (Some row) = refl

or_else-assoc : (a b c : Option Row) → or_else (or_else a b) c ≡ or_else a (or_else b c)
or_else-assoc None b c = refl
or_else-assoc (Some row) b c = refl

abbrev pub found : Text → List Row → Option Row
found id rows = find (λ r. bytes_eq r.id id) rows

found-append : (id : Text) (rows more : List Row) → found id (rows ++ more) ≡ or_else (found id rows) (found id more)
found-append id [] more = refl
found-append id (r ∷ rs) more = by (bytes_eq r.id id) (found-append id rs more)
  where
    by : (b : Bool) → found id (rs ++ more) ≡ or_else (found id rs) (found id more)
        → cond b (Some r) (found id (rs ++ more)) ≡ or_else (cond b (Some r) (found id rs)) (found id more)
    by true rest = refl
    by false rest = rest

-- the row of an id among the defaults
abbrev pub default_row : Text → Reading → List Text → Option Row
default_row id how [] = None
default_row id how (v ∷ vs) = Some (record { id = id; values = v ∷ vs; count = None; source = Some DefaultValue; reading = how })

abbrev pub default_at : Text → Rule → Option Row
default_at id a = cond (bytes_eq a.id id) (default_row a.id (reading_by a) a.defaults) None

abbrev pub defaults_at : Text → List Rule → Option Row
defaults_at id [] = None
defaults_at id (a ∷ rules) = or_else (default_at id a) (defaults_at id rules)

-- an id that has a row is found
found_there : (id : Text) (rows : List Row) (other : Option Row) → has_row id rows ≡ true → found id rows ≡ or_else (found id rows) other
found_there id [] other has = cc has
found_there id (r ∷ rs) other has = by (bytes_eq r.id id) (λ there. found_there id rs other there) has
  where
    by : (b : Bool) → (has_row id rs ≡ true → found id rs ≡ or_else (found id rs) other) → (b || has_row id rs) ≡ true
        → cond b (Some r) (found id rs) ≡ or_else (cond b (Some r) (found id rs)) other
    by true rest is = refl
    by false rest is = rest is

found-default : (id : Text) (rows : List Row) (a : Rule) → found id (with_default rows a) ≡ or_else (found id rows) (default_at id a)
found-default id rows a = by (has_row a.id rows) refl
  where
    there : (b : Bool) → bytes_eq a.id id ≡ b → has_row a.id rows ≡ true
        → found id rows ≡ or_else (found id rows) (cond b (default_row a.id (reading_by a) a.defaults) None)
    there true same has =
        found_there id rows (default_row a.id (reading_by a) a.defaults) (ap (λ i. has_row i rows) (sym ((bytes_eq-Decides a.id id).0 same)) ∙ has)
    there false other has = sym (or_else-none (found id rows))

    nothing : (b : Bool) → found id rows ≡ or_else (found id rows) (cond b None None)
    nothing true = sym (or_else-none (found id rows))
    nothing false = sym (or_else-none (found id rows))

    absent : (defaults : List Text) → has_row a.id rows ≡ false
        → found id (default_rows a.id (reading_by a) defaults rows) ≡ or_else (found id rows) (cond (bytes_eq a.id id) (default_row a.id (reading_by a) defaults) None)
    absent [] none = nothing (bytes_eq a.id id)
    absent (v ∷ vs) none =
        let row : Row = record { id = a.id; values = v ∷ vs; count = None; source = Some DefaultValue; reading = reading_by a } in
        ap (found id) (at_none a.id (more_values DefaultValue (v ∷ vs)) (row ∷ []) rows none) ∙ found-append id rows (row ∷ [])

    by : (b : Bool) → has_row a.id rows ≡ b
        → found id (cond b rows (default_rows a.id (reading_by a) a.defaults rows)) ≡ or_else (found id rows) (default_at id a)
    by true has = there (bytes_eq a.id id) refl has
    by false none = absent a.defaults none

-- what is found in the end: the row that the words gave, or else the default
pub found-defaults : (id : Text) (rows : List Row) (rules : List Rule) → found id (fold with_default rows rules) ≡ or_else (found id rows) (defaults_at id rules)
found-defaults id rows [] = sym (or_else-none (found id rows))
found-defaults id rows (a ∷ rules) =
    found-defaults id (with_default rows a) rules ∙ ap (λ o. or_else o (defaults_at id rules)) (found-default id rows a)
    ∙ or_else-assoc (found id rows) (default_at id a) (defaults_at id rules)

-- ---- the rows that the words gave

abbrev pub given_rows : List Row → List Row
given_rows rows = filter (λ (r : Row). explicit_source r.source) rows

given-append : (rows more : List Row) → given_rows (rows ++ more) ≡ given_rows rows ++ given_rows more
given-append [] more = refl
given-append (r ∷ rs) more = by (explicit_source r.source) (given-append rs more)
  where
    by : (b : Bool) → given_rows (rs ++ more) ≡ given_rows rs ++ given_rows more
        → cond b (r ∷ given_rows (rs ++ more)) (given_rows (rs ++ more)) ≡ cond b (r ∷ given_rows rs) (given_rows rs) ++ given_rows more
    by true rest = ap (λ l. r ∷ l) rest
    by false rest = rest

given-default : (rows : List Row) (a : Rule) → given_rows (with_default rows a) ≡ given_rows rows
given-default rows a = by (has_row a.id rows) refl a.defaults
  where
    by : (b : Bool) → has_row a.id rows ≡ b → (defaults : List Text)
        → given_rows (cond b rows (default_rows a.id (reading_by a) defaults rows)) ≡ given_rows rows
    by true has defaults = refl
    by false none [] = refl
    by false none (v ∷ vs) =
        let row : Row = record { id = a.id; values = v ∷ vs; count = None; source = Some DefaultValue; reading = reading_by a } in
        ap given_rows (at_none a.id (more_values DefaultValue (v ∷ vs)) (row ∷ []) rows none) ∙ given-append rows (row ∷ []) ∙ append-nil (given_rows rows)

-- defaults add none of them
pub given-defaults : (rows : List Row) (rules : List Rule) → given_rows (fold with_default rows rules) ≡ given_rows rows
given-defaults rows [] = refl
given-defaults rows (a ∷ rules) = given-defaults (with_default rows a) rules ∙ given-default rows a
