-- The line of one row more, for a loop over rows.
use Rattle.std.proofs.Common.{◌≡◌, ℕ, ◌+◌, ◌<◌, List, [], ◌∷◌, ◌++◌, length, take, get_or, flat_map, Option, append-nil, sym, ◌∙◌, ap, subst}
use Rattle.std.specs.Prelude.{IfSome}
use Rattle.std.specs.List.{slice_get}
use Rattle.std.proofs.{lemmas.List.take_more, lemmas.List.Concat.flat_map-append, lemmas.Option.slice_get-get_or}
use Rattle.rdf_term.specs.{declared.term.Term.TheVariants.Blank, declared.triple.Triple.Triple, Text.triple_text}

pub next_line : (rows : List Triple) (index : ℕ) (text front : List ℕ) → index < length rows → IfSome (slice_get rows index) (λ t. text ≡ front ++ triple_text t) → front ≡ []
    → flat_map triple_text (take (index + 1) rows) ≡ flat_map triple_text (take index rows) ++ text
next_line rows index text front within h none =
    let d : Triple = record { subject = Blank []; predicate = Blank []; object = Blank [] } in
    let here : Triple = get_or rows index d in
    let is : text ≡ triple_text here = subst (λ (o : Option Triple). IfSome o (λ t. text ≡ front ++ triple_text t)) (slice_get-get_or rows index d within) h ∙ ap (λ l. l ++ triple_text here) none in
    ap (flat_map triple_text) (take_more rows index d within)
    ∙ flat_map-append triple_text (take index rows) (here ∷ [])
    ∙ ap (λ l. flat_map triple_text (take index rows) ++ l) (append-nil (triple_text here) ∙ sym is)
