-- What a sink gains by triples in a row, and by a sink that keeps each one.
use Rattle.std.proofs.Common.{◌≡◌, List, [], ◌∷◌, ◌++◌, length, take, refl, sym, ap, ◌∙◌, append_assoc}
use Rattle.std.specs.List.{flat_map}
use Rattle.std.proofs.lemmas.List.Concat.{flat_map-append}
use Rattle.rdf_term.specs.declared.triple.Triple.{Triple}
use Rattle.triple_sink.specs.Gains.{Gains}

-- two gains in a row are one
pub gains_then : {S : Type 0} (items : S → List Triple) (keeps : S → Triple → List Triple) (a b c : S) (xs ys : List Triple) → Gains items keeps a b xs → Gains items keeps b c ys → Gains items keeps a c (xs ++ ys)
gains_then items keeps a b c xs ys g h = (
  h.0 ∙ ap (λ k. items b ++ flat_map k ys) g.1 ∙ ap (λ l. l ++ flat_map (keeps a) ys) g.0 ∙ append_assoc (items a) (flat_map (keeps a) xs) (flat_map (keeps a) ys)
      ∙ ap (λ l. items a ++ l) (sym (flat_map-append (keeps a) xs ys)),
  h.1 ∙ g.1,
)

-- a list of each one's list is the list
pub all_of : {A : Type 0} (xs : List A) → flat_map (λ x. x ∷ []) xs ≡ xs
all_of [] = refl
all_of (x ∷ xs) = ap (λ l. x ∷ l) (all_of xs)

-- what a list begins with, a longer one begins with too
pub front_kept : {A : Type 0} (xs ys front : List A) → take (length front) xs ≡ front → take (length front) (xs ++ ys) ≡ front
front_kept xs ys [] h = refl
front_kept [] ys (f ∷ front) h = cc
front_kept (x ∷ xs) ys (f ∷ front) h =
    let head : x ≡ f = cc in
    let tail : take (length front) xs ≡ front = cc in
    let rest = front_kept xs ys front tail in
    cc
