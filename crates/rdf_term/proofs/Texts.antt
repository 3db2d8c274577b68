-- Different terms have different canonical texts: a text can be undone.
use Rattle.std.proofs.Common.{◌≡◌, ℕ, List, [], ◌∷◌, ◌++◌, false, refl, sym, ap, ◌∙◌, ⊎_elim, Ordering, Equal, ne_eqb}
use Rattle.std.specs.FinMap.{IsAntisymmetric, nat_cmp-IsAntisymmetric, slice_cmp-IsAntisymmetric}
use Rattle.std.specs.Ordering.{ordering_then}
use Rattle.sorted_sets.proofs.Bools.{then_first, then_second}
use Rattle.rdf_term.specs.declared.term.Term.{Term}
use Rattle.rdf_term.specs.declared.term.Term.TheVariants.{Iri, Blank, Plain, Lang, Typed}
use Rattle.rdf_term.specs.declared.triple.Triple.{Triple}
use Rattle.rdf_term.specs.Order.{term_cmp, triple_cmp}
use Rattle.rdf_term.specs.Text.{escaped, in_brackets, term_text}
use Rattle.rdf_term.specs.Undo.{front, front_of, byte_of, put, split_quoted, literal, literal_of, undo}
use Rattle.rdf_term.proofs.Escapes.{kind}

front_of-push : (x : ℕ) (xs : List ℕ) (y : ℕ) → front_of x (xs ++ y ∷ []) ≡ x ∷ xs
unfolding front_of
front_of-push x [] y = refl
front_of-push x (z ∷ zs) y = ap (λ l. x ∷ l) (front_of-push z zs y)

front-push : (xs : List ℕ) (y : ℕ) → front (xs ++ y ∷ []) ≡ xs
unfolding front front_of
front-push [] y = refl
front-push (x ∷ xs) y = front_of-push x xs y

split-escaped : (text rest : List ℕ) → split_quoted false (escaped text ++ 34 ∷ rest) ≡ record { text = text; rest = rest }
unfolding split_quoted put
split-escaped [] rest = refl
split-escaped (x ∷ xs) rest =
    ⊎_elim
    (λ k. rw (k.is, ne_eqb x 34 k.not_quote, ne_eqb x 92 k.not_backslash) (ap (put x) (split-escaped xs rest)))
    (λ k. rw k.is (ap (put (byte_of k.letter)) (split-escaped xs rest) ∙ ap (λ b. record { text = b ∷ xs; rest = rest }) k.byte))
    (kind x)

-- a canonical text is read back
pub undo-term_text : (t : Term) → undo (term_text t) ≡ t
unfolding undo literal literal_of
undo-term_text (Iri iri) = ap Iri (front-push iri 62)
undo-term_text (Blank label) = refl
undo-term_text (Plain text) = ap literal_of (split-escaped text [])
undo-term_text (Lang text tag) = ap literal_of (split-escaped text (64 ∷ tag))
undo-term_text (Typed text datatype) = ap literal_of (split-escaped text (94 ∷ 94 ∷ in_brackets datatype)) ∙ ap (Typed text) (front-push datatype 62)

-- different terms have different texts
pub same_text : (t u : Term) → term_text t ≡ term_text u → t ≡ u
same_text t u e = sym (undo-term_text t) ∙ ap undo e ∙ undo-term_text u

-- only equal terms tie
pub term_cmp-IsAntisymmetric : IsAntisymmetric term_cmp
term_cmp-IsAntisymmetric t u e = same_text t u (slice_cmp-IsAntisymmetric nat_cmp-IsAntisymmetric (term_text t) (term_text u) e)

-- only equal triples tie
pub triple_cmp-IsAntisymmetric : IsAntisymmetric triple_cmp
triple_cmp-IsAntisymmetric a b e =
    let rest = then_second (term_cmp a.subject b.subject) _ e in
    let subject = term_cmp-IsAntisymmetric a.subject b.subject (then_first _ _ e) in
    let predicate = term_cmp-IsAntisymmetric a.predicate b.predicate (then_first _ _ rest) in
    let object = term_cmp-IsAntisymmetric a.object b.object (then_second (term_cmp a.predicate b.predicate) _ rest) in
    λ i. record { subject = subject i; predicate = predicate i; object = object i }

-- triples are equal whose subjects tie, and whose other terms tie
pub tied_triples : (a b : Triple) (first rest : Ordering) → first ≡ term_cmp a.subject b.subject → first ≡ Equal → rest ≡ ordering_then (term_cmp a.predicate b.predicate) (term_cmp a.object b.object) → rest ≡ Equal → a ≡ b
tied_triples a b first rest s e r k =
    triple_cmp-IsAntisymmetric a b (ap (λ o. ordering_then o (ordering_then (term_cmp a.predicate b.predicate) (term_cmp a.object b.object))) (sym s ∙ e) ∙ sym r ∙ k)
