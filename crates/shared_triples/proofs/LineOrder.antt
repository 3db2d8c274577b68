-- The order of lines is that of triples: no text of a fit term is the beginning of another's that goes on with a byte up to the space.
use Rattle.std.proofs.Common.{◌≡◌, ◌≢◌, ℕ, Bool, true, false, ◌&&◌, ◌==◌, cond, nat_lt, List, [], ◌∷◌, ◌++◌, Ordering, Less, Equal, Greater, append_assoc, refl, sym, ap, ◌∙◌, arith}
use Rattle.std.specs.Char.{is_ascii_alphabetic, is_ascii_alphanumeric}
use Rattle.std.specs.List.{list_all, onto_first, slice_split}
use Rattle.std.specs.Ordering.{nat_cmp, ordering_then}
use Rattle.std.proofs.lemmas.Bool.Decides.{nat_tests}
use Rattle.sorted_sets.proofs.Bools.{and_left, and_right, clash}
use Rattle.rdf_term.specs.declared.term.Term.{Term}
use Rattle.rdf_term.specs.declared.term.Term.TheVariants.{Iri, Blank, Plain, Lang, Typed}
use Rattle.rdf_term.specs.declared.triple.Triple.{Triple}
use Rattle.rdf_term.specs.Fit.{HasFitAndShortTerms, is_fit}
use Rattle.rdf_term.specs.Grammar.{are_tag_parts, is_iri, is_iri_char, is_label, is_tag, is_word}
use Rattle.rdf_term.specs.Order.{bytes_cmp, term_cmp, triple_cmp}
use Rattle.rdf_term.specs.Text.{escaped, spaced, term_text, triple_text}
use Rattle.rdf_term.proofs.Escapes.{quoted_then, then_equal}

then_assoc : (a b c : Ordering) → ordering_then (ordering_then a b) c ≡ ordering_then a (ordering_then b c)
then_assoc Less b c = refl
then_assoc Equal b c = refl
then_assoc Greater b c = refl

-- numbers that differ decide, whatever follows them
decided : (x y : ℕ) → x ≢ y → (o p q : Ordering) → ordering_then (nat_cmp x y) o ≡ ordering_then (ordering_then (nat_cmp x y) p) q
decided x y n o p q = apart o ∙ sym (apart q) ∙ ap (λ r. ordering_then r q) (sym (apart p))
  where
    apart : (o : Ordering) → ordering_then (nat_cmp x y) o ≡ nat_cmp x y
    apart o = grind (arith, nat_tests)

-- ---- bytes above the space

abbrev is_wide : ℕ → Bool
is_wide b = nat_lt 32 b

below : (y : ℕ) → is_wide y ≡ true → nat_cmp 32 y ≡ Less
below y h = grind (arith, nat_tests)

above : (x : ℕ) → is_wide x ≡ true → nat_cmp x 32 ≡ Greater
above x h = grind (arith, nat_tests)

-- words of such bytes, with a space behind them
words : (u v r s : List ℕ) → list_all is_wide u ≡ true → list_all is_wide v ≡ true → bytes_cmp (u ++ 32 ∷ r) (v ++ 32 ∷ s) ≡ ordering_then (bytes_cmp u v) (bytes_cmp r s)
words [] [] r s p q = refl
words [] (y ∷ ys) r s p q = ap (λ o. ordering_then o (bytes_cmp r (ys ++ 32 ∷ s))) (below y (and_left (is_wide y) _ q))
words (x ∷ xs) [] r s p q = ap (λ o. ordering_then o (bytes_cmp (xs ++ 32 ∷ r) s)) (above x (and_left (is_wide x) _ p))
words (x ∷ xs) (y ∷ ys) r s p q =
    ap (λ o. ordering_then (nat_cmp x y) o) (words xs ys r s (and_right (is_wide x) _ p) (and_right (is_wide y) _ q))
    ∙ sym (then_assoc (nat_cmp x y) (bytes_cmp xs ys) (bytes_cmp r s))

-- ---- labels and tags

wide_letter : (b : ℕ) → is_ascii_alphanumeric b ≡ true → is_wide b ≡ true
wide_letter b h = grind (arith, nat_tests)

letters : (b : ℕ) → is_ascii_alphabetic b ≡ true → is_ascii_alphanumeric b ≡ true
letters b h = grind (arith, nat_tests)

both : (a b : Bool) → a ≡ true → b ≡ true → (a && b) ≡ true
both a b h k = ap (λ x. x && b) h ∙ k

all_weaker : {A : Type 0} (p q : A → Bool) → ((b : A) → p b ≡ true → q b ≡ true) → (xs : List A) → list_all p xs ≡ true → list_all q xs ≡ true
all_weaker p q weaker [] h = refl
all_weaker p q weaker (x ∷ xs) h = both (q x) _ (weaker x (and_left (p x) _ h)) (all_weaker p q weaker xs (and_right (p x) _ h))

word_all : (test : ℕ → Bool) (text : List ℕ) → is_word test text ≡ true → list_all test text ≡ true
word_all test [] h = refl
word_all test (b ∷ bs) h = h

wide_label : (text : List ℕ) → is_label text ≡ true → list_all is_wide text ≡ true
wide_label text h = all_weaker is_ascii_alphanumeric is_wide wide_letter text (word_all is_ascii_alphanumeric text h)

abbrev is_dash : ℕ → Bool
is_dash b = b == 45

abbrev all_letters : List (List ℕ) → Bool
all_letters parts = list_all (list_all is_ascii_alphanumeric) parts

tag_letters : (parts : List (List ℕ)) → are_tag_parts parts ≡ true → all_letters parts ≡ true
tag_letters [] h = refl
tag_letters (first ∷ later) h =
    both (list_all is_ascii_alphanumeric first) (all_letters later)
    (all_weaker is_ascii_alphabetic is_ascii_alphanumeric letters first (word_all is_ascii_alphabetic first (and_left (is_word is_ascii_alphabetic first) _ h)))
    (all_weaker (is_word is_ascii_alphanumeric) (list_all is_ascii_alphanumeric) (word_all is_ascii_alphanumeric) later (and_right (is_word is_ascii_alphabetic first) _ h))

first_wide : (b : ℕ) (parts : List (List ℕ)) → all_letters (onto_first b parts) ≡ true → (is_wide b ≡ true) × (all_letters parts ≡ true)
first_wide b [] h = (wide_letter b (and_left (is_ascii_alphanumeric b) true (and_left (is_ascii_alphanumeric b && true) true h)), refl)
first_wide b (part ∷ parts) h =
    let first : (is_ascii_alphanumeric b && list_all is_ascii_alphanumeric part) ≡ true = and_left _ (all_letters parts) h in
    (wide_letter b (and_left (is_ascii_alphanumeric b) _ first), both (list_all is_ascii_alphanumeric part) (all_letters parts) (and_right (is_ascii_alphanumeric b) _ first) (and_right (is_ascii_alphanumeric b && list_all is_ascii_alphanumeric part) _ h))

wide_dash : (b : ℕ) → is_dash b ≡ true → is_wide b ≡ true
wide_dash b h = grind (arith, nat_tests)

wide_parts : (text : List ℕ) → all_letters (slice_split is_dash text) ≡ true → list_all is_wide text ≡ true
wide_parts [] h = refl
wide_parts (b ∷ bs) h = by (is_dash b) refl h (wide_parts bs)
  where
    by : (d : Bool) → is_dash b ≡ d → all_letters (cond d ([] ∷ slice_split is_dash bs) (onto_first b (slice_split is_dash bs))) ≡ true
        → (all_letters (slice_split is_dash bs) ≡ true → list_all is_wide bs ≡ true) → (is_wide b && list_all is_wide bs) ≡ true
    by true is h later = both (is_wide b) _ (wide_dash b is) (later h)
    by false is h later = let parts = first_wide b (slice_split is_dash bs) h in both (is_wide b) _ parts.0 (later parts.1)

wide_tag : (tag : List ℕ) → is_tag tag ≡ true → list_all is_wide tag ≡ true
wide_tag tag h = wide_parts tag (tag_letters (slice_split is_dash tag) h)

-- ---- IRIs

no_end : (b : ℕ) → is_iri_char b ≡ true → b ≢ 62
no_end b h e = clash h (ap is_iri_char e)

-- IRIs with the bracket that ends them
iris : (u v r s : List ℕ) → is_iri u ≡ true → is_iri v ≡ true → bytes_cmp ((u ++ 62 ∷ []) ++ r) ((v ++ 62 ∷ []) ++ s) ≡ ordering_then (bytes_cmp (u ++ 62 ∷ []) (v ++ 62 ∷ [])) (bytes_cmp r s)
iris [] [] r s p q = refl
iris [] (y ∷ ys) r s p q = decided 62 y (λ e. no_end y (and_left (is_iri_char y) _ q) (sym e)) _ _ _
iris (x ∷ xs) [] r s p q = decided x 62 (no_end x (and_left (is_iri_char x) _ p)) _ _ _
iris (x ∷ xs) (y ∷ ys) r s p q =
    ap (λ o. ordering_then (nat_cmp x y) o) (iris xs ys r s (and_right (is_iri_char x) _ p) (and_right (is_iri_char y) _ q))
    ∙ sym (then_assoc (nat_cmp x y) (bytes_cmp (xs ++ 62 ∷ []) (ys ++ 62 ∷ [])) (bytes_cmp r s))

-- ---- terms

-- literals of which the parts behind the quotes compare so
literals : (a b u v r s : List ℕ) → bytes_cmp (u ++ 32 ∷ r) (v ++ 32 ∷ s) ≡ ordering_then (bytes_cmp u v) (bytes_cmp r s)
    → bytes_cmp ((escaped a ++ 34 ∷ u) ++ 32 ∷ r) ((escaped b ++ 34 ∷ v) ++ 32 ∷ s) ≡ ordering_then (bytes_cmp (escaped a ++ 34 ∷ u) (escaped b ++ 34 ∷ v)) (bytes_cmp r s)
literals a b u v r s ends =
    let quotes : Ordering = bytes_cmp (escaped a ++ 34 ∷ []) (escaped b ++ 34 ∷ []) in
    (λ i. bytes_cmp (append_assoc (escaped a) (34 ∷ u) (32 ∷ r) i) (append_assoc (escaped b) (34 ∷ v) (32 ∷ s) i))
    ∙ quoted_then a b (u ++ 32 ∷ r) (v ++ 32 ∷ s)
    ∙ ap (λ o. ordering_then quotes o) ends
    ∙ sym (then_assoc quotes (bytes_cmp u v) (bytes_cmp r s))
    ∙ ap (λ o. ordering_then o (bytes_cmp r s)) (sym (quoted_then a b u v))

terms : (a b : Term) (r s : List ℕ) → is_fit a ≡ true → is_fit b ≡ true → bytes_cmp (term_text a ++ 32 ∷ r) (term_text b ++ 32 ∷ s) ≡ ordering_then (term_cmp a b) (bytes_cmp r s)
terms (Iri i) (Iri j) r s p q = iris i j (32 ∷ r) (32 ∷ s) p q
terms (Iri i) (Blank l) r s p q = refl
terms (Iri i) (Plain t) r s p q = refl
terms (Iri i) (Lang t tag) r s p q = refl
terms (Iri i) (Typed t d) r s p q = refl
terms (Blank k) (Iri j) r s p q = refl
terms (Blank k) (Blank l) r s p q = words k l r s (wide_label k p) (wide_label l q)
terms (Blank k) (Plain t) r s p q = refl
terms (Blank k) (Lang t tag) r s p q = refl
terms (Blank k) (Typed t d) r s p q = refl
terms (Plain t) (Iri j) r s p q = refl
terms (Plain t) (Blank l) r s p q = refl
terms (Plain t) (Plain u) r s p q = literals t u [] [] r s refl
terms (Plain t) (Lang u tag) r s p q = literals t u [] (64 ∷ tag) r s refl
terms (Plain t) (Typed u d) r s p q = literals t u [] (94 ∷ 94 ∷ 60 ∷ (d ++ 62 ∷ [])) r s refl
terms (Lang t tag) (Iri j) r s p q = refl
terms (Lang t tag) (Blank l) r s p q = refl
terms (Lang t tag) (Plain u) r s p q = literals t u (64 ∷ tag) [] r s refl
terms (Lang t tag) (Lang u other) r s p q = literals t u (64 ∷ tag) (64 ∷ other) r s (words tag other r s (wide_tag tag p) (wide_tag other q))
terms (Lang t tag) (Typed u d) r s p q = literals t u (64 ∷ tag) (94 ∷ 94 ∷ 60 ∷ (d ++ 62 ∷ [])) r s refl
terms (Typed t d) (Iri j) r s p q = refl
terms (Typed t d) (Blank l) r s p q = refl
terms (Typed t d) (Plain u) r s p q = literals t u (94 ∷ 94 ∷ 60 ∷ (d ++ 62 ∷ [])) [] r s refl
terms (Typed t d) (Lang u tag) r s p q = literals t u (94 ∷ 94 ∷ 60 ∷ (d ++ 62 ∷ [])) (64 ∷ tag) r s refl
terms (Typed t d) (Typed u e) r s p q =
    literals t u (94 ∷ 94 ∷ 60 ∷ (d ++ 62 ∷ [])) (94 ∷ 94 ∷ 60 ∷ (e ++ 62 ∷ [])) r s
    (iris d e (32 ∷ r) (32 ∷ s) (and_left (is_iri d) _ p) (and_left (is_iri e) _ q))

spaced_then : (a b : Term) (r s : List ℕ) → is_fit a ≡ true → is_fit b ≡ true → bytes_cmp (spaced a ++ r) (spaced b ++ s) ≡ ordering_then (term_cmp a b) (bytes_cmp r s)
spaced_then a b r s p q =
    (λ i. bytes_cmp (append_assoc (term_text a) (32 ∷ []) r i) (append_assoc (term_text b) (32 ∷ []) s i)) ∙ terms a b r s p q

nested : (a : Triple) → triple_text a ≡ spaced a.subject ++ (spaced a.predicate ++ (spaced a.object ++ 46 ∷ 10 ∷ []))
nested a =
    append_assoc (spaced a.subject ++ spaced a.predicate) (spaced a.object) (46 ∷ 10 ∷ [])
    ∙ append_assoc (spaced a.subject) (spaced a.predicate) (spaced a.object ++ 46 ∷ 10 ∷ [])

pub lines_ordered : (a b : Triple) → HasFitAndShortTerms a → HasFitAndShortTerms b → bytes_cmp (triple_text a) (triple_text b) ≡ triple_cmp a b
lines_ordered a b f g =
    let end : List ℕ = 46 ∷ 10 ∷ [] in
    (λ i. bytes_cmp (nested a i) (nested b i))
    ∙ spaced_then a.subject b.subject (spaced a.predicate ++ (spaced a.object ++ end)) (spaced b.predicate ++ (spaced b.object ++ end)) f.subject.fit g.subject.fit
    ∙ ap (λ o. ordering_then (term_cmp a.subject b.subject) o) (
    spaced_then a.predicate b.predicate (spaced a.object ++ end) (spaced b.object ++ end) f.predicate.fit g.predicate.fit
    ∙ ap (λ o. ordering_then (term_cmp a.predicate b.predicate) o) (
    spaced_then a.object b.object end end f.object.fit g.object.fit ∙ then_equal (term_cmp a.object b.object)))
