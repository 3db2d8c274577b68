-- The reader of terms finds just the terms that texts write.
use Rattle.std.proofs.Common.{◌≡◌, ◌↔◌, ℕ, ◌==◌, Bool, true, false, List, [], ◌∷◌, ◌++◌, Option, Some, None, Result, Ok, Err, IfOk, refl, sym, ap, ◌∙◌, subst, ⊎_elim, nat_lt, if◌then◌else◌}
use Rattle.std.specs.Option.{option_map, option_and_then}
use Rattle.std.proofs.lemmas.Bool.{cases_Bool, eqb-true}
use Rattle.term_reading.specs.declared.content.Enclosure.TheVariants.{Brackets, Quotes}
use Rattle.term_reading.specs.declared.content.State.TheVariants.{Between}
use Rattle.base.specs.declared.memory.OutOfMemory.{OutOfMemory}
use Rattle.rdf_term.specs.declared.term.Term.{Term}
use Rattle.rdf_term.specs.declared.term.Term.TheVariants.{Iri, Blank, Plain, Lang}
use Rattle.rdf_term.specs.Grammar.{is_label, is_tag}
use Rattle.term_reading.specs.Reader.{read, content_of, split_ascii, whole, iri_in, behind, blank_in, typed_in, literal_after, literal_with, literal_in, term_after}
use Rattle.rdf_term.specs.Text.{in_quotes}
use Rattle.term_reading.specs.Written.{IsEscapedText, IsWritten, iri, blank, plain, lang, typed, literal_of_type}
use Rattle.term_reading.proofs.Pieces.{content_read}
use Rattle.term_reading.proofs.Found.{IsRead, read_content}

-- what a text writes is read
written_read : (text : List ℕ) (term : Term) → IsWritten text term → read text ≡ Some term
unfolding read
written_read _ _ (iri pieces text h) = rw (content_read Brackets pieces text [] h) refl
written_read _ _ (blank label h) = rw h refl
written_read _ _ (plain pieces text h) = rw (content_read Quotes pieces text [] h) refl
written_read _ _ (lang pieces text tag h t) = rw (content_read Quotes pieces text (64 ∷ tag) h, t) refl
written_read _ _ (typed pieces text others datatype h k) = rw (content_read Quotes pieces text (94 ∷ 94 ∷ 60 ∷ (others ++ 62 ∷ [])) h, content_read Brackets others datatype [] k) refl

-- ---- what is read is written

record Comes {A B : Type 0} (f : A → Option B) (o : Option A) (y : B) : Type 0 where
  value : A
  is : o ≡ Some value
  gives : f value ≡ Some y

comes : {A B : Type 0} (f : A → Option B) (o : Option A) (y : B) → option_and_then f o ≡ Some y → Comes f o y
comes f None y h = cc
comes f (Some x) y h = record { value = x; is = refl; gives = h }

record Maps {A B : Type 0} (f : A → B) (o : Option A) (y : B) : Type 0 where
  value : A
  is : o ≡ Some value
  gives : f value ≡ y

maps : {A B : Type 0} (f : A → B) (o : Option A) (y : B) → option_map f o ≡ Some y → Maps f o y
maps f None y h = cc
maps f (Some x) y h = record { value = x; is = refl; gives = cc }

passes : {A : Type 0} (b : Bool) (x y : A) → (if b then Some x else None) ≡ Some y → (b ≡ true) × (x ≡ y)
passes true x y h = (refl, cc)
passes false x y h = cc

split_is : (text : List ℕ) (p : ℕ × List ℕ) → split_ascii text ≡ Some p → text ≡ p.0 ∷ p.1
split_is [] p h = cc
split_is (x ∷ xs) p h =
    let same = (passes (nat_lt x 128) (x, xs) p h).1 in
    ap (λ q. q.0 ∷ q.1) same

behind_is : (byte : ℕ) (text rest : List ℕ) → behind byte text ≡ Some rest → text ≡ byte ∷ rest
behind_is byte text rest h =
    let first = comes (λ (p : ℕ × List ℕ). if p.0 == byte then Some p.1 else None) (split_ascii text) rest h in
    let same = passes (first.value.0 == byte) first.value.1 rest first.gives in
    split_is text first.value first.is ∙ ap (λ b. b ∷ first.value.1) (eqb-true first.value.0 byte same.0) ∙ ap (λ l. byte ∷ l) same.1

whole_is : (i rest text : List ℕ) → whole text rest ≡ Some i → (text ≡ i) × (rest ≡ [])
whole_is i [] text h = (cc, refl)
whole_is i (x ∷ xs) text h = cc

iri_read : (text i : List ℕ) → iri_in text ≡ Some i → IsRead Brackets text i []
iri_read text i h =
    let found = comes (λ (p : List ℕ × List ℕ). whole p.0 p.1) (content_of Brackets Between text) i h in
    let ends = whole_is i found.value.1 found.value.0 found.gives in
    subst (λ l. IsRead Brackets text i l) ends.1 (subst (λ l. IsRead Brackets text l found.value.1) ends.0 (read_content Brackets text found.value.0 found.value.1 found.is))

iri_written : (rest : List ℕ) (term : Term) → option_map Iri (iri_in rest) ≡ Some term → IsWritten (60 ∷ rest) term
iri_written rest term h =
    let found = maps Iri (iri_in rest) term h in
    let content = iri_read rest found.value found.is in
    subst (IsWritten (60 ∷ rest)) found.gives (subst (λ l. IsWritten (60 ∷ l) (Iri found.value)) (sym content.is) (iri content.pieces found.value content.content))

blank_written : (rest : List ℕ) (term : Term) → blank_in rest ≡ Some term → IsWritten (95 ∷ rest) term
blank_written rest term h =
    let found = comes (λ (label : List ℕ). if is_label label then Some (Blank label) else None) (behind 58 rest) term h in
    let same = passes (is_label found.value) (Blank found.value) term found.gives in
    subst (IsWritten (95 ∷ rest)) same.1 (subst (λ l. IsWritten (95 ∷ l) (Blank found.value)) (sym (behind_is 58 rest found.value found.is)) (blank found.value same.0))

lang_written : (pieces text tag : List ℕ) (term : Term) → IsEscapedText Quotes pieces text → (if is_tag tag then Some (Lang text tag) else None) ≡ Some term → IsWritten (34 ∷ (pieces ++ 34 ∷ 64 ∷ tag)) term
lang_written pieces text tag term content h =
    let same = passes (is_tag tag) (Lang text tag) term h in
    subst (IsWritten (34 ∷ (pieces ++ 34 ∷ 64 ∷ tag))) same.1 (lang pieces text tag content same.0)

typed_written : (pieces text rest : List ℕ) (term : Term) → IsEscapedText Quotes pieces text → typed_in text rest ≡ Some term → IsWritten (34 ∷ (pieces ++ 34 ∷ 94 ∷ rest)) term
typed_written pieces text rest term content h =
    let found = maps (literal_of_type text) (option_and_then iri_in (option_and_then (behind 60) (behind 94 rest))) term h in
    let inner = comes iri_in (option_and_then (behind 60) (behind 94 rest)) found.value found.is in
    let last = comes (behind 60) (behind 94 rest) inner.value inner.is in
    let others = iri_read inner.value found.value inner.gives in
    let is = behind_is 94 rest last.value last.is ∙ ap (λ l. 94 ∷ l) (behind_is 60 last.value inner.value last.gives) ∙ ap (λ l. 94 ∷ 60 ∷ l) others.is in
    subst (IsWritten (34 ∷ (pieces ++ 34 ∷ 94 ∷ rest))) found.gives
    (subst (λ l. IsWritten (34 ∷ (pieces ++ 34 ∷ 94 ∷ l)) (literal_of_type text found.value)) (sym is) (typed pieces text others.pieces found.value content others.content))

by_suffix : (pieces text : List ℕ) (first : ℕ) (rest : List ℕ) (term : Term) → IsEscapedText Quotes pieces text → literal_after text first rest ≡ Some term → IsWritten (in_quotes pieces (first ∷ rest)) term
by_suffix pieces text first rest term content h = ⊎_elim
    (λ (t : (first == 64) ≡ true). rw (eqb-true first 64 t) (lang_written pieces text rest term content (rw t at h)))
    (λ (f : (first == 64) ≡ false). ⊎_elim
    (λ (t : (first == 94) ≡ true). rw (eqb-true first 94 t) (typed_written pieces text rest term content (rw (f, t) at h)))
    (λ (g : (first == 94) ≡ false). let none = rw (f, g) at h in cc)
    (cases_Bool (first == 94)))
    (cases_Bool (first == 64))

-- a literal, by what stands behind its closing quote
suffix_written : (pieces text rest : List ℕ) (term : Term) → IsEscapedText Quotes pieces text → literal_with text rest ≡ Some term → IsWritten (in_quotes pieces rest) term
suffix_written pieces text [] term content h =
    let same : Plain text ≡ term = cc in
    subst (IsWritten (34 ∷ (pieces ++ 34 ∷ []))) same (plain pieces text content)
suffix_written pieces text (x ∷ xs) term content h =
    let found = comes (λ (p : ℕ × List ℕ). literal_after text p.0 p.1) (split_ascii (x ∷ xs)) term h in
    subst (λ l. IsWritten (34 ∷ (pieces ++ 34 ∷ l)) term) (sym (split_is (x ∷ xs) found.value found.is)) (by_suffix pieces text found.value.0 found.value.1 term content found.gives)

literal_written : (rest : List ℕ) (term : Term) → literal_in rest ≡ Some term → IsWritten (34 ∷ rest) term
literal_written rest term h =
    let found = comes (λ (p : List ℕ × List ℕ). literal_with p.0 p.1) (content_of Quotes Between rest) term h in
    let content = read_content Quotes rest found.value.0 found.value.1 found.is in
    subst (λ l. IsWritten (34 ∷ l) term) (sym content.is) (suffix_written content.pieces found.value.0 found.value.1 term content.content found.gives)

by_first : (first : ℕ) (rest : List ℕ) (term : Term) → term_after first rest ≡ Some term → IsWritten (first ∷ rest) term
by_first first rest term h = ⊎_elim
    (λ (t : (first == 60) ≡ true). rw (eqb-true first 60 t) (iri_written rest term (rw t at h)))
    (λ (f : (first == 60) ≡ false). ⊎_elim
    (λ (t : (first == 95) ≡ true). rw (eqb-true first 95 t) (blank_written rest term (rw (f, t) at h)))
    (λ (g : (first == 95) ≡ false). ⊎_elim
    (λ (t : (first == 34) ≡ true). rw (eqb-true first 34 t) (literal_written rest term (rw (f, g, t) at h)))
    (λ (k : (first == 34) ≡ false). let none = rw (f, g, k) at h in cc)
    (cases_Bool (first == 34)))
    (cases_Bool (first == 95)))
    (cases_Bool (first == 60))

read_written : (text : List ℕ) (term : Term) → read text ≡ Some term → IsWritten text term
unfolding read
read_written text term h =
    let found = comes (λ (p : ℕ × List ℕ). term_after p.0 p.1) (split_ascii text) term h in
    subst (λ l. IsWritten l term) (sym (split_is text found.value found.is)) (by_first found.value.0 found.value.1 term found.gives)

pub reads : (text : List ℕ) (term : Term) → (read text ≡ Some term) ↔ IsWritten text term
reads text term = (read_written text term, written_read text term)

pub reads_ok : (text : List ℕ) (r : Result (Option Term) OutOfMemory) → IfOk r (λ found. found ≡ read text) → IfOk r (λ found. (term : Term) → (found ≡ Some term) ↔ IsWritten text term)
reads_ok text (Ok found) h = λ term. rw h (reads text term)
reads_ok text (Err fault) h = tt
