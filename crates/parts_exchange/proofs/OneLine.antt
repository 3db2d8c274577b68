-- The line of a fit triple has no line feed but at its end.
use Rattle.std.proofs.Common.{◌≡◌, refl, sym, ◌∙◌, ap, ℕ, ◌==◌, Bool, true, false, if◌then◌else◌, List, [], ◌∷◌, ◌++◌, Option, None, Some, append_assoc, true≢false}
use Rattle.std.specs.{Char.is_ascii_alphanumeric, List.list_all, Option.option_map_or}
use Rattle.std.proofs.{lemmas.Bool.and_parts, lemmas.Bool.ne_eqb}
use Rattle.wq_io.specs.Lines.{IsOneLine, line_feed}
use Rattle.wq_io.proofs.LineLists.{one_line-append}
use Rattle.rdf_term.specs.declared.tag.TagState.{TagState}
use Rattle.rdf_term.specs.declared.tag.TagState.TheVariants.{Start, First, Dash, Later}
use Rattle.rdf_term.specs.declared.term.Term.{Term}
use Rattle.rdf_term.specs.declared.term.Term.TheVariants.{Iri, Blank, Plain, Lang, Typed}
use Rattle.rdf_term.specs.{declared.triple.Triple.Triple, Fit.HasFitAndShortTerms, Fit.is_fit, Grammar.is_iri, Grammar.is_iri_char, Grammar.is_word}
use Rattle.rdf_term.specs.TagReader.{is_rest_of_tag, tag_state_after}
use Rattle.rdf_term.specs.Text.{escaped, escaped_byte, in_brackets, quoted, spaced, term_text, triple_text}
use Rattle.rdf_term.proofs.Tags.{is_tag_read}

-- the line of a triple has no line feed but at its end
pub record IsLine (triple : Triple) : Type 0 where
  pub body : List ℕ
  pub is : triple_text triple ≡ body ++ 10 ∷ []
  pub one : IsOneLine body

-- ---- bytes

-- a byte that is no line feed before others without one
before_line : (b : ℕ) (bs : List ℕ) → (b == line_feed) ≡ false → IsOneLine bs → IsOneLine (b ∷ bs)
before_line b bs other one = rw other one

-- bytes that pass a test which a line feed doesn't pass
passing : (test : ℕ → Bool) → test 10 ≡ false → (bs : List ℕ) → list_all test bs ≡ true → IsOneLine bs
passing test fails [] all = refl
passing test fails (b ∷ bs) all =
    let parts = and_parts (test b) (list_all test bs) all in
    before_line b bs (ne_eqb b 10 (λ same. true≢false (sym parts.0 ∙ ap test same ∙ fails))) (passing test fails bs parts.1)

-- ---- terms

brackets_line : (iri : List ℕ) → is_iri iri ≡ true → IsOneLine (in_brackets iri)
brackets_line iri fit = before_line 60 (iri ++ 62 ∷ []) refl (one_line-append iri (62 ∷ []) (passing is_iri_char refl iri fit) refl)

word_line : (bs : List ℕ) → is_word is_ascii_alphanumeric bs ≡ true → IsOneLine bs
word_line [] fit = refl
word_line (b ∷ bs) fit = passing is_ascii_alphanumeric refl (b ∷ bs) fit

none_in_tag : (state : TagState) → tag_state_after state 10 ≡ None
none_in_tag Start = refl
none_in_tag First = refl
none_in_tag Dash = refl
none_in_tag Later = refl

rest_line : (state : TagState) (bs : List ℕ) → is_rest_of_tag state bs ≡ true → IsOneLine bs
rest_line state [] fit = refl
rest_line state (b ∷ bs) fit = before_line b bs other (by (λ next. rest_line next bs) (tag_state_after state b) fit)
  where
    other : (b == line_feed) ≡ false
    other = ne_eqb b 10 (λ same. true≢false (sym fit ∙ ap (λ c. is_rest_of_tag state (c ∷ bs)) same ∙ ap (λ o. option_map_or (λ next. is_rest_of_tag next bs) o false) (none_in_tag state)))

    by : ((next : TagState) → is_rest_of_tag next bs ≡ true → IsOneLine bs) → (o : Option TagState) → option_map_or (λ next. is_rest_of_tag next bs) o false ≡ true → IsOneLine bs
    by others None never = absurd (true≢false (sym never))
    by others (Some next) goes = others next goes

escaped_line : (b : ℕ) → IsOneLine (escaped_byte b)
escaped_line b = by (b == 34) (b == 92) (b == 10) refl (b == 13)
  where
    by : (quote backslash feed : Bool) → (b == 10) ≡ feed → (return : Bool) → IsOneLine (if quote then 92 ∷ 34 ∷ []
        else (if backslash then 92 ∷ 92 ∷ []
        else (if feed then 92 ∷ 110 ∷ []
        else (if return then 92 ∷ 114 ∷ []
        else b ∷ []))))
    by true backslash feed is return = refl
    by false true feed is return = refl
    by false false true is return = refl
    by false false false is true = refl
    by false false false is false = before_line b [] is refl

text_line : (text : List ℕ) → IsOneLine (escaped text)
text_line [] = refl
text_line (b ∷ bs) = one_line-append (escaped_byte b) (escaped bs) (escaped_line b) (text_line bs)

quoted_line : (text suffix : List ℕ) → IsOneLine suffix → IsOneLine (quoted text suffix)
quoted_line text suffix one = before_line 34 (escaped text ++ 34 ∷ suffix) refl (one_line-append (escaped text) (34 ∷ suffix) (text_line text) (before_line 34 suffix refl one))

term_line : (term : Term) → is_fit term ≡ true → IsOneLine (term_text term)
term_line (Iri iri) fit = brackets_line iri fit
term_line (Blank label) fit = before_line 95 (58 ∷ label) refl (before_line 58 label refl (word_line label fit))
term_line (Plain text) fit = quoted_line text [] refl
term_line (Lang text tag) fit = quoted_line text (64 ∷ tag) (before_line 64 tag refl (rest_line Start tag (is_tag_read tag ∙ fit)))
term_line (Typed text datatype) fit =
    let iri = (and_parts (is_iri datatype) _ fit).0 in
    quoted_line text (94 ∷ 94 ∷ in_brackets datatype) (before_line 94 (94 ∷ in_brackets datatype) refl (before_line 94 (in_brackets datatype) refl (brackets_line datatype iri)))

-- ---- lines

spaced_line : (term : Term) → is_fit term ≡ true → IsOneLine (spaced term)
spaced_line term fit = one_line-append (term_text term) (32 ∷ []) (term_line term fit) refl

pub line_of_fit : (t : Triple) → HasFitAndShortTerms t → IsLine t
line_of_fit t h =
    let front = spaced t.subject ++ spaced t.predicate ++ spaced t.object in
    record {
      body = front ++ 46 ∷ [];
      is = sym (append_assoc front (46 ∷ []) (10 ∷ []));
      one = one_line-append front (46 ∷ [])
          (one_line-append (spaced t.subject ++ spaced t.predicate) (spaced t.object)
          (one_line-append (spaced t.subject) (spaced t.predicate) (spaced_line t.subject h.subject.fit) (spaced_line t.predicate h.predicate.fit)) (spaced_line t.object h.object.fit)) refl;
    }
