-- The lines of records have no line feed, so their texts split into them.
use Rattle.std.proofs.Common.{◌≡◌, ◌≢◌, refl, sym, subst, ◌∙◌, ap, ℕ, suc, ◌<◌, ◌^◌, ◌==◌, Bool, true, false, if◌then◌else◌, List, [], ◌∷◌, ◌++◌, length, map, flat_map, codes, slice_index, Option, None, Some, append_assoc, arith, true≢false}
use Rattle.std.specs.{Char.is_ascii_alphanumeric, Fmt.decimal, List.AllByRecursion, List.list_all, Option.option_map_or}
use Rattle.std.proofs.{lemmas.Bool.and_parts, lemmas.Bool.ne_eqb, lemmas.Fmt.digits_decimal, lemmas.Grind.flat_map-append}
use Rattle.std.proofs.lemmas.Str.Parse.{digit_at}
use Rattle.digits.proofs.Decimals.{decimal_numerals}
use Rattle.sorted_sets.specs.Rising.{Each}
use Rattle.wq_io.specs.Lines.{IsOneLine, ended_lines, line_feed, lines}
use Rattle.wq_io.proofs.LineLists.{lines-line, one_line-append}
use Rattle.rdf_term.specs.declared.tag.TagState.{TagState}
use Rattle.rdf_term.specs.declared.tag.TagState.TheVariants.{Start, First, Dash, Later}
use Rattle.rdf_term.specs.declared.term.Term.{Term}
use Rattle.rdf_term.specs.declared.term.Term.TheVariants.{Iri, Blank, Plain, Lang, Typed}
use Rattle.rdf_term.specs.{declared.triple.Triple.Triple, Fit.is_fit, Grammar.is_iri, Grammar.is_iri_char, Grammar.is_word}
use Rattle.rdf_term.specs.TagReader.{is_rest_of_tag, tag_state_after}
use Rattle.rdf_term.specs.Text.{escaped, escaped_byte, in_brackets, quoted, term_text}
use Rattle.rdf_term.proofs.Tags.{is_tag_read}
use Rattle.replica.specs.{declared.record.PatchRecord.PatchRecord, Head.head_line, Laws.HasShortNumbers, Laws.SplitsIntoLines}
use Rattle.replica.specs.{Record.head_of, Record.record_lines, Record.record_text, TripleLine.HasReadableTerms, TripleLine.triple_line}
use Rattle.replica.proofs.TripleLines.{line_joins}

-- ---- bytes

-- a byte that is no line feed before others without one
before_line : (b : ℕ) (bs : List ℕ) → (b == line_feed) ≡ false → IsOneLine bs → IsOneLine (b ∷ bs)
before_line b bs other one = rw other one

-- bytes of which none is a line feed
none_there : (bs : List ℕ) → ((i : ℕ) → i < length bs → slice_index bs i ≢ 10) → IsOneLine bs
none_there [] none = refl
none_there (b ∷ bs) none = before_line b bs (ne_eqb b 10 (none 0 (omega arith))) (none_there bs (λ i below. none (suc i) (omega (arith, below))))

-- bytes that pass a test which a line feed doesn't pass
passing : (test : ℕ → Bool) → test 10 ≡ false → (bs : List ℕ) → list_all test bs ≡ true → IsOneLine bs
passing test fails [] all = refl
passing test fails (b ∷ bs) all =
    let parts = and_parts (test b) (list_all test bs) all in
    before_line b bs (ne_eqb b 10 (λ same. true≢false (sym parts.0 ∙ ap test same ∙ fails))) (passing test fails bs parts.1)

-- ---- terms

brackets_line : (iri : List ℕ) → is_iri iri ≡ true → IsOneLine (in_brackets iri)
brackets_line iri fit = before_line 60 (iri ++ 62 ∷ []) refl (one_line-append iri (62 ∷ []) (passing is_iri_char refl iri fit) refl)

word_line : (bs : List ℕ) → is_word is_ascii_alphanumeric bs ≡ true → IsOneLine bs
word_line [] fit = refl
word_line (b ∷ bs) fit = passing is_ascii_alphanumeric refl (b ∷ bs) fit

none_in_tag : (state : TagState) → tag_state_after state 10 ≡ None
none_in_tag Start = refl
none_in_tag First = refl
none_in_tag Dash = refl
none_in_tag Later = refl

rest_line : (state : TagState) (bs : List ℕ) → is_rest_of_tag state bs ≡ true → IsOneLine bs
rest_line state [] fit = refl
rest_line state (b ∷ bs) fit = before_line b bs other (by (λ next. rest_line next bs) (tag_state_after state b) fit)
  where
    other : (b == line_feed) ≡ false
    other = ne_eqb b 10 (λ same. true≢false (sym fit ∙ ap (λ c. is_rest_of_tag state (c ∷ bs)) same ∙ ap (λ o. option_map_or (λ next. is_rest_of_tag next bs) o false) (none_in_tag state)))

    by : ((next : TagState) → is_rest_of_tag next bs ≡ true → IsOneLine bs) → (o : Option TagState) → option_map_or (λ next. is_rest_of_tag next bs) o false ≡ true → IsOneLine bs
    by others None never = absurd (true≢false (sym never))
    by others (Some next) goes = others next goes

escaped_line : (b : ℕ) → IsOneLine (escaped_byte b)
escaped_line b = by (b == 34) (b == 92) (b == 10) refl (b == 13)
  where
    by : (quote backslash feed : Bool) → (b == 10) ≡ feed → (return : Bool) → IsOneLine (if quote then 92 ∷ 34 ∷ []
        else (if backslash then 92 ∷ 92 ∷ []
        else (if feed then 92 ∷ 110 ∷ []
        else (if return then 92 ∷ 114 ∷ []
        else b ∷ []))))
    by true backslash feed is return = refl
    by false true feed is return = refl
    by false false true is return = refl
    by false false false is true = refl
    by false false false is false = before_line b [] is refl

text_line : (text : List ℕ) → IsOneLine (escaped text)
text_line [] = refl
text_line (b ∷ bs) = one_line-append (escaped_byte b) (escaped bs) (escaped_line b) (text_line bs)

quoted_line : (text suffix : List ℕ) → IsOneLine suffix → IsOneLine (quoted text suffix)
quoted_line text suffix one = before_line 34 (escaped text ++ 34 ∷ suffix) refl (one_line-append (escaped text) (34 ∷ suffix) (text_line text) (before_line 34 suffix refl one))

term_line : (term : Term) → is_fit term ≡ true → IsOneLine (term_text term)
term_line (Iri iri) fit = brackets_line iri fit
term_line (Blank label) fit = before_line 95 (58 ∷ label) refl (before_line 58 label refl (word_line label fit))
term_line (Plain text) fit = quoted_line text [] refl
term_line (Lang text tag) fit = quoted_line text (64 ∷ tag) (before_line 64 tag refl (rest_line Start tag (is_tag_read tag ∙ fit)))
term_line (Typed text datatype) fit =
    let iri = (and_parts (is_iri datatype) _ fit).0 in
    quoted_line text (94 ∷ 94 ∷ in_brackets datatype) (before_line 94 (94 ∷ in_brackets datatype) refl (before_line 94 (in_brackets datatype) refl (brackets_line datatype iri)))

-- ---- lines

triple_is_line : (triple : Triple) → HasReadableTerms triple → IsOneLine (triple_line triple)
triple_is_line triple readable =
    let s = term_text triple.subject in
    let p = term_text triple.predicate in
    let o = term_text triple.object in
    subst IsOneLine (sym (line_joins triple))
    (one_line-append s (32 ∷ (p ++ 32 ∷ (o ++ 32 ∷ 46 ∷ []))) (term_line triple.subject readable.subject.canonical.fit)
    (before_line 32 (p ++ 32 ∷ (o ++ 32 ∷ 46 ∷ [])) refl
    (one_line-append p (32 ∷ (o ++ 32 ∷ 46 ∷ [])) (term_line triple.predicate readable.predicate.canonical.fit)
    (before_line 32 (o ++ 32 ∷ 46 ∷ []) refl
    (one_line-append o (32 ∷ 46 ∷ []) (term_line triple.object readable.object.canonical.fit) refl)))))

decimal_line : (n : ℕ) → n < 2 ^ 64 → IsOneLine (decimal n)
decimal_line n small = none_there (decimal n) (λ i below is.
    let range = digit_at (decimal n) i (digits_decimal decimal_numerals n small) below in
    absurd (omega (arith, range.0, is)))

head_is_line : (item : PatchRecord) → HasShortNumbers item → IsOneLine (head_line (head_of item))
unfolding head_line
head_is_line item short =
    one_line-append (codes "# patch " ++ decimal item.number ++ codes " +" ++ decimal (length item.adds) ++ codes " -") (decimal (length item.removes))
    (one_line-append (codes "# patch " ++ decimal item.number ++ codes " +" ++ decimal (length item.adds)) (codes " -")
    (one_line-append (codes "# patch " ++ decimal item.number ++ codes " +") (decimal (length item.adds))
    (one_line-append (codes "# patch " ++ decimal item.number) (codes " +")
    (one_line-append (codes "# patch ") (decimal item.number) refl (decimal_line item.number short.number)) refl) (decimal_line (length item.adds) short.adds)) refl) (decimal_line (length item.removes) short.removes)

triples_are_lines : (triples : List Triple) → AllByRecursion HasReadableTerms triples → Each IsOneLine (map triple_line triples)
triples_are_lines [] all = tt
triples_are_lines (t ∷ ts) all = (triple_is_line t all.0, triples_are_lines ts all.1)

both_lines : (xs ys : List (List ℕ)) → Each IsOneLine xs → Each IsOneLine ys → Each IsOneLine (xs ++ ys)
both_lines [] ys first second = second
both_lines (x ∷ xs) ys first second = (first.0, both_lines xs ys first.1 second)

records_are_lines : (items : List PatchRecord) → AllByRecursion HasShortNumbers items → Each IsOneLine (flat_map record_lines items)
records_are_lines [] all = tt
records_are_lines (item ∷ items) all =
    both_lines (record_lines item) (flat_map record_lines items) (head_is_line item all.0, triples_are_lines (item.adds ++ item.removes) all.0.sound.readable) (records_are_lines items all.1)

-- ---- texts

texts_end_lines : (items : List PatchRecord) → flat_map record_text items ≡ ended_lines (flat_map record_lines items)
texts_end_lines [] = refl
texts_end_lines (item ∷ items) = ap (λ text. record_text item ++ text) (texts_end_lines items) ∙ sym (flat_map-append (λ line. line ++ line_feed ∷ []) (record_lines item) (flat_map record_lines items))

split_again : (ls : List (List ℕ)) → Each IsOneLine ls → lines (ended_lines ls) ≡ ls
split_again [] all = refl
split_again (l ∷ ls) all =
    ap lines (append_assoc l (line_feed ∷ []) (ended_lines ls)) ∙ lines-line l (ended_lines ls) all.0 ∙ ap (λ others. l ∷ others) (split_again ls all.1)

pub splits_into_lines : SplitsIntoLines
splits_into_lines items all = ap lines (texts_end_lines items) ∙ split_again (flat_map record_lines items) (records_are_lines items all)
