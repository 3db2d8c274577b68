-- A language is a language tag without upper-case letters, and may stand in an IRI.
use Rattle.std.proofs.Common.{◌≡◌, ℕ, ◌<◌, Bool, true, false, ◌&&◌, List, [], ◌∷◌, ◌==◌, length, refl, ◌∙◌, ap, arith, ⊎_elim, ne_eqb}
use Rattle.std.specs.Char.{is_ascii_alphabetic, is_ascii_alphanumeric, is_ascii_lowercase}
use Rattle.std.specs.List.{list_all, slice_split, onto_first}
use Rattle.std.proofs.lemmas.Bool.{and_from, and_parts, cases_eq}
use Rattle.std.proofs.lemmas.Bool.Decides.{nat_tests}
use Rattle.std.proofs.lemmas.List.Splits.{length-slice_split}
use Rattle.rdf_term.specs.Grammar.{are_tag_parts, is_iri, is_iri_char, is_tag, is_word}
use Rattle.sitelinks.specs.Language.{are_language_parts, is_language, is_lowercase_or_digit, is_no_upper_case}

abbrev parts_of : List ℕ → List (List ℕ)
parts_of text = slice_split (λ c. c == 45) text

in_front : (test : ℕ → Bool) (x : ℕ) (parts : List (List ℕ)) → 0 < length parts → (test x && list_all (list_all test) parts) ≡ list_all (list_all test) (onto_first x parts)
in_front test x [] some = absurd (omega arith)
in_front test x (part ∷ parts) some =
    elim (test x) as (λ b. (b && (list_all test part && list_all (list_all test) parts)) ≡ ((b && list_all test part) && list_all (list_all test) parts)) [ true ↦ refl | false ↦ refl ]

-- a test that a dash passes holds of each byte where it holds of each part's
parts_pass : (test : ℕ → Bool) → test 45 ≡ true → (text : List ℕ) → list_all test text ≡ list_all (list_all test) (parts_of text)
parts_pass test dash [] = refl
parts_pass test dash (x ∷ xs) =
    ⊎_elim
    (λ e. rw e (ap (λ b. b && list_all test xs) dash ∙ parts_pass test dash xs))
    (λ n. let apart = ne_eqb x 45 n in rw apart (ap (λ b. test x && b) (parts_pass test dash xs) ∙ in_front test x (parts_of xs) (omega (arith, length-slice_split (λ c. c == 45) xs))))
    (cases_eq x 45)

lowercase : (c : ℕ) → (is_ascii_alphabetic c && is_no_upper_case c) ≡ is_ascii_lowercase c
lowercase c = grind (arith, nat_tests)

lowercase_or_digit : (c : ℕ) → (is_ascii_alphanumeric c && is_no_upper_case c) ≡ is_lowercase_or_digit c
lowercase_or_digit c = grind (arith, nat_tests)

swap : (a b c d : Bool) → ((a && b) && (c && d)) ≡ ((a && c) && (b && d))
swap true true c d = refl
swap true false true d = refl
swap true false false d = refl
swap false b c d = refl

module _ (wide narrow : ℕ → Bool) (same : (c : ℕ) → (wide c && is_no_upper_case c) ≡ narrow c) where
  all_narrow : (text : List ℕ) → (list_all wide text && list_all is_no_upper_case text) ≡ list_all narrow text
  all_narrow [] = refl
  all_narrow (c ∷ cs) =
      swap (wide c) (list_all wide cs) (is_no_upper_case c) (list_all is_no_upper_case cs)
      ∙ ap (λ b. b && (list_all wide cs && list_all is_no_upper_case cs)) (same c) ∙ ap (λ b. narrow c && b) (all_narrow cs)

  word_narrow : (text : List ℕ) → (is_word wide text && list_all is_no_upper_case text) ≡ is_word narrow text
  word_narrow [] = refl
  word_narrow (c ∷ cs) = all_narrow (c ∷ cs)

  words_narrow : (parts : List (List ℕ)) → (list_all (is_word wide) parts && list_all (list_all is_no_upper_case) parts) ≡ list_all (is_word narrow) parts
  words_narrow [] = refl
  words_narrow (part ∷ parts) =
      swap (is_word wide part) (list_all (is_word wide) parts) (list_all is_no_upper_case part) (list_all (list_all is_no_upper_case) parts)
      ∙ ap (λ b. b && (list_all (is_word wide) parts && list_all (list_all is_no_upper_case) parts)) (word_narrow part) ∙ ap (λ b. is_word narrow part && b) (words_narrow parts)

parts_narrow : (parts : List (List ℕ)) → (are_tag_parts parts && list_all (list_all is_no_upper_case) parts) ≡ are_language_parts parts
parts_narrow [] = refl
parts_narrow (first ∷ later) =
    swap (is_word is_ascii_alphabetic first) (list_all (is_word is_ascii_alphanumeric) later) (list_all is_no_upper_case first) (list_all (list_all is_no_upper_case) later)
    ∙ ap (λ b. b && (list_all (is_word is_ascii_alphanumeric) later && list_all (list_all is_no_upper_case) later)) (word_narrow is_ascii_alphabetic is_ascii_lowercase lowercase first)
    ∙ ap (λ b. is_word is_ascii_lowercase first && b) (words_narrow is_ascii_alphanumeric is_lowercase_or_digit lowercase_or_digit later)

-- a tag without upper-case letters is a language, and nothing else is
pub language_is_tag : (text : List ℕ) → (is_tag text && list_all is_no_upper_case text) ≡ is_language text
language_is_tag text = ap (λ b. is_tag text && b) (parts_pass is_no_upper_case refl text) ∙ parts_narrow (parts_of text)

module _ (test : ℕ → Bool) (may : (c : ℕ) → test c ≡ true → is_iri_char c ≡ true) where
  all_iri_chars : (text : List ℕ) → list_all test text ≡ true → is_iri text ≡ true
  all_iri_chars [] h = refl
  all_iri_chars (c ∷ cs) h =
      let parts = and_parts (test c) (list_all test cs) h in
      and_from (is_iri_char c) (is_iri cs) (may c parts.0) (all_iri_chars cs parts.1)

  word_iri : (text : List ℕ) → is_word test text ≡ true → is_iri text ≡ true
  word_iri [] h = cc
  word_iri (c ∷ cs) h = all_iri_chars (c ∷ cs) h

  words_iri : (parts : List (List ℕ)) → list_all (is_word test) parts ≡ true → list_all is_iri parts ≡ true
  words_iri [] h = refl
  words_iri (part ∷ parts) h =
      let both = and_parts (is_word test part) (list_all (is_word test) parts) h in
      and_from (is_iri part) (list_all is_iri parts) (word_iri part both.0) (words_iri parts both.1)

lowercase_iri : (c : ℕ) → is_ascii_lowercase c ≡ true → is_iri_char c ≡ true
lowercase_iri c h = grind (arith, nat_tests)

lowercase_or_digit_iri : (c : ℕ) → is_lowercase_or_digit c ≡ true → is_iri_char c ≡ true
lowercase_or_digit_iri c h = grind (arith, nat_tests)

parts_iri : (parts : List (List ℕ)) → are_language_parts parts ≡ true → list_all is_iri parts ≡ true
parts_iri [] h = refl
parts_iri (first ∷ later) h =
    let both = and_parts (is_word is_ascii_lowercase first) (list_all (is_word is_lowercase_or_digit) later) h in
    and_from (is_iri first) (list_all is_iri later) (word_iri is_ascii_lowercase lowercase_iri first both.0) (words_iri is_lowercase_or_digit lowercase_or_digit_iri later both.1)

-- a language may stand in an IRI
pub language_iri : (text : List ℕ) → is_language text ≡ true → is_iri text ≡ true
language_iri text h = parts_pass is_iri_char refl text ∙ parts_iri (parts_of text) h
