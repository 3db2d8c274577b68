-- The name of a type of properties may stand in an IRI, and is no longer than its datatype.
use Rattle.std.proofs.Common.{◌≡◌, ℕ, ◌+◌, ◌≤◌, Bool, true, false, cond, List, [], ◌∷◌, length, refl, arith}
use Rattle.std.proofs.lemmas.Bool.Decides.{nat_tests}
use Rattle.std.proofs.lemmas.List.{length-append}
use Rattle.std.proofs.lemmas.List.Folds.{list_all-append}
use Rattle.std.specs.Char.{to_ascii_uppercase}
use Rattle.std.specs.List.{flat_map, list_all, slice_split, onto_first}
use Rattle.rdf_term.specs.Grammar.{is_iri, is_iri_char, is_word}
use Rattle.rdf_vocabulary.proofs.Shared.{both}
use Rattle.page_rdf.specs.Property.{capitalized, is_datatype_char, is_hyphen, type_name}

-- each character of each part is one of a datatype
abbrev are_parts : List (List ℕ) → Bool
are_parts parts = list_all (list_all is_datatype_char) parts

onto_parts : (c : ℕ) (parts : List (List ℕ)) → is_datatype_char c ≡ true → are_parts parts ≡ true → are_parts (onto_first c parts) ≡ true
onto_parts c [] h all = rw h refl
onto_parts c (part ∷ parts) h all = rw h all

by_hyphen : (b : Bool) (c : ℕ) (parts : List (List ℕ)) → is_datatype_char c ≡ true → are_parts parts ≡ true → are_parts (cond b ([] ∷ parts) (onto_first c parts)) ≡ true
by_hyphen true c parts h all = all
by_hyphen false c parts h all = onto_parts c parts h all

split_parts : (text : List ℕ) → list_all is_datatype_char text ≡ true → are_parts (slice_split is_hyphen text) ≡ true
split_parts [] h = refl
split_parts (c ∷ cs) h =
    let here = both (is_datatype_char c) (list_all is_datatype_char cs) h in
    by_hyphen (is_hyphen c) c (slice_split is_hyphen cs) here.0 (split_parts cs here.1)

char_iri : (c : ℕ) → is_datatype_char c ≡ true → is_iri_char c ≡ true
char_iri c h = grind (arith, nat_tests)

upper_iri : (c : ℕ) → is_datatype_char c ≡ true → is_iri_char (to_ascii_uppercase c) ≡ true
upper_iri c h = grind (arith, nat_tests)

chars_iri : (text : List ℕ) → list_all is_datatype_char text ≡ true → is_iri text ≡ true
chars_iri [] h = refl
chars_iri (c ∷ cs) h =
    let here = both (is_datatype_char c) (list_all is_datatype_char cs) h in rw (char_iri c here.0) (chars_iri cs here.1)

part_iri : (part : List ℕ) → list_all is_datatype_char part ≡ true → is_iri (capitalized part) ≡ true
part_iri [] h = refl
part_iri (c ∷ cs) h =
    let here = both (is_datatype_char c) (list_all is_datatype_char cs) h in rw (upper_iri c here.0) (chars_iri cs here.1)

parts_iri : (parts : List (List ℕ)) → are_parts parts ≡ true → is_iri (flat_map capitalized parts) ≡ true
parts_iri [] h = refl
parts_iri (part ∷ parts) h =
    let here = both (list_all is_datatype_char part) (are_parts parts) h in
    rw (list_all-append is_iri_char (capitalized part) (flat_map capitalized parts), part_iri part here.0) (parts_iri parts here.1)

word_chars : (text : List ℕ) → is_word is_datatype_char text ≡ true → list_all is_datatype_char text ≡ true
word_chars [] h = refl
word_chars (c ∷ cs) h = h

-- the name may stand in an IRI
pub type_name_iri : (datatype : List ℕ) → is_word is_datatype_char datatype ≡ true → is_iri (type_name datatype) ≡ true
type_name_iri datatype h = parts_iri (slice_split is_hyphen datatype) (split_parts datatype (word_chars datatype h))

length-capitalized : (part : List ℕ) → length (capitalized part) ≡ length part
length-capitalized [] = refl
length-capitalized (c ∷ cs) = refl

joined_more : (part : List ℕ) (parts : List (List ℕ)) → length (flat_map capitalized (part ∷ parts)) ≡ length part + length (flat_map capitalized parts)
joined_more part parts =
    omega (arith, length-append (capitalized part) (flat_map capitalized parts), length-capitalized part)

onto_longer : (c : ℕ) (parts : List (List ℕ)) → length (flat_map capitalized (onto_first c parts)) ≤ 1 + length (flat_map capitalized parts)
onto_longer c [] = omega arith
onto_longer c (part ∷ parts) = omega (arith, joined_more (c ∷ part) parts, joined_more part parts)

split_longer : (b : Bool) (c : ℕ) (parts : List (List ℕ)) → length (flat_map capitalized (cond b ([] ∷ parts) (onto_first c parts))) ≤ 1 + length (flat_map capitalized parts)
split_longer true c parts = omega (arith, joined_more [] parts)
split_longer false c parts = onto_longer c parts

-- and is no longer than the datatype
pub type_name_short : (datatype : List ℕ) → length (type_name datatype) ≤ length datatype
type_name_short [] = omega arith
type_name_short (c ∷ cs) = omega (arith, split_longer (is_hyphen c) c (slice_split is_hyphen cs), type_name_short cs)
