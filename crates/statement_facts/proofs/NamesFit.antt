-- The names of nodes may stand in IRIs and labels, and how long they are.
use Rattle.std.proofs.Common.{◌≡◌, ℕ, ◌≤◌, Bool, true, false, ◌&&◌, cond, nat_le, List, [], ◌∷◌, length, refl, arith}
use Rattle.std.proofs.lemmas.Bool.Decides.{nat_tests}
use Rattle.std.proofs.lemmas.List.{length-append}
use Rattle.std.proofs.lemmas.List.Folds.{list_all-append}
use Rattle.std.specs.Char.{is_ascii_alphanumeric}
use Rattle.std.specs.List.{list_all}
use Rattle.rdf_term.specs.declared.term.Term.TheVariants.{Blank}
use Rattle.rdf_term.specs.Fit.{IsFitAndShort}
use Rattle.rdf_term.specs.Grammar.{is_iri, is_iri_char, is_label}
use Rattle.entity_model.specs.Reference.{is_hash}
use Rattle.rdf_vocabulary.specs.declared.prefix.Prefix.TheVariants.{Wds, Wdref}
use Rattle.rdf_vocabulary.specs.Fields.{hashed_name}
use Rattle.rdf_vocabulary.proofs.Fit.{prefixed_fit}
use Rattle.rdf_vocabulary.proofs.NamesFit.{hashed_name_letters, length-hashed_name, letters_iri}
use Rattle.rdf_vocabulary.proofs.Shared.{both, chosen}
use Rattle.statement_facts.specs.Node.{is_continuation, is_node_char, name_byte, name_char, statement_name, statement_node, reference_node}

-- what a byte of a statement's id becomes may stand in an IRI
kept_fit : (c : ℕ) → is_node_char c ≡ true → is_iri_char c ≡ true
kept_fit c h = grind (arith, nat_tests)

char_fit : (c : ℕ) → is_iri_char (name_char c) ≡ true
char_fit c = by_test (is_node_char c) refl
  where
    by_test : (b : Bool) → is_node_char c ≡ b → is_iri_char (cond b c 45) ≡ true
    by_test true e = kept_fit c e
    by_test false e = refl

byte_fit : (b : ℕ) → is_iri (name_byte b) ≡ true
byte_fit b = chosen (λ (t : List ℕ). is_iri t ≡ true) (is_continuation b) [] (name_char b ∷ []) refl (rw (char_fit b) refl)

byte_short : (b : ℕ) → length (name_byte b) ≤ 1
byte_short b = chosen (λ (t : List ℕ). length t ≤ 1) (is_continuation b) [] (name_char b ∷ []) (omega arith) (omega arith)

name_iri : (id : List ℕ) → is_iri (statement_name id) ≡ true
name_iri [] = refl
name_iri (b ∷ id) = rw (list_all-append is_iri_char (name_byte b) (statement_name id), byte_fit b) (name_iri id)

name_short : (id : List ℕ) → length (statement_name id) ≤ length id
name_short [] = omega arith
name_short (b ∷ id) = omega (arith, byte_short b, name_short id, length-append (name_byte b) (statement_name id))

-- the node of a statement
pub statement_node_fit : (id : List ℕ) → length id ≤ 8388608 → IsFitAndShort (statement_node id)
statement_node_fit id h = prefixed_fit Wds (statement_name id) (name_iri id) (omega (arith, name_short id))

-- the node of a reference
pub reference_node_fit : (hash : List ℕ) → is_hash hash ≡ true → IsFitAndShort (reference_node hash)
reference_node_fit hash h =
    let parts = both (nat_le 1 (length hash) && nat_le (length hash) 64) (list_all is_ascii_alphanumeric hash) h in
    let sizes = both (nat_le 1 (length hash)) (nat_le (length hash) 64) parts.0 in
    let short : length hash ≤ 64 = grind (arith, nat_tests) in
    prefixed_fit Wdref hash (letters_iri hash parts.1) (omega arith)

label : (text : List ℕ) → length text ≡ 32 → list_all is_ascii_alphanumeric text ≡ true → is_label text ≡ true
label [] long h = absurd (omega arith)
label (c ∷ text) long h = h

-- the blank node of a hashed name
pub blank_fit : (fields : List ℕ) → IsFitAndShort (Blank (hashed_name fields))
blank_fit fields = record {
  fit = label (hashed_name fields) (length-hashed_name fields) (hashed_name_letters fields);
  short = omega (arith, length-hashed_name fields);
}
