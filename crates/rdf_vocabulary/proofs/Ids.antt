-- The text of an id may stand in an IRI and is short.
use Rattle.std.proofs.Common.{◌≡◌, ℕ, zero, suc, ◌/◌, ◌%◌, ◌==◌, ◌≤◌, true, false, List, [], ◌∷◌, length, decimal, refl, arith}
use Rattle.std.proofs.lemmas.Bool.{agree_below, agree_below_at}
use Rattle.std.specs.Fmt.{digits, digits_onto, digit_glyph}
use Rattle.digits.proofs.Decimals.{decimal_short}
use Rattle.rdf_term.specs.Fit.{IsFitAndShort}
use Rattle.rdf_term.specs.Grammar.{is_iri, is_iri_char}
use Rattle.entity_model.specs.declared.id.EntityId.{EntityId}
use Rattle.entity_model.specs.declared.id.IdKind.{IdKind}
use Rattle.entity_model.specs.declared.id.IdKind.TheVariants as Kinds
use Rattle.entity_model.specs.EntityId.{id_text}
use Rattle.entity_model.specs.IdKind.{letter_of}
use Rattle.rdf_vocabulary.specs.declared.prefix.Prefix.{Prefix}
use Rattle.rdf_vocabulary.specs.Prefix.{id_term}
use Rattle.rdf_vocabulary.proofs.Fit.{prefixed_fit}
use Rattle.rdf_vocabulary.proofs.Shared.{chosen}

glyphs : agree_below (λ n. is_iri_char (digit_glyph false n)) (λ n. true) 10 ≡ true
glyphs = refl

glyph_fit : (n : ℕ) → is_iri_char (digit_glyph false (n % 10)) ≡ true
glyph_fit n = agree_below_at (λ m. is_iri_char (digit_glyph false m)) (λ m. true) 10 (n % 10) glyphs (omega arith)

digits_onto_iri : (k n : ℕ) (acc : List ℕ) → is_iri acc ≡ true → is_iri (digits_onto k 10 false n acc) ≡ true
digits_onto_iri zero n acc h = h
digits_onto_iri (suc k) n acc h =
    let more : is_iri (digit_glyph false (n % 10) ∷ acc) ≡ true = rw (glyph_fit n) h in
    chosen (λ (t : List ℕ). is_iri t ≡ true) (n / 10 == 0) _ _ more (digits_onto_iri k (n / 10) (digit_glyph false (n % 10) ∷ acc) more)

-- a number in decimal may stand in an IRI
pub decimal_iri : (n : ℕ) → is_iri (decimal n) ≡ true
unfolding digits
decimal_iri n = digits_onto_iri 64 n [] refl

letter_fit : (kind : IdKind) → is_iri_char (letter_of kind) ≡ true
letter_fit Kinds.P = refl
letter_fit Kinds.Q = refl
letter_fit Kinds.L = refl

-- an id may stand in an IRI
pub id_text_iri : (id : EntityId) → is_iri (id_text id) ≡ true
id_text_iri id = rw (letter_fit id.kind) (decimal_iri id.number)

-- and has at most 65 bytes
pub id_text_short : (id : EntityId) → length (id_text id) ≤ 65
id_text_short id = omega (arith, decimal_short id.number)

-- the IRI of an id is fit and short
pub id_term_fit : (prefix : Prefix) (id : EntityId) → IsFitAndShort (id_term prefix id)
id_term_fit prefix id = prefixed_fit prefix (id_text id) (id_text_iri id) (omega (arith, id_text_short id))
