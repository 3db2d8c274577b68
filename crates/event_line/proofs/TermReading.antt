-- What `read_term` finds in a text is what is read from it.
use Rattle.std.proofs.Common.{◌≡◌, ◌↔◌, ℕ, List, Option, Some, None, Result, Ok, Err, IfOk, true, refl, sym, ap, ◌∙◌}
use Rattle.base.specs.declared.memory.OutOfMemory.{OutOfMemory}
use Rattle.rdf_term.specs.declared.term.Term.{Term}
use Rattle.rdf_term.specs.declared.term.Term.TheVariants.{Iri}
use Rattle.rdf_term.specs.{Grammar.is_iri, Text.in_brackets}
use Rattle.term_reading.specs.Reader.{read}
use Rattle.term_reading.specs.Written.{IsWritten}
use Rattle.term_reading.proofs.ReadBack.{reads_back}
use Rattle.term_reading.proofs.Reading.{reads}

-- what is read where nothing is found
none_read : (text : List ℕ) (term : Option Term) → read text ≡ term → ((t : Term) → IsWritten text t → None ≡ Some t) → None ≡ term
none_read text None is found = refl
none_read text (Some t) is found = found t ((reads text t).0 is)

found_read : (text : List ℕ) (found : Option Term) → ((t : Term) → (found ≡ Some t) ↔ IsWritten text t) → found ≡ read text
found_read text None written = none_read text (read text) refl (λ t. (written t).1)
found_read text (Some t) written = sym ((reads text t).1 ((written t).0 refl))

-- the same of an answer that may be that memory was refused
pub answer_read : (text : List ℕ) (answer : Result (Option Term) OutOfMemory) →
    IfOk answer (λ found. (t : Term) → (found ≡ Some t) ↔ IsWritten text t) → IfOk answer (λ found. found ≡ read text)
answer_read text (Ok found) written = found_read text found written
answer_read text (Err refused) written = tt

-- what is read of an IRI in its brackets
pub iri_read : (text iri : List ℕ) → text ≡ in_brackets iri → is_iri iri ≡ true → Some (Iri iri) ≡ read text
iri_read text iri is fit = sym (ap read is ∙ reads_back (Iri iri) fit)
