-- The IRI of an entity by a text.
use Rattle.std.proofs.Common.{◌≡◌, ℕ, Bool, true, ◌&&◌, List, [], ◌∷◌, ◌++◌, refl, ap, ◌∙◌}
use Rattle.std.specs.List.{list_all}
use Rattle.rdf_term.specs.Grammar.{iri_of, is_iri, is_iri_char}
use Rattle.rdf_term.proofs.IriChars.{iri_of_same}
use Rattle.rdf_vocabulary.specs.declared.prefix.Prefix.TheVariants.{Wd}
use Rattle.rdf_vocabulary.specs.Prefix.{prefix_text, prefixed}

-- the namespace of entities is an IRI as it stands, and so is a name that is one behind it
named_iri : (name : List ℕ) → is_iri name ≡ true → is_iri (prefix_text Wd ++ name) ≡ true
unfolding prefix_text
named_iri name is = is

pub entity_iri : (text name : List ℕ) → text ≡ prefix_text Wd ++ name → is_iri name ≡ true → iri_of text ≡ prefixed Wd name
entity_iri text name front is = rw front (iri_of_same (prefix_text Wd ++ name) (named_iri name is))
