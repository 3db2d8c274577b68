-- Words whose texts lie in a buffer.
use Rattle.std.specs.Prelude.{ℕ, List}
use Rattle.rdf_term.specs.declared.term.Term.{Term}
use Rattle.rdf_vocabulary.specs.Predicate.{predicate_term}
use Rattle.rdf_vocabulary.specs.Prefix.{id_term}
use Rattle.rdf_vocabulary.specs.Resource.{resource_term}
use Rattle.triple_texts.specs.declared.buffer.PlacedWord.{PlacedWord}
use Rattle.triple_texts.specs.declared.word.Word.{Word}
use Rattle.triple_texts.specs.declared.word.Word.TheVariants.{Predicate, Resource, Id}
use Rattle.triple_texts.specs.Spans.{IsSpanOf}

-- the term of a word
abbrev pub word_term : Word → Term
word_term (Predicate word) = predicate_term word
word_term (Resource word) = resource_term word
word_term (Id prefix id) = id_term prefix id

-- the text of the word lies there
abbrev pub IsPlaced : List ℕ → PlacedWord → Type 0
IsPlaced bytes placed = IsSpanOf bytes (word_term placed.word) placed.span
