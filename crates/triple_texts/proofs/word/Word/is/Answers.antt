-- Predicates that are equal are one.
use denote.Enum.Bare.{same_true}
use Rattle.std.proofs.Common.{◌≡◌, sym, ap, ◌∙◌}
use Rattle.rdf_vocabulary.specs.Predicate.{predicate_term}
use Rattle.rdf_vocabulary.specs.contracts.predicate.Predicate.{the_type}
use Rattle.triple_texts.proofs.word.Word.is.Goals as goal

pub returns-in-Predicate-Predicate : goal.returns-in-Predicate-Predicate
returns-in-Predicate-Predicate c = λ is.
    let same : c.in-Predicate-Predicate.one ≡ c.in-Predicate-Predicate.two = same_true the_type tt c.in-Predicate-Predicate.one c.in-Predicate-Predicate.two (sym c.eq.ensures ∙ is) in
    rw (c.in-Predicate-Predicate.is-0, c.in-Predicate-Predicate.is-1) (ap predicate_term same)
