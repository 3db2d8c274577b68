-- Subjects that triples of a sink have already.
use Rattle.std.specs.Prelude.{◌≡◌, ℕ, List, [], ◌∷◌, ◌++◌, length, take, IfSome}
use Rattle.rdf_term.specs.declared.term.Term.{Term}
use Rattle.rdf_term.specs.declared.triple.Triple.{Triple}
use Rattle.triple_sink.specs.declared.subject.Subject.{Subject}
use Rattle.triple_sink.specs.TermRef.{meant}

-- the triple at an index has the subject: the triples begin with some that are as many as the index, and with it
pub record HasSubject (triples : List Triple) (subject : Term) (index : ℕ) : Type 0 where
  pub before : List Triple
  pub this : Triple
  pub begins : take (length (before ++ this ∷ [])) triples ≡ before ++ this ∷ []
  pub place : length before ≡ index
  pub same : this.subject ≡ subject

-- where an index is told, the triple of the sink at this index has the subject
abbrev pub IsKnown : {S : Type 0} → (S → List Triple) → S → Subject → Type 0
IsKnown items sink subject = IfSome subject.index (HasSubject (items sink) (meant subject.term))
