-- A subject that is known stays known.
use Rattle.std.proofs.Common.{◌≡◌, ℕ, List, [], ◌∷◌, ◌++◌, length, take}
use Rattle.std.specs.Prelude.{Option, Some, None, IfSome}
use Rattle.rdf_term.specs.declared.term.Term.{Term}
use Rattle.rdf_term.specs.declared.triple.Triple.{Triple}
use Rattle.triple_sink.specs.Gains.{KeepsFront}
use Rattle.triple_sink.specs.Subject.{HasSubject, IsKnown}
use Rattle.triple_sink.specs.TermRef.{meant}
use Rattle.triple_sink.specs.declared.subject.Subject.{Subject}

module _ {S : Type 0} (items : S → List Triple) (old new : S) (front : KeepsFront items old new) where
  still_at : (term : Term) (index : Option ℕ) → IfSome index (HasSubject (items old) term) → IfSome index (HasSubject (items new) term)
  still_at term None h = h
  still_at term (Some index) h = record {
    before = h.before;
    this = h.this;
    begins = front (h.before ++ h.this ∷ []) h.begins;
    place = h.place;
    same = h.same;
  }

-- where a sink begins with what it held
pub still_known : {S : Type 0} (items : S → List Triple) (old new : S) (subject : Subject) → KeepsFront items old new → IsKnown items old subject → IsKnown items new subject
still_known items old new subject front known = still_at items old new front (meant subject.term) subject.index known
