-- What is put for the predicate and the object leaves the text of the subject.
use Rattle.triple_sink.specs.TermRef.{meant}
use Rattle.triple_texts.proofs.Placed.{span_kept}
use Rattle.triple_texts.proofs.triple_texts.put_triple.Goals as goal

pub returns-clause-spans : goal.returns-clause-spans
returns-clause-spans c = record {
  subject = rw c.in_ok-spans.ensures.subject (span_kept c.put_near.new.self c.put_behind.new.buffer (meant c.args.subject.now) c.in_ok-place.place c.in_ok-spans.ensures.kept c.in_ok-place.ensures.span);
  predicate = c.in_ok-spans.ensures.predicate;
  object = c.in_ok-spans.ensures.object;
}
