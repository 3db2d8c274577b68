-- The last triple has the subject where its text lies there.
use Rattle.std.proofs.Common.{refl, arith}
use Rattle.triple_sink.specs.TermRef.{meant}
use Rattle.triple_texts.proofs.Placed.{has_subject}
use Rattle.triple_texts.proofs.triple_texts.TripleTextsTripleSink.known_index.Goals as goal

pub returns-then-lies_there : goal.returns-then-lies_there
returns-then-lies_there c =
    rw (← c.self.view_is) (has_subject c.self.inside.buffer c.self.inside.all_spans.items c.in_ok-index.index (meant c.args.subject.now) c.index.result.now (omega arith) c.index.ensures ((rw c.as_slice.ensures at c.if-lies_there.ensures) refl))
