use Rattle.triple_texts.proofs.Placed.{repeats}
use Rattle.triple_texts.proofs.triple_texts.TripleTexts.repeats_subject.Goals as goal

pub returns-in-Some : goal.returns-in-Some
returns-in-Some c = λ is.
    rw (← c.self.view_is) (repeats c.self.inside.buffer c.self.inside.all_spans.items c.args.index c.in-Some.before c.index.result.now c.index-in-Some.result.now (rw (← c.self.view_is) at c.requires) c.in-Some.ensures c.index.ensures c.index-in-Some.ensures (c.is.ensures is))
