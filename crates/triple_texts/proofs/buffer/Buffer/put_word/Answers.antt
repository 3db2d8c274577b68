-- The word is remembered where its text lies.
use Rattle.triple_texts.proofs.buffer.Buffer.put_word.Goals as goal

pub invariant_of-self : goal.invariant_of-self
invariant_of-self c = c.remember_word.ensures c.self.inside.bytes.items c.self.invariant (rw (c.self.view_is, c.requires) c.in_ok-span.ensures.span)
