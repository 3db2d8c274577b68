-- Byte by byte.
use Rattle.std.proofs.Common.{refl, sym, arith}
use Rattle.replica.proofs.TermEnds.{goes_on, not_ended, stops_here, with_front-nil}
use Rattle.replica.proofs.term_end.split_at_space.Goals as goal

pub loop-index-init : goal.loop-index-init
loop-index-init c = sym (with_front-nil _)

pub returns-in-None : goal.returns-in-None
returns-in-None c = stops_here c.args.bytes.now c.loop-index.state c.loop-index.index _ (omega arith) refl (sym c.in-None.ensures) c.loop-index.invariant

pub loop-index-preserved : goal.loop-index-preserved
loop-index-preserved c = goes_on c.args.bytes.now c.loop-index.state c.in-Some.next c.loop-index.index _ (omega arith) refl (sym c.in-Some.ensures) c.loop-index.invariant

pub returns : goal.returns
returns c = not_ended c.args.bytes.now c.loop-index.state c.loop-index.index (omega arith) c.loop-index.invariant
