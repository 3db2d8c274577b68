-- The sink has gained the triples so far.
use Rattle.std.proofs.Common.{take}
use Rattle.triple_sink.specs.Gains.{Gains, KeepsFront}
use Rattle.triple_sink.proofs.sink.emit_all.Given as goal

abbrev pub invariant-loop-triple : goal.invariant-loop-triple
invariant-loop-triple g l =
    Gains g.S.TripleSink.items g.S.TripleSink.keeps l.fn.out l.out (take l.triple-index l.triples)
    × KeepsFront g.S.TripleSink.items l.fn.out l.out
