-- The triples of the parts so far.
use Rattle.std.proofs.Common.{take}
use Rattle.std.specs.List.{flat_map}
use Rattle.triple_sink.specs.Gains.{Gains, KeepsFront}
use Rattle.triple_sink.specs.TermRef.{meant}
use Rattle.page_rdf.specs.Parts.{triples_of}
use Rattle.page_rdf.proofs.parts.emit_parts.Given as goal

abbrev pub invariant-loop-part : goal.invariant-loop-part
invariant-loop-part g l =
    Gains g.S.TripleSink.items g.S.TripleSink.keeps l.fn.out l.out (flat_map (triples_of l.kind (meant l.entity)) (take l.part-index l.parts))
    × KeepsFront g.S.TripleSink.items l.fn.out l.out
