-- The triples of the labels so far.
use Rattle.std.proofs.Common.{take}
use Rattle.std.specs.List.{flat_map}
use Rattle.triple_sink.specs.Gains.{Gains, KeepsFront}
use Rattle.triple_sink.specs.TermRef.{meant}
use Rattle.page_rdf.specs.About.{label_triples}
use Rattle.page_rdf.proofs.about.emit_labels.Given as goal

abbrev pub invariant-loop-label : goal.invariant-loop-label
invariant-loop-label g l =
    Gains g.S.TripleSink.items g.S.TripleSink.keeps l.fn.out l.out (flat_map (label_triples (meant l.entity)) (take l.label-index l.labels))
    × KeepsFront g.S.TripleSink.items l.fn.out l.out
