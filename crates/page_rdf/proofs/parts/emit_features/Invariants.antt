-- The triples of the features so far.
use Rattle.std.proofs.Common.{take}
use Rattle.std.specs.List.{flat_map}
use Rattle.triple_sink.specs.Gains.{Gains, KeepsFront}
use Rattle.triple_sink.specs.TermRef.{meant}
use Rattle.page_rdf.specs.Form.{feature_triples}
use Rattle.page_rdf.proofs.parts.emit_features.Given as goal

abbrev pub invariant-loop-feature : goal.invariant-loop-feature
invariant-loop-feature g l =
    Gains g.S.TripleSink.items g.S.TripleSink.keeps l.fn.out l.out (flat_map (feature_triples (meant l.node)) (take l.feature-index l.features))
    × KeepsFront g.S.TripleSink.items l.fn.out l.out
