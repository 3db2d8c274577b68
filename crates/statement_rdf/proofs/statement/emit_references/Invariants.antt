-- The sink has gained the triples of the references so far.
use Rattle.std.proofs.Common.{◌≡◌, take}
use Rattle.std.specs.List.{flat_map}
use Rattle.triple_sink.specs.Gains.{Gains, KeepsFront}
use Rattle.triple_sink.specs.TermRef.{meant}
use Rattle.statement_rdf.specs.Statement.{reference_triples}
use Rattle.statement_rdf.proofs.statement.emit_references.Given as goal

abbrev pub invariant-loop-reference : goal.invariant-loop-reference
invariant-loop-reference g l =
    Gains g.S.TripleSink.items g.S.TripleSink.keeps l.fn.out l.out (flat_map (reference_triples l.setting.version (meant l.node.term) l.fn.labels) (take l.reference-index l.references))
    × KeepsFront g.S.TripleSink.items l.fn.out l.out
    × (l.labels ≡ l.fn.labels)
