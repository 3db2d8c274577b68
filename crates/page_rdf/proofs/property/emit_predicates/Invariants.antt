-- The triples of the predicates so far.
use Rattle.std.proofs.Common.{take}
use Rattle.triple_sink.specs.Gains.{Gains, KeepsFront}
use Rattle.page_rdf.specs.Property.{predicate_triples}
use Rattle.page_rdf.proofs.property.emit_predicates.Given as goal

abbrev pub invariant-loop-said : goal.invariant-loop-said
invariant-loop-said g l =
    Gains g.S.TripleSink.items g.S.TripleSink.keeps l.fn.out l.out (predicate_triples l.id (take l.said-index l.predicates))
    × KeepsFront g.S.TripleSink.items l.fn.out l.out
