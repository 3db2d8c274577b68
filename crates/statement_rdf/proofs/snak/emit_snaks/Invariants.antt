-- The sink has gained the triples of the snaks so far.
use Rattle.std.proofs.Common.{◌≡◌, take}
use Rattle.std.specs.List.{flat_map}
use Rattle.triple_sink.specs.Gains.{Gains, KeepsFront}
use Rattle.triple_sink.specs.TermRef.{meant}
use Rattle.statement_rdf.specs.Snak.{snak_triples}
use Rattle.statement_rdf.proofs.snak.emit_snaks.Given as goal

abbrev pub invariant-loop-snak : goal.invariant-loop-snak
invariant-loop-snak g l =
    Gains g.S.TripleSink.items g.S.TripleSink.keeps l.fn.out l.out (flat_map (snak_triples l.setting.version (meant l.subject.term) l.fn.labels l.role) (take l.snak-index l.snaks))
    × KeepsFront g.S.TripleSink.items l.fn.out l.out
    × (l.labels ≡ l.fn.labels)
