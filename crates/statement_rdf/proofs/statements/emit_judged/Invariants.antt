-- The triples of the statements so far.
use Rattle.std.proofs.Common.{◌≡◌, take}
use Rattle.std.specs.List.{flat_map}
use Rattle.triple_sink.specs.Gains.{Gains, KeepsFront}
use Rattle.triple_sink.specs.TermRef.{meant}
use Rattle.statement_rdf.specs.Statements.{judged_triples}
use Rattle.statement_rdf.proofs.statements.emit_judged.Given as goal

abbrev pub invariant-loop-statement : goal.invariant-loop-statement
invariant-loop-statement g l =
    (l.index ≡ l.statement-index)
    × Gains g.S.TripleSink.items g.S.TripleSink.keeps l.fn.out l.out (flat_map (judged_triples l.setting.version (meant l.subject) l.statements) (take l.statement-index l.statements))
    × KeepsFront g.S.TripleSink.items l.fn.out l.out
