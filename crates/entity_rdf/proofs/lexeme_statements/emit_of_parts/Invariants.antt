-- The triples of the statements of the parts so far.
use Rattle.std.proofs.Common.{take}
use Rattle.std.specs.List.{flat_map}
use Rattle.triple_sink.specs.Gains.{Gains, KeepsFront}
use Rattle.entity_rdf.specs.LexemeStatements.{part_statements}
use Rattle.entity_rdf.proofs.lexeme_statements.emit_of_parts.Given as goal

abbrev pub invariant-loop-part : goal.invariant-loop-part
invariant-loop-part g l =
    Gains g.S.TripleSink.items g.S.TripleSink.keeps l.fn.out l.out (flat_map (part_statements l.setting.version) (take l.part-index l.parts))
    × KeepsFront g.S.TripleSink.items l.fn.out l.out
