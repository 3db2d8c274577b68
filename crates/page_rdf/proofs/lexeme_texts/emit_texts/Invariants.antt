-- The triples of the texts so far.
use Rattle.std.proofs.Common.{take}
use Rattle.std.specs.List.{flat_map}
use Rattle.triple_sink.specs.Gains.{Gains, KeepsFront}
use Rattle.triple_sink.specs.TermRef.{meant}
use Rattle.page_rdf.specs.LexemeTexts.{text_triples}
use Rattle.page_rdf.proofs.lexeme_texts.emit_texts.Given as goal

abbrev pub invariant-loop-text : goal.invariant-loop-text
invariant-loop-text g l =
    Gains g.S.TripleSink.items g.S.TripleSink.keeps l.fn.out l.out (flat_map (text_triples l.predicate (meant l.node)) (take l.text-index l.texts))
    × KeepsFront g.S.TripleSink.items l.fn.out l.out
