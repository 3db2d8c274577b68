-- What stood there before the lines so far is still in front where the next one gets no memory.
use Rattle.std.proofs.Common.{arith}
use Rattle.rdf_term.proofs.Appending.{refused_on}
use Rattle.replica.proofs.ByTexts.{one_more_line}
use Rattle.replica.proofs.record.write_triples.Goals as goal

pub loop-index-preserved : goal.loop-index-preserved
loop-index-preserved c =
    one_more_line c.args.out.now.items c.loop-index.out.items c.write_texts.new.out.items c.args.triples.now c.loop-index.index c.get.result (omega (arith, c.loop-index-test.true, c.len-index-end.ensures)) c.get.ensures
    c.loop-index.invariant c.in_ok-write_texts.ensures

pub returns-in_err-write_texts : goal.returns-in_err-write_texts
returns-in_err-write_texts c = refused_on c.args.out.now.items _ _ _ _ _ c.from_residual.ensures.0 c.loop-index.invariant c.in_err-write_texts.ensures
