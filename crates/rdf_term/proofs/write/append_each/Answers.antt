-- One byte more.
use Rattle.std.proofs.Common.{take}
use Rattle.rdf_term.specs.Text.{escaped}
use Rattle.rdf_term.proofs.Appending.{escaped_more, refused_on}
use Rattle.rdf_term.proofs.write.append_each.Goals as goal

pub loop-byte-preserved : goal.loop-byte-preserved
loop-byte-preserved c = escaped_more _ _ _ c.args.text.now c.loop-byte.byte-index c.loop-byte-test.true c.loop-byte.invariant c.in_ok-append_written.ensures

pub returns-in_err-append_written : goal.returns-in_err-append_written
returns-in_err-append_written c = refused_on c.args.out.now.items _ _ (escaped (take c.loop-byte.byte-index c.args.text.now)) (escaped c.args.text.now) _ c.from_residual.ensures.0 c.loop-byte.invariant c.in_err-append_written.ensures
