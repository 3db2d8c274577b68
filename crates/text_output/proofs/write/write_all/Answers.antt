-- One write more of the rest.
use Rattle.text_output.proofs.Parts.{writing_more}
use Rattle.text_output.specs.Printing.{output}
use Rattle.text_output.proofs.write.write_all.Goals as goal

pub loop-rest-preserved : goal.loop-rest-preserved
loop-rest-preserved g c =
    writing_more c.args.bytes.now c.loop-rest.rest.now c.in-Ok.count (output g.K.Sink c.args.out.now) (output g.K.Sink c.loop-rest.out) (output g.K.Sink c.write.new.self)
    c.loop-rest.invariant c.in-Ok.ensures.bound c.in-Ok.ensures.bytes c.in-Ok.ensures.later c.write.ensures.most
