-- All that waits is applied, or memory is refused; there is always room.
use Rattle.std.proofs.Common.{[]}
use Rattle.text_output.specs.Printing.{output}
use Rattle.session.proofs.DrillPlaying.{end_halted, end_reached, end_starved, leaves_end}
use Rattle.session.proofs.drill_playing.DrillRun.take_end.Goals as goal

pub starved-requires : goal.starved-requires
starved-requires g c =
    let call = c.in-Err.ensures in
    end_starved c.args.self.now [] (output g.K.Sink c.args.out.now) c.args.replay.now.world c.requires.taken c.take_end.new.revisions (output g.K.Sink c.take_end.new.out) c.take_end.new.replay.world c.requires.size _ (rw c.requires.routes at call.err) call.versions (rw c.requires.routes at call.held_up)

pub returns-in-Ok-clause-ok : goal.returns-in-Ok-clause-ok
returns-in-Ok-clause-ok g c =
    let call = c.in-Ok.ensures in
    end_reached c.args.self.now [] (output g.K.Sink c.args.out.now) c.args.replay.now.world c.requires.taken c.take_end.new.revisions (output g.K.Sink c.take_end.new.out) c.take_end.new.replay.world _ (rw c.requires.routes at call.ok) call.versions call.written.faults

pub returns-in-Ok-clause-left : goal.returns-in-Ok-clause-left
returns-in-Ok-clause-left g c =
    let call = c.in-Ok.ensures in
    leaves_end c.args.self.now [] (output g.K.Sink c.args.out.now) c.args.replay.now.world c.requires.taken c.take_end.new.revisions (output g.K.Sink c.take_end.new.out) c.take_end.new.replay.world call.versions call.same.limit

pub returns-in-Err-clause-err : goal.returns-in-Err-clause-err
returns-in-Err-clause-err g c =
    let call = c.in-Err.ensures in
    end_halted c.args.self.now [] (output g.K.Sink c.args.out.now) c.args.replay.now.world c.requires.taken c.take_end.new.revisions (output g.K.Sink c.take_end.new.out) c.take_end.new.replay.world _ (rw c.requires.routes at call.err)

pub returns-in-Err-clause-left : goal.returns-in-Err-clause-left
returns-in-Err-clause-left g c =
    let call = c.in-Err.ensures in
    leaves_end c.args.self.now [] (output g.K.Sink c.args.out.now) c.args.replay.now.world c.requires.taken c.take_end.new.revisions (output g.K.Sink c.take_end.new.out) c.take_end.new.replay.world call.versions call.same.limit
