-- The deliveries of the items so far were taken and counted, and nothing was printed.
use Rattle.std.proofs.Common.{◌≡◌, ◌*◌, None}
use Rattle.text_output.specs.Printing.{output}
use Rattle.drill_replay.specs.Drill.{drill}
use Rattle.drill_replay.specs.Playing.{HasFew}
use Rattle.session.specs.DrillPlaying.{HasTakenFirst}
use Rattle.session.proofs.drill_playing.play.Given as goal

abbrev pub invariant-loop-done : goal.invariant-loop-done
invariant-loop-done g l = record {
  size_is : l.run.size ≡ l.size;
  taken : HasTakenFirst l.run (drill l.done) (output g.K.Sink l.out) l.replay.world;
  routes : l.replay.routes ≡ None;
  few : HasFew l.run.counts (6 * l.done);
  silent : output g.K.Sink l.out ≡ output g.K.Sink l.fn.out;
}
