-- The deliveries so far were taken and counted, and nothing was printed.
use Rattle.std.proofs.Common.{◌≡◌, ◌+◌, ◌*◌, ◌++◌, None, take}
use Rattle.text_output.specs.Printing.{output}
use Rattle.drill_replay.specs.Drill.{drill}
use Rattle.drill_replay.specs.Playing.{HasFew}
use Rattle.session.specs.DrillPlaying.{HasTakenFirst}
use Rattle.session.proofs.drill_playing.DrillRun.take_item.Given as goal

abbrev pub invariant-loop-delivery : goal.invariant-loop-delivery
invariant-loop-delivery g l = record {
  size_is : l.self.size ≡ l.fn.self.size;
  taken : HasTakenFirst l.self (drill l.done ++ take l.delivery-index l.delivery-items) (output g.K.Sink l.out) l.replay.world;
  few : HasFew l.self.counts (6 * l.done + l.delivery-index);
  silent : output g.K.Sink l.out ≡ output g.K.Sink l.fn.out;
  routes : l.replay.routes ≡ None;
}
