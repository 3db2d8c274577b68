-- The world leads where it led, and fewer events wait each time.
use Rattle.std.proofs.Common.{◌≡◌, length}
use Rattle.text_output.specs.Printing.{output}
use Rattle.checkpoint.specs.Saved.{AreWithin}
use Rattle.splitting.specs.Graphs.{MayFollow, routes_of}
use Rattle.run_model.specs.{declared.report.Report.TheVariants.Answers, Moment.HasGoneOn, Moment.HasWrittenOn, Moment.stage}
use Rattle.run_model.specs.{Moved.environment_in, Moved.GoesOn, Moved.moved, Remapping.KeepsVersion, Remapping.mapped_in}
use Rattle.run_model.proofs.Due.{Goes}
use Rattle.session.proofs.delivering.apply_due.Given as goal

abbrev pub invariant-loop-applied : goal.invariant-loop-applied
invariant-loop-applied g l = record {
  goes : Goes (environment_in l.fn.replay l.context.report (g.R.Revisions.contents l.fn.revisions) l.context.folder.now) l.context.reported l.reported
      (stage g.R.Revisions g.K.Sink l.fn.revisions l.fn.out l.fn.replay.world) (stage g.R.Revisions g.K.Sink l.revisions l.out l.replay-inside.world);
  source : HasGoneOn g.R.Revisions l.fn.revisions l.revisions;
  kept : MayFollow l.replay-inside.graphs l.replay-inside.world × AreWithin l.replay-inside.earlier;
  same : GoesOn l.fn.replay (moved l.replay-inside.world (routes_of l.replay-inside.graphs) l.replay-inside.earlier);
  versions : KeepsVersion (mapped_in l.fn.replay.world) (mapped_in l.replay-inside.world) l.fn.replay.world.replay.played.records l.replay-inside.world.replay.played.records;
  written : HasWrittenOn g.K.Sink l.fn.out l.out;
  silent : l.context.report ≡ Answers → output g.K.Sink l.out ≡ output g.K.Sink l.fn.out;
}

abbrev pub decreases-loop-applied : goal.decreases-loop-applied
decreases-loop-applied g l = length l.replay-inside.world.replay.buffer.waiting
